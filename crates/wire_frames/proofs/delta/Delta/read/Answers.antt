use Rattle.std.proofs.Common.{◌≡◌, length, rules, arith, subst}
use Rattle.std.specs.Prelude.{IfErr, IfOk}
use Rattle.std.proofs.lemmas.Grind.{common_steps}
use Rattle.wire_frames.specs.declared.version.Version.{Version}
use Rattle.wire_frames.specs.Seen.{Seen, Standing}
use Rattle.wire_http.specs.Streams.{Gives}
use Rattle.wire_frames.specs.Encoding.{encoding_as}
use Rattle.wire_frames.specs.Rules.{IsDeltaAs}
use Rattle.wire_frames.specs.Sources.{ReadsCalls, StopsReading, of_stream, standing}
use Rattle.wire_frames.proofs.StreamReads.{fresh_source, reads_calls, reads_frame, reads_known, reads_stop}
use Rattle.wire_frames.proofs.delta.Delta.read.Goals as goal

pub returns-clause-frame : goal.returns-clause-frame
returns-clause-frame g c =
    let s = c.new-input.result in
    let n = c.frame_of-result.new.input in
    let stream = g.S.Source.stream in
    let calls = g.S.Source.calls in
    let old : Seen = of_stream stream calls s.track.now.start.value s.begun s.source s.interrupted s.bytes s.track.now.taken s.limit in
    let new : Seen = of_stream stream calls n.track.now.start.value n.begun n.source n.interrupted n.bytes n.track.now.taken n.limit in
    let stands : Standing = standing stream calls c.args.reader.now c.args.interrupted.now in
    let fresh = fresh_source stands c.args.bytes _ old c.new-input.ensures in
    subst (λ x. IfOk c.frame_of-result.result (λ d. (v : Version) × IsDeltaAs v d × (length (encoding_as v d) ≡ c.args.bytes) × Gives (stream c.args.reader.now) (stream x) (encoding_as v d))) (first_of (search rules, grind (arith, common_steps))) (reads_frame stands c.args.bytes old new c.frame_of-result.result fresh c.frame_of-result.ensures.answers c.interrupted.ensures.sound c.frame_of-result.ensures.whole)

pub returns-clause-stop : goal.returns-clause-stop
returns-clause-stop g c =
    let s = c.new-input.result in
    let n = c.frame_of-result.new.input in
    let stream = g.S.Source.stream in
    let calls = g.S.Source.calls in
    let old : Seen = of_stream stream calls s.track.now.start.value s.begun s.source s.interrupted s.bytes s.track.now.taken s.limit in
    let new : Seen = of_stream stream calls n.track.now.start.value n.begun n.source n.interrupted n.bytes n.track.now.taken n.limit in
    let stands : Standing = standing stream calls c.args.reader.now c.args.interrupted.now in
    let fresh = fresh_source stands c.args.bytes _ old c.new-input.ensures in
    subst (λ x. IfErr c.frame_of-result.result (StopsReading c.args.bytes (stream c.args.reader.now) (stream x))) (first_of (search rules, grind (arith, common_steps))) (reads_stop stands c.args.bytes old new c.frame_of-result.result fresh c.frame_of-result.ensures.answers c.interrupted.ensures.sound)

pub returns-clause-known : goal.returns-clause-known
returns-clause-known g c =
    let s = c.new-input.result in
    let n = c.frame_of-result.new.input in
    let stream = g.S.Source.stream in
    let calls = g.S.Source.calls in
    let old : Seen = of_stream stream calls s.track.now.start.value s.begun s.source s.interrupted s.bytes s.track.now.taken s.limit in
    let new : Seen = of_stream stream calls n.track.now.start.value n.begun n.source n.interrupted n.bytes n.track.now.taken n.limit in
    let stands : Standing = standing stream calls c.args.reader.now c.args.interrupted.now in
    let fresh = fresh_source stands c.args.bytes _ old c.new-input.ensures in
    reads_known stands c.args.bytes old new c.frame_of-result.result fresh c.frame_of-result.ensures.answers c.interrupted.ensures.sound

pub returns-clause-calls : goal.returns-clause-calls
returns-clause-calls g c =
    let s = c.new-input.result in
    let n = c.frame_of-result.new.input in
    let stream = g.S.Source.stream in
    let calls = g.S.Source.calls in
    let old : Seen = of_stream stream calls s.track.now.start.value s.begun s.source s.interrupted s.bytes s.track.now.taken s.limit in
    let new : Seen = of_stream stream calls n.track.now.start.value n.begun n.source n.interrupted n.bytes n.track.now.taken n.limit in
    let stands : Standing = standing stream calls c.args.reader.now c.args.interrupted.now in
    let fresh = fresh_source stands c.args.bytes _ old c.new-input.ensures in
    subst (λ x. ReadsCalls c.args.bytes c.args.interrupted.now (calls c.args.reader.now) (calls x) c.frame_of-result.result) (first_of (search rules, grind (arith, common_steps))) (reads_calls stands c.args.bytes old new c.frame_of-result.result c.requires fresh c.frame_of-result.ensures.answers c.interrupted.ensures.sound)
