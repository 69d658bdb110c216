use Rattle.std.proofs.Common.{◌∙◌, ℕ, List, ap, subst, sym}
use Rattle.theory_history.specs.Merging.{IsTelling}
use Rattle.state_replica.specs.Replicas.{view_of}
use Rattle.wire_frames.specs.Frames.{Frame, IsFrame}
use Rattle.wire_frames.specs.Grammar.{IsOfGrammar}
use Rattle.wire_frames.specs.Sending.{frame_told}
use Rattle.wire_frames.proofs.Grammar.{grammar_law}
use Rattle.wire_frames.proofs.OfSets.{frame_stands}
use Rattle.wire_frames.proofs.HomeParts.{frame_parts, parts_telling}
use Rattle.wire_frames.proofs.delta.Delta.telling.Goals as goal

pub new-requires-clause-homes : goal.new-requires-clause-homes
new-requires-clause-homes c =
    let own = c.args.replica.now in
    let told = c.args.homes.items in
    subst (λ (v : List ℕ). IsTelling (record { front = v; purges = c.purges-purges.result; homes = told })) (sym c.front-front.ensures)
    (subst (λ (v : List ℕ). IsTelling (record { front = own.front; purges = v; homes = told })) (sym c.purges-purges.ensures.value)
    (parts_telling own c.args.base.now told c.requires.state c.requires.parts))

-- what is told is the frame of the view
pub returns-clause-frame : goal.returns-clause-frame
returns-clause-frame c =
    let own = c.args.replica.now in
    let told = c.args.homes.items in
    c.new.ensures
    ∙ ap (λ (v : List ℕ). frame_told c.args.base.now (record { front = v; purges = c.purges-purges.result; homes = told })) c.front-front.ensures
    ∙ ap (λ (v : List ℕ). frame_told c.args.base.now (record { front = own.front; purges = v; homes = told })) c.purges-purges.ensures.value
    ∙ frame_parts own c.args.base.now told c.requires.state c.requires.parts

pub returns-clause-set : goal.returns-clause-set
returns-clause-set c S stands = subst (λ (d : Frame). IsFrame S c.args.base.now d) (sym (returns-clause-frame c)) (frame_stands S (view_of c.args.replica.now) c.args.base.now stands)

pub returns-clause-grammar : goal.returns-clause-grammar
returns-clause-grammar c h w lawful closed stands =
    subst (λ (d : Frame). IsOfGrammar d) (sym (returns-clause-frame c)) (grammar_law h w c.args.base.now (view_of c.args.replica.now) lawful closed stands c.requires.nodes c.requires.below)
