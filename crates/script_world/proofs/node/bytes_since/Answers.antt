use Rattle.std.proofs.Common.{◌≡◌, inl, inr, ℕ, List, false, subst, true}
use Rattle.std.proofs.lemmas.Result.{IfErr-weaker, IfOk-weaker}
use Rattle.state_ids.specs.Fronts.{IsBelow}
use Rattle.wire_frames.specs.Frames.{Frame}
use Rattle.wire_frames.specs.Encoding.{encoding_as}
use Rattle.wire_frames.specs.Rules.{IsDeltaAs}
use Rattle.script_world.specs.Worlds.{needs_later}
use Rattle.script_world.proofs.FramesNotTaken.{written_both}
use Rattle.script_world.proofs.node.bytes_since.Goals as goal

pub returns-clause-sent : goal.returns-clause-sent
returns-clause-sent c h v lawful closed view =
    let told = c.in_ok-told.ensures.frame in
    let version = c.args.version in
    let below : IsBelow c.args.base.now v = subst (λ (u : List ℕ). IsBelow c.args.base.now u) view.counts told.1 in
    IfOk-weaker c.encode_as.result _ _
    (λ bytes written.
    let moved =
    subst (λ (f : Frame). (needs_later version f ≡ false) × IsDeltaAs version f × (bytes.items ≡ encoding_as version f)) told.0 written in
    (below, moved.0, moved.1, moved.2))
    (written_both c.encode_as.result c.in_ok-told.told c.args.version c.encode_as.ensures.text (c.encode_as.ensures.rules (c.in_ok-told.ensures.grammar h v lawful closed view.stands)))

pub returns-clause-refused : goal.returns-clause-refused
returns-clause-refused c =
    let told = c.in_ok-told.ensures.frame in
    IfErr-weaker c.encode_as.result _ _
    (λ refusal cause. elim cause [
      | inl none ↦ inl none
      | inr needs ↦ inr (inr (needs.0, told.1, subst (λ (f : Frame). needs_later c.args.version f ≡ true) told.0 needs.1))
    ])
    c.encode_as.ensures.refused
