-- What a node makes of a frame that is not taken, and of the bytes of a frame that it sends.
use Rattle.std.proofs.Common.{◌≡◌, ◌∙◌, ℕ, List, Result, Ok, Err, false, Vec, ap, length, subst, sym}
use Rattle.std.specs.Prelude.{IfOk}
use Rattle.std.specs.declared.alloc.Global.{Global}
use Rattle.state_ids.specs.Fronts.{IsBelow}
use Rattle.state_facts.specs.declared.refusal.Refusal.{Refusal}
use Rattle.state_facts.specs.declared.refusal.Refusal.TheVariants.{Gap, NoMemory}
use Rattle.theory_history.specs.Histories.{History, IsClosed, IsLawful, facts}
use Rattle.theory_history.specs.Views.{StandsFor, View}
use Rattle.wire_frames.specs.Encoding.{encoding_as}
use Rattle.wire_frames.specs.Frames.{Frame, IsFrame}
use Rattle.wire_frames.specs.Rules.{IsDeltaAs}
use Rattle.wire_frames.specs.declared.version.Version.{Version}
use Rattle.script_world.specs.declared.event.EventReply.TheVariants.{Refused}
use Rattle.script_world.specs.Machines.{TakesFrame}
use Rattle.script_world.specs.Worlds.{needs_later}

same_refusal : {X : Type 0} (r s : Refusal) → ◌≡◌ {A = Result X Refusal} (Err r) (Err s) → r ≡ s
same_refusal r s e = cc

-- a frame of the history is refused, other than for lack of memory, only because the view does not
-- count its base
pub refused_frame : {X : Type 0} (old new : View) (frame : Frame) (r : Refusal)
    → (length frame.front ≡ length old.front → (IsBelow frame.base old.front → ⊥) → ◌≡◌ {A = Result X Refusal} (Err r) (Err (Gap old.front)))
    → ((h : History) (v w : List ℕ) → IsLawful h → IsClosed h v → IsClosed h w → StandsFor (facts h v) old → IsFrame (facts h w) frame.base frame →
    length frame.front ≡ length old.front → IsBelow frame.base old.front → r ≡ NoMemory)
    → (r ≡ NoMemory → ⊥) → new ≡ old → TakesFrame old frame (Refused r) new
refused_frame {X} old new frame r gap union other same h v w from = (
  λ below. absurd (other (union h v w from.lawful from.receiver from.sender from.own.stands from.told nodes (subst (λ (u : List ℕ). IsBelow frame.base u) (sym from.own.counts) below))),
  λ beyond. (
    ap Refused (same_refusal {X = X} r (Gap old.front) (gap nodes (λ below. beyond (subst (λ (u : List ℕ). IsBelow frame.base u) from.own.counts below)))
        ∙ ap (λ (u : List ℕ). Gap u) from.own.counts),
    same,
  ),
)
  where
    nodes : length frame.front ≡ length old.front
    nodes = ap (λ (u : List ℕ). length u) from.counts ∙ from.sender.nodes ∙ sym from.receiver.nodes ∙ ap (λ (u : List ℕ). length u) (sym from.own.counts)

-- the bytes encode a frame, which keeps its rules
pub written_both : (r : Result (Vec ℕ Global) Refusal) (f : Frame) (version : Version) → IfOk r (λ bytes. (needs_later version f ≡ false) × (bytes.items ≡ encoding_as version f)) → IfOk r (λ _. IsDeltaAs version f)
    → IfOk r (λ bytes. (needs_later version f ≡ false) × IsDeltaAs version f × (bytes.items ≡ encoding_as version f))
written_both (Ok bytes) f version text rules = (text.0, rules, text.1)
written_both (Err q) f version text rules = tt
