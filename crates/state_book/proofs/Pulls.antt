-- What the reply to a pull is.
use Rattle.std.proofs.Common.{◌≡◌, ℕ, List, Result, Ok, Err, ap}
use Rattle.state_facts.specs.declared.refusal.Refusal.{Refusal}
use Rattle.state_facts.specs.declared.refusal.Refusal.TheVariants.{NoMemory}
use Rattle.theory_history.specs.Views.{View}
use Rattle.wire_frames.specs.Frames.{Frame}
use Rattle.wire_pulls.specs.Serving.{Serves}
use Rattle.state_book.specs.declared.calls.Reply.TheVariants.{Gave, Refused}
use Rattle.state_book.specs.Next.{pull_reply}

pub served : (a : View) (o : Result (List ℕ) Refusal) (frame : Frame) → Serves a o (Ok frame) → Gave frame ≡ pull_reply a o
served a (Ok front) frame is = ap (λ (f : Frame). Gave f) is
served a (Err refusal) frame is = absurd cc

same_refusal : (r q : Refusal) → ◌≡◌ {A = Result Frame Refusal} (Err r) (Err q) → r ≡ q
same_refusal r q e = cc

pub not_served : (a : View) (o : Result (List ℕ) Refusal) (r : Refusal) → Serves a o (Err r) → (r ≡ NoMemory → ⊥) → Refused r ≡ pull_reply a o
not_served a (Ok front) r is other = absurd (other is)
not_served a (Err q) r is other = ap (λ (s : Refusal). Refused s) (same_refusal r q is)
