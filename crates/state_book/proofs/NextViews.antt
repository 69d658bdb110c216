-- What is prepared for a command is its next reply and view.
use Rattle.std.proofs.Common.{◌≡◌, Ok, Err, ℕ, inl, inr, refl}
use Rattle.state_facts.specs.declared.refusal.Refusal.{Refusal}
use Rattle.state_facts.specs.declared.refusal.Refusal.TheVariants.{NoMemory}
use Rattle.state_facts.specs.declared.command.Command.{Command}
use Rattle.state_facts.specs.declared.command.CommandReply.{CommandReply}
use Rattle.state_facts.specs.declared.command.CommandReply.TheVariants.{Refused}
use Rattle.theory_history.specs.Changes.{Change, patched, with_patch}
use Rattle.theory_history.specs.Next.{accepted_on, change_on, judge_on, next_view, reply_on, view_by}
use Rattle.theory_history.specs.Replies.{Judgement, Denied, AlreadyKnown, Accepted, reply_by}
use Rattle.theory_history.specs.Views.{View}
use Rattle.state_replica.specs.declared.patch.Prepared.{Prepared}
use Rattle.state_replica.specs.Prepared.{IsAnswer, IsNext}

answered : (j : Judgement) (reply : CommandReply) (change : Change) (a : View) (p : Prepared) → IsAnswer j reply change (Ok p)
    → (p.reply ≡ reply_by j reply) × (with_patch p.patch a ≡ view_by j a (patched change a))
answered (Denied r) reply change a p is = absurd cc
answered AlreadyKnown reply change a p is = (cc, cc)
answered Accepted reply change a p (inl none) = absurd cc
answered Accepted reply change a p (inr is) = (cc, cc)

pub prepared_next : (a : View) (me : ℕ) (c : Command) (p : Prepared) → IsNext a me c (Ok p) → (p.reply ≡ reply_on a me c) × (with_patch p.patch a ≡ next_view a me c)
prepared_next a me c p is = answered (judge_on a me c) (accepted_on a me c) (change_on a me c) a p is

denied : (j : Judgement) (reply : CommandReply) (change : Change) (a : View) (r : Refusal) → IsAnswer j reply change (Err r) → (r ≡ NoMemory → ⊥)
    → (Refused r ≡ reply_by j reply) × (a ≡ view_by j a (patched change a))
denied (Denied q) reply change a r is other = (cc, refl)
denied AlreadyKnown reply change a r is other = absurd cc
denied Accepted reply change a r (inl none) other = absurd (other cc)
denied Accepted reply change a r (inr is) other = absurd cc

pub denied_next : (a : View) (me : ℕ) (c : Command) (r : Refusal) → IsNext a me c (Err r) → (r ≡ NoMemory → ⊥) → (Refused r ≡ reply_on a me c) × (a ≡ next_view a me c)
denied_next a me c r is other = denied (judge_on a me c) (accepted_on a me c) (change_on a me c) a r is other
