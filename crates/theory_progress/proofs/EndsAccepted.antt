-- the end of a call is accepted as a report
use Rattle.std.proofs.Common.{◌≡◌, ◌≤◌, ◌<◌, ℕ, List, [], ◌∷◌, refl, Bool, true, false, arith, Some, nat_le, nat_lt}
use Rattle.std.proofs.lemmas.Bool.Decides.{nat_tests}
use Rattle.state_ids.specs.Ids.{Id, last_number}
use Rattle.state_ids.specs.Fronts.{count, is_covered}
use Rattle.state_ids.specs.States.{level}
use Rattle.state_ids.specs.declared.outcome.Outcome.{Outcome}
use Rattle.state_facts.specs.declared.fact.Fact.{Fact}
use Rattle.state_facts.specs.declared.refusal.Refusal.{Refusal}
use Rattle.state_facts.specs.Duties.{is_pending}
use Rattle.state_facts.specs.Refusals.{first, unless}
use Rattle.state_facts.specs.Sets.{heard, is_demanded, is_heard, is_held, is_participant}
use Rattle.state_facts.specs.declared.command.Command.TheVariants.{Report}
use Rattle.theory_history.specs.Replies.{Accepted, judge, judged}
use Rattle.theory_history.specs.Views.{IsCounted}
use Rattle.theory_history.proofs.Basics.{held_begun}
use Rattle.theory_history.proofs.Covered.{begun_covered}
use Rattle.wire_callbacks.specs.declared.duty.Duty.{Duty}
use Rattle.theory_progress.specs.Calls.{IsActUnder}
use Rattle.theory_progress.proofs.ActsAsked.{call_asked}

-- an LRA that is held is covered by the front
pub held_covered : (S : List Fact) (v : List ℕ) (l : Id) → IsCounted S v → is_held S l ≡ true → is_covered v l ≡ true
held_covered S v l counted held = le l.num (count v l.home) (begun_covered S v l counted (held_begun S l held)).1
  where
    le : (a b : ℕ) → a ≤ b → nat_le a b ≡ true
    le a b h = grind (arith, nat_tests)

pub number_free : (v : List ℕ) (node : ℕ) → count v node < last_number → nat_lt (count v node) last_number ≡ true
number_free v node h = lt (count v node) last_number h
  where
    lt : (a b : ℕ) → a < b → nat_lt a b ≡ true
    lt a b h = grind (arith, nat_tests)

-- no end was heard of an act that has not ended
unheard : (S : List Fact) (l : Id) (m : ℕ) (call : Duty) (outcome : Outcome) → is_pending (heard S l m call.act) ≡ true → is_pending (Some outcome) ≡ false → is_heard S l m call.act outcome ≡ false
unheard S l m call outcome pending ends = by (level (heard S l m call.act)) (level (Some outcome)) pending ends
  where
    by : (a b : ℕ) → nat_lt a 2 ≡ true → nat_lt b 2 ≡ false → nat_le b a ≡ false
    by a b e f = grind (arith, nat_tests, e, f)

judged_so : (a b c d k n : Bool) (p q r s t : Refusal) → a ≡ true → b ≡ true → c ≡ true → d ≡ true → k ≡ false → n ≡ true → judged (first (unless a p ∷ unless b q ∷ unless c r ∷ unless d s ∷ [])) k (unless n t) ≡ Accepted
judged_so a b c d k n p q r s t ea eb ec ed ek en = rw (ea, eb, ec, ed, ek, en) refl

pub end_accepted : (S : List Fact) (v : List ℕ) (node : ℕ) (l : Id) (call : Duty) (outcome : Outcome) → IsCounted S v → IsActUnder S l call → is_pending (Some outcome) ≡ false → count v node < last_number → judge S v node (Report call.id call.member call.act outcome) ≡ Accepted
end_accepted S v node l call outcome counted due ends free =
    let asked = call_asked S l call due in
    judged_so (is_covered v call.id) (is_held S call.id) (is_participant S call.id call.member) (is_demanded S call.id call.member call.act) (is_heard S call.id call.member call.act outcome) (nat_lt (count v node) last_number) _ _ _ _ _
    (held_covered S v call.id counted due.duty.held) due.duty.held asked.known asked.demanded (unheard S call.id call.member call outcome asked.pending ends) (number_free v node free)
