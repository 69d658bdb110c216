-- A telling is due if the first one that is due is found.
use Rattle.std.proofs.Common.{◌≡◌, ◌&&◌, ◌∙◌, ℕ, Bool, true, false, Option, None, Some, ap, refl}
use Rattle.std.specs.Prelude.{is_some, not}
use Rattle.std.specs.List.{list_any}
use Rattle.std.specs.declared.time.Duration.{Duration}
use Rattle.node_agenda.specs.Backlogs.{IsFirstDue, is_any_due, is_due_of, nodes}
use Rattle.node_agenda.specs.declared.backlog.Backlog.{Backlog}
use Rattle.node_agenda.proofs.Circle.{none_there, one_there}

any_by : (now : Duration) (b : Backlog) (found : Option ℕ) → IsFirstDue now b found → list_any (is_due_of now b) nodes ≡ is_some found
any_by now b None none = none_there (is_due_of now b) none
any_by now b (Some node) first = one_there (is_due_of now b) node first.some first.one first.there

and_true : (a b : Bool) → a ≡ true → (a && b) ≡ b
and_true true b e = refl
and_true false b e = absurd cc

and_false : (a b : Bool) → b ≡ false → (a && b) ≡ false
and_false true b e = e
and_false false b e = refl

pub due_by : (now : Duration) (b : Backlog) (found : Option ℕ) → not (is_some b.taking) ≡ true → IsFirstDue now b found → is_any_due now b ≡ is_some found
due_by now b found free first = and_true (not (is_some b.taking)) (list_any (is_due_of now b) nodes) free ∙ any_by now b found first

pub none_due : (now : Duration) (b : Backlog) (found : Option ℕ) → found ≡ None → IsFirstDue now b found → is_any_due now b ≡ false
none_due now b found is first = and_false (not (is_some b.taking)) (list_any (is_due_of now b) nodes) (any_by now b found first ∙ ap is_some is)
