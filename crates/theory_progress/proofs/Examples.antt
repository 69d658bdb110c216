-- what is waited for, computed on small sets
use Rattle.std.proofs.Common.{◌≡◌, ℕ, List, [], ◌∷◌, refl, Some, None, true, false}
use Rattle.state_ids.specs.Ids.{Id}
use Rattle.state_ids.specs.declared.status.LraStatus.TheVariants.{Cancelling, Closed, Closing}
use Rattle.state_ids.specs.declared.outcome.Verdict.TheVariants.{Close, Cancel}
use Rattle.state_ids.specs.declared.outcome.Act.TheVariants.{Complete, Compensate}
use Rattle.state_ids.specs.declared.outcome.Outcome.TheVariants.{Busy, Done, Failed}
use Rattle.state_facts.specs.declared.fact.Body.{Body}
use Rattle.state_facts.specs.declared.fact.Body.TheVariants.{Begin, Join, Decide, Report, Forgot}
use Rattle.state_facts.specs.declared.fact.Fact.{Fact}
use Rattle.state_facts.specs.Links.{Links}
use Rattle.state_facts.specs.Sets.{is_ended, status}
use Rattle.state_facts.specs.Duties.{is_compensation_due, is_forget_duty}
use Rattle.theory_progress.specs.Calls.{answers_left, open_under, saga_of}

abbrev lra : ℕ → Id
lra n = record { home = 1; num = n }

abbrev fact : ℕ → Body → Fact
fact n body = record { origin = 1; num = n; body = body }

abbrev plain : Links
plain = record { complete = None; compensate = Some []; status = None; forget = None; after = None }

abbrev full : Links
full = record { complete = Some []; compensate = Some []; status = None; forget = Some []; after = None }

-- a saga of three members, of which the second is nested and has two of its own
abbrev saga : List Fact
saga =
    fact 1 (Begin None 0) ∷ fact 2 (Join (lra 1) 1 plain) ∷ fact 3 (Begin (Some (lra 1)) 0) ∷ fact 4 (Join (lra 3) 1 plain)
    ∷ fact 5 (Join (lra 3) 2 plain) ∷ fact 6 (Join (lra 1) 3 plain) ∷ fact 7 (Decide (lra 1) Cancel) ∷ []

-- the nested LRA is under way, but none of its own participants is called: it waits for the third
-- member of its parent
the_child_is_cancelling : status saga (lra 3) ≡ Some Cancelling
the_child_is_cancelling = refl

its_first_is_not_called : is_compensation_due saga (lra 3) 1 ≡ false
its_first_is_not_called = refl

nor_is_its_second : is_compensation_due saga (lra 3) 2 ≡ false
nor_is_its_second = refl

it_waits_with_its_parent : saga_of saga (lra 3) ≡ lra 1
it_waits_with_its_parent = refl

whose_third_is_called : is_compensation_due saga (lra 1) 3 ≡ true
whose_third_is_called = refl

four_are_open : open_under saga (lra 1) ≡ 4
four_are_open = refl

a_busy_one_is_open : open_under (fact 8 (Report (lra 1) 3 Compensate Busy) ∷ saga) (lra 1) ≡ 4
a_busy_one_is_open = refl

three_are_open_then : open_under (fact 8 (Report (lra 1) 3 Compensate Failed) ∷ saga) (lra 1) ≡ 3
three_are_open_then = refl

-- a parent that closes waits for its child that was cancelled on its own
abbrev cancelled_child : List Fact
cancelled_child =
    fact 1 (Begin None 0) ∷ fact 2 (Begin (Some (lra 1)) 0) ∷ fact 3 (Join (lra 2) 1 plain) ∷ fact 4 (Decide (lra 2) Cancel)
    ∷ fact 5 (Decide (lra 1) Close) ∷ []

the_parent_is_closing : status cancelled_child (lra 1) ≡ Some Closing
the_parent_is_closing = refl

it_waits_for_those_under_it : saga_of cancelled_child (lra 1) ≡ lra 1
it_waits_for_those_under_it = refl

one_of_its_child_is_called : is_compensation_due cancelled_child (lra 2) 1 ≡ true
one_of_its_child_is_called = refl

one_is_open : open_under cancelled_child (lra 1) ≡ 1
one_is_open = refl

then_it_is_closed : status (fact 6 (Report (lra 2) 1 Compensate Done) ∷ cancelled_child) (lra 1) ≡ Some Closed
then_it_is_closed = refl

-- a new decision may leave more to do: a child that was closed is compensated if its parent is
-- cancelled
abbrev closed_child : List Fact
closed_child =
    fact 1 (Begin None 0) ∷ fact 2 (Begin (Some (lra 1)) 0) ∷ fact 3 (Join (lra 2) 1 full) ∷ fact 4 (Decide (lra 2) Close)
    ∷ fact 5 (Report (lra 2) 1 Complete Done) ∷ []

none_is_open : open_under closed_child (lra 2) ≡ 0
none_is_open = refl

one_is_open_again : open_under (fact 6 (Decide (lra 1) Cancel) ∷ closed_child) (lra 2) ≡ 1
one_is_open_again = refl

-- the count of answers left is an upper bound: a root's participant that completed has nothing to
-- forget
abbrev alone : List Fact
alone = fact 1 (Begin None 0) ∷ fact 2 (Join (lra 1) 1 full) ∷ fact 3 (Decide (lra 1) Close) ∷ []

two_answers : answers_left alone (lra 1) ≡ 2
two_answers = refl

one_of_them_never_comes : answers_left (fact 4 (Report (lra 1) 1 Complete Done) ∷ alone) (lra 1) ≡ 1
one_of_them_never_comes = refl

since_it_is_not_called : is_forget_duty (fact 4 (Report (lra 1) 1 Complete Done) ∷ alone) (lra 1) 1 ≡ false
since_it_is_not_called = refl

but_where_it_failed : is_forget_duty (fact 4 (Report (lra 1) 1 Complete Failed) ∷ alone) (lra 1) 1 ≡ true
but_where_it_failed = refl

and_none_is_left_then : answers_left (fact 5 (Forgot (lra 1) 1) ∷ fact 4 (Report (lra 1) 1 Complete Failed) ∷ alone) (lra 1) ≡ 0
and_none_is_left_then = refl

it_has_ended : is_ended (fact 4 (Report (lra 1) 1 Complete Failed) ∷ alone) (lra 1) ≡ true
it_has_ended = refl
