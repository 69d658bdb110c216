-- the definitions, computed on small sets
use Rattle.std.proofs.Common.{◌≡◌, ℕ, List, [], ◌∷◌, refl, Some, None, true, false}
use Rattle.state_ids.specs.Ids.{Id}
use Rattle.state_ids.specs.declared.status.LraStatus.TheVariants.{Closed, Cancelling, Cancelled}
use Rattle.state_ids.specs.declared.status.MemberStatus.TheVariants.{Compensated, Compensating}
use Rattle.state_ids.specs.declared.outcome.Verdict.TheVariants.{Close, Cancel}
use Rattle.state_ids.specs.declared.outcome.Act.TheVariants.{Complete, Compensate}
use Rattle.state_ids.specs.declared.outcome.Outcome.TheVariants.{Done, Failed}
use Rattle.state_facts.specs.declared.fact.Body.{Body}
use Rattle.state_facts.specs.declared.fact.Body.TheVariants.{Begin, Join, Decide, Report, Forgot, Told}
use Rattle.state_facts.specs.declared.fact.Fact.{Fact}
use Rattle.state_facts.specs.Links.{Links}
use Rattle.state_facts.specs.Sets.{status, member_status, member_number}
use Rattle.state_facts.specs.Duties.{saga_path, is_compensation_due, is_forget_duty, is_after_duty, is_untold}

abbrev lra : ℕ → Id
lra n = record { home = 1; num = n }

abbrev fact : ℕ → Body → Fact
fact n body = record { origin = 1; num = n; body = body }

abbrev plain : Links
plain = record { complete = None; compensate = Some []; status = None; forget = None; after = None }

abbrev full : Links
full = record { complete = Some []; compensate = Some []; status = None; forget = Some []; after = None }

-- a child that was closed, and completed, under a parent that is cancelled later
abbrev closed_child : List Fact
closed_child =
    fact 1 (Begin None 0) ∷ fact 2 (Begin (Some (lra 1)) 0) ∷ fact 3 (Join (lra 2) 1 full) ∷ fact 4 (Decide (lra 2) Close)
    ∷ fact 5 (Report (lra 2) 1 Complete Done) ∷ []

abbrev then_cancelled : List Fact
then_cancelled = fact 6 (Decide (lra 1) Cancel) ∷ closed_child

it_is_closed : status closed_child (lra 2) ≡ Some Closed
it_is_closed = refl

and_then_cancelling : status then_cancelled (lra 2) ≡ Some Cancelling
and_then_cancelling = refl

its_participant_compensates : member_status then_cancelled (lra 2) 1 ≡ Some Compensating
its_participant_compensates = refl

so_both_end_cancelled : status (fact 7 (Report (lra 2) 1 Compensate Done) ∷ then_cancelled) (lra 1) ≡ Some Cancelled
so_both_end_cancelled = refl

-- nothing must be forgotten while the root is active; once it is closed, a completed participant of
-- a nested LRA must be told to forget
no_duty_yet : is_forget_duty closed_child (lra 2) 1 ≡ false
no_duty_yet = refl

a_duty_then : is_forget_duty (fact 6 (Decide (lra 1) Close) ∷ closed_child) (lra 2) 1 ≡ true
a_duty_then = refl

none_when_told : is_forget_duty (fact 7 (Forgot (lra 2) 1) ∷ fact 6 (Decide (lra 1) Close) ∷ closed_child) (lra 2) 1 ≡ false
none_when_told = refl

-- a saga of three members, of which the second is nested and has two of its own
abbrev saga : List Fact
saga =
    fact 1 (Begin None 0) ∷ fact 2 (Join (lra 1) 1 plain) ∷ fact 3 (Begin (Some (lra 1)) 0) ∷ fact 4 (Join (lra 3) 1 plain)
    ∷ fact 5 (Join (lra 3) 2 plain) ∷ fact 6 (Join (lra 1) 3 plain) ∷ fact 7 (Decide (lra 1) Cancel) ∷ []

the_child_is_its_second_member : member_number saga (lra 1) 3 ≡ 2
the_child_is_its_second_member = refl

path_in_the_child : saga_path saga (lra 3) 2 ≡ 2 ∷ 2 ∷ []
path_in_the_child = refl

the_last_is_first : is_compensation_due saga (lra 1) 3 ≡ true
the_last_is_first = refl

the_child_waits : is_compensation_due saga (lra 3) 2 ≡ false
the_child_waits = refl

until_the_last_is_done : is_compensation_due (fact 8 (Report (lra 1) 3 Compensate Done) ∷ saga) (lra 3) 2 ≡ true
until_the_last_is_done = refl

its_first_waits : is_compensation_due (fact 8 (Report (lra 1) 3 Compensate Failed) ∷ saga) (lra 3) 1 ≡ false
its_first_waits = refl

-- Listeners: participants that have only a link for the end of their LRA

abbrev listener : Links
listener = record { complete = None; compensate = None; status = None; forget = None; after = Some [] }

abbrev listened : List Fact
listened = fact 1 (Begin None 0) ∷ fact 2 (Join (lra 1) 1 listener) ∷ []

not_told_while_active : is_after_duty listened (lra 1) 1 ≡ false
not_told_while_active = refl

a_listener_holds_nothing_open : status (fact 3 (Decide (lra 1) Close) ∷ listened) (lra 1) ≡ Some Closed
a_listener_holds_nothing_open = refl

told_when_closed : is_after_duty (fact 3 (Decide (lra 1) Close) ∷ listened) (lra 1) 1 ≡ true
told_when_closed = refl

told_once : is_after_duty (fact 4 (Told (lra 1) 1) ∷ fact 3 (Decide (lra 1) Close) ∷ listened) (lra 1) 1 ≡ false
told_once = refl

and_then_nothing_is_left : is_untold (fact 4 (Told (lra 1) 1) ∷ fact 3 (Decide (lra 1) Close) ∷ listened) (lra 1) 1 ≡ false
and_then_nothing_is_left = refl

-- the listener of a child that was closed is not told while its root is active, since the child may yet be cancelled
abbrev in_the_child : List Fact
in_the_child =
    fact 1 (Begin None 0) ∷ fact 2 (Begin (Some (lra 1)) 0) ∷ fact 3 (Join (lra 2) 1 listener) ∷ fact 4 (Decide (lra 2) Close) ∷ []

abbrev and_its_root : List Fact
and_its_root = fact 5 (Decide (lra 1) Cancel) ∷ in_the_child

the_child_is_closed : status in_the_child (lra 2) ≡ Some Closed
the_child_is_closed = refl

its_listener_waits : is_after_duty in_the_child (lra 2) 1 ≡ false
its_listener_waits = refl

the_root_is_cancelled : status and_its_root (lra 1) ≡ Some Cancelled
the_root_is_cancelled = refl

its_listener_is_compensated : member_status and_its_root (lra 2) 1 ≡ Some Compensated
its_listener_is_compensated = refl

its_listener_is_told : is_after_duty and_its_root (lra 2) 1 ≡ true
its_listener_is_told = refl

-- a child that is cancelled alone is told at once, though its root is active
a_cancel_is_told_at_once : is_after_duty (fact 4 (Decide (lra 2) Cancel) ∷ fact 3 (Join (lra 2) 1 listener) ∷ fact 2 (Begin (Some (lra 1)) 0) ∷ fact 1 (Begin None 0) ∷ []) (lra 2) 1 ≡ true
a_cancel_is_told_at_once = refl

-- a listener is never due to compensate, and holds nobody back
abbrev with_a_listener : List Fact
with_a_listener =
    fact 1 (Begin None 0) ∷ fact 2 (Join (lra 1) 1 plain) ∷ fact 3 (Join (lra 1) 2 listener) ∷ fact 4 (Decide (lra 1) Cancel) ∷ []

a_listener_is_not_due : is_compensation_due with_a_listener (lra 1) 2 ≡ false
a_listener_is_not_due = refl

and_holds_nobody_back : is_compensation_due with_a_listener (lra 1) 1 ≡ true
and_holds_nobody_back = refl
