-- What participants are due to do or to be told: to compensate, in saga order, to forget, and to be
-- told that their LRA has ended.
use Rattle.std.specs.Prelude.{◌==◌, ◌&&◌, ◌||◌, ◌++◌, ℕ, Bool, true, false, Option, Some, None, List, [], ◌∷◌, if◌then◌else◌, is_some, nat_lt}
use mathlib.Core.Bool.{not}
use Rattle.std.specs.List.{list_any}
use Rattle.std.specs.Option.{option_map_or}
use Rattle.state_ids.specs.Ids.{Id, same_id}
use Rattle.state_ids.specs.States.{level, same_member_status}
use Rattle.state_ids.specs.declared.status.MemberStatus.{MemberStatus}
use Rattle.state_ids.specs.declared.status.MemberStatus.TheVariants.{Completed, FailedToComplete, FailedToCompensate}
use Rattle.state_ids.specs.declared.outcome.Act.TheVariants.{Compensate}
use Rattle.state_ids.specs.declared.outcome.Outcome.{Outcome}
use Rattle.state_ids.specs.declared.outcome.Verdict.{Verdict}
use Rattle.state_ids.specs.declared.outcome.Verdict.TheVariants.{Cancel}
use Rattle.state_facts.specs.declared.fact.Body.{Body}
use Rattle.state_facts.specs.declared.fact.Body.TheVariants.{Join, Forgot, Told}
use Rattle.state_facts.specs.declared.fact.Fact.{Fact}
use Rattle.state_facts.specs.Links.{Links}
use Rattle.state_facts.specs.Sets.{member_number, parent_of, chain, is_root, is_under, is_decided, is_participant, links_of, has_left, heard, joined_status, is_ended, want}

-- Saga order. A saga T1 .. Tj that is given up runs the compensations Cj .. C1 (Garcia-Molina and
-- Salem, Sagas, 1987, section 2). Here a nested LRA is compensated at the place in the order at
-- which it was begun

-- the last LRA of a list that passes the test
abbrev pub last_that : (Id → Bool) → List Id → Option Id
last_that test [] = None
last_that test (x ∷ xs) = option_map_or (λ y. Some y) (last_that test xs) (if test x then Some x else None)

-- the topmost cancelled LRA of the chain of l
abbrev pub topmost_cancelled : List Fact → Id → Option Id
topmost_cancelled S l = last_that (is_decided S Cancel) (chain S l)

-- the member number of an LRA in its parent, as a list that is empty for a root
abbrev pub slot_of : List Fact → Id → List ℕ
slot_of S l = option_map_or (λ p. member_number S p l.num ∷ []) (parent_of S l) []

-- the member numbers of the LRAs of a chain that are below a, from the top down (the chain begins
-- at its lower end)
abbrev pub slots_below : List Fact → Id → List Id → List ℕ
slots_below S a [] = []
slots_below S a (x ∷ xs) = if same_id x a then [] else slots_below S a xs ++ slot_of S x

-- the member numbers from the topmost cancelled LRA of the chain of l down to the participant m of l
abbrev pub saga_path : List Fact → Id → ℕ → List ℕ
saga_path S l m = option_map_or (λ a. slots_below S a (chain S l)) (topmost_cancelled S l) [] ++ m ∷ []

-- lexicographically greater, that is, later in the saga
abbrev pub is_later : List ℕ → List ℕ → Bool
is_later [] q = false
is_later (x ∷ p) [] = true
is_later (x ∷ p) (y ∷ q) = nat_lt y x || ((x == y) && is_later p q)

-- no outcome that ends the act was heard
abbrev pub is_pending : Option Outcome → Bool
is_pending o = nat_lt (level o) 2

-- a participant with these links, of which this was heard, is still to compensate: it gave a link
-- for that, and no outcome that ends the act was heard
abbrev pub has_to_compensate : Links → Option Outcome → Bool
has_to_compensate links o = is_some links.compensate && is_pending o

-- the participant that joined l as m is still to compensate; a listener never is
abbrev pub is_uncompensated : List Fact → Id → ℕ → Bool
is_uncompensated S l m = option_map_or (λ links. has_to_compensate links (heard S l m Compensate)) (links_of S l m) false

-- the fact joins a participant under a that is later in the saga than the path, and is still to
-- compensate
abbrev pub holds_back : List Fact → Id → List ℕ → Body → Bool
holds_back S a path (Join d m links) =
    is_under S a d && (not (has_left S d m) && (is_later (saga_path S d m) path && is_uncompensated S d m))
holds_back S a path _ = false

-- the participant m of l is to be asked to compensate now: it is still to compensate, and none
-- later in the saga is
abbrev pub is_compensation_due : List Fact → Id → ℕ → Bool
is_compensation_due S l m =
    option_map_or
    (λ a. is_participant S l m && (is_uncompensated S l m && not (list_any (λ f. holds_back S a (saga_path S l m) f.body) S)))
    (topmost_cancelled S l) false

-- Forgetting (this project's profile of the standard's forget callback)

-- the root of l is ended
abbrev pub is_over : List Fact → Id → Bool
is_over S l = list_any (λ a. is_root S a && is_ended S a) (chain S l)

abbrev pub is_forgot : Id → ℕ → Body → Bool
is_forgot l m (Forgot id member) = same_id id l && (member == m)
is_forgot l m _ = false

abbrev pub has_forgot : List Fact → Id → ℕ → Bool
has_forgot S l m = list_any (λ f. is_forgot l m f.body) S

-- a participant has something to forget: it failed, or it completed in a nested LRA, which might
-- still have been cancelled
abbrev pub has_to_forget : Bool → MemberStatus → Bool
has_to_forget nested s =
    same_member_status FailedToComplete s || (same_member_status FailedToCompensate s || (nested && same_member_status Completed s))

-- the participant of l with this number and these links is to be told that it may forget
abbrev pub owes_forget : List Fact → Id → ℕ → Links → Bool
owes_forget S l m links =
    is_over S l && (is_some links.forget && (not (has_forgot S l m) && has_to_forget (not (is_root S l)) (joined_status S l m links)))

abbrev pub is_forget_duty : List Fact → Id → ℕ → Bool
is_forget_duty S l m = is_participant S l m && option_map_or (owes_forget S l m) (links_of S l m) false

-- The end of an LRA (this project's profile of the standard's listeners)

abbrev pub is_told_of : Id → ℕ → Body → Bool
is_told_of l m (Told id member) = same_id id l && (member == m)
is_told_of l m _ = false

abbrev pub has_told : List Fact → Id → ℕ → Bool
has_told S l m = list_any (λ f. is_told_of l m f.body) S

-- the root of l wants something
abbrev pub is_root_decided : List Fact → Id → Bool
is_root_decided S l = list_any (λ a. is_root S a && is_some (want S a)) (chain S l)

abbrev pub wants_cancel : Option Verdict → Bool
wants_cancel (Some Cancel) = true
wants_cancel _ = false

-- No later decision changes what l shows: it is ended, and it wants Cancel or its root wants
-- something. A closed LRA whose root wants nothing can still be cancelled together with an LRA
-- above it
abbrev pub is_at_end : List Fact → Id → Bool
is_at_end S l = is_ended S l && (wants_cancel (want S l) || is_root_decided S l)

-- the participant of l with this number and these links has a link for the end of its LRA, and was
-- not told of the end
abbrev pub is_untold_by : List Fact → Id → ℕ → Links → Bool
is_untold_by S l m links = is_some links.after && not (has_told S l m)

-- such a participant is to be told of the end now
abbrev pub owes_after : List Fact → Id → ℕ → Links → Bool
owes_after S l m links = is_at_end S l && is_untold_by S l m links

abbrev pub is_after_duty : List Fact → Id → ℕ → Bool
is_after_duty S l m = is_participant S l m && option_map_or (owes_after S l m) (links_of S l m) false

-- the participant m of l is still to be told of the end, now or later: it has a link for the end,
-- and was not told
abbrev pub is_untold : List Fact → Id → ℕ → Bool
is_untold S l m = is_participant S l m && option_map_or (is_untold_by S l m) (links_of S l m) false
