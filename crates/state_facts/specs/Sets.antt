-- What a set of facts says of an LRA and of its participants. The set is given as a list, in any
-- order, and each definition computes on it. "The standard" is MicroProfile LRA 2.0. Everything
-- that is not marked so is this project's profile.
use Rattle.std.specs.Prelude.{◌≡◌, ◌==◌, ◌&&◌, ◌+◌, ◌<◌, ℕ, zero, suc, Bool, true, false, Option, Some, None, List, [], ◌∷◌, if◌then◌else◌, is_some, is_none, IfSome, length, filter, nat_le, nat_lt}
use mathlib.Core.Bool.{not}
use Rattle.std.specs.List.{list_any}
use Rattle.std.specs.Option.{option_map_or}
use Rattle.state_ids.specs.Ids.{Id, IsFactNumber, same_id}
use Rattle.state_ids.specs.States.{greater, level, same_act, same_verdict, is_final, same_member_status, completing, compensating, shown}
use Rattle.state_ids.specs.declared.status.LraStatus.{LraStatus}
use Rattle.state_ids.specs.declared.status.MemberStatus.{MemberStatus}
use Rattle.state_ids.specs.declared.status.MemberStatus.TheVariants.{Active, Completed, FailedToComplete, Compensated, FailedToCompensate}
use Rattle.state_ids.specs.declared.outcome.Act.{Act}
use Rattle.state_ids.specs.declared.outcome.Act.TheVariants.{Complete, Compensate}
use Rattle.state_ids.specs.declared.outcome.Outcome.{Outcome}
use Rattle.state_ids.specs.declared.outcome.Verdict.{Verdict}
use Rattle.state_ids.specs.declared.outcome.Verdict.TheVariants.{Close, Cancel}
use Rattle.state_facts.specs.declared.fact.Body.{Body}
use Rattle.state_facts.specs.declared.fact.Body.TheVariants.{Begin, Join, Leave, Decide, Report, Purge}
use Rattle.state_facts.specs.declared.fact.Fact.{Fact}
use Rattle.state_facts.specs.Links.{Links}

-- Facts

abbrev pub is_begin : Body → Bool
is_begin (Begin parent deadline) = true
is_begin _ = false

-- an LRA's id is the origin and the number of its begin
abbrev pub begun_by : Fact → Id
begun_by f = record { home = f.origin; num = f.num }

-- the fact is the begin of l
abbrev pub begins : Id → Fact → Bool
begins l f = is_begin f.body && same_id (begun_by f) l

abbrev pub parent_named : Body → Option Id
parent_named (Begin parent deadline) = parent
parent_named _ = None

abbrev pub is_decision : Id → Verdict → Body → Bool
is_decision l v (Decide id verdict) = same_id id l && same_verdict verdict v
is_decision l v _ = false

abbrev pub is_leave : Id → ℕ → Body → Bool
is_leave l m (Leave id member) = same_id id l && (member == m)
is_leave l m _ = false

abbrev pub is_purge : Id → Body → Bool
is_purge l (Purge root) = same_id root l
is_purge l _ = false

-- the outcome that the fact reports of this act of a participant
abbrev pub reported : Id → ℕ → Act → Body → Option Outcome
reported l m a (Report id member act outcome) = if same_id id l && ((member == m) && same_act act a) then Some outcome else None
reported l m a _ = None

-- the links with which the member m of l joins
abbrev pub joined_links : Id → ℕ → Body → Option Links
joined_links l m (Join id member links) = if same_id id l && (member == m) then Some links else None
joined_links l m _ = None

-- the fact gives a member number of l: it joins a participant to l, or begins an LRA in it
abbrev pub gives_number : Id → Body → Bool
gives_number l (Join id member links) = same_id id l
gives_number l (Begin parent deadline) = option_map_or (λ p. same_id p l) parent false
gives_number l _ = false

-- the member number that the fact with this number gives in l: members are numbered from 1 in the
-- order in which they come
abbrev pub member_number : List Fact → Id → ℕ → ℕ
member_number S l num = length (filter (λ f. gives_number l f.body && nat_lt f.num num) S) + 1

-- how many member numbers of l were given; the next number is one more
abbrev pub numbers_given : List Fact → Id → ℕ
numbers_given S l = length (filter (λ f. gives_number l f.body) S)

-- Nesting: the standard's parents and children

abbrev pub is_begun : List Fact → Id → Bool
is_begun S l = list_any (begins l) S

-- the parent that the begin of l names
abbrev pub parent_of : List Fact → Id → Option Id
parent_of [] l = None
parent_of (f ∷ S) l = if begins l f then parent_named f.body else parent_of S l

-- l, its parent and so on, in at most this many steps
abbrev pub chain_within : ℕ → List Fact → Id → List Id
chain_within zero S l = l ∷ []
chain_within (suc steps) S l = l ∷ option_map_or (chain_within steps S) (parent_of S l) []

-- l, its parent and so on to the root. A parent has a lesser number, so l.num steps are enough (it
-- recurs on the LRA's own number, which the law on chains hides)
abbrev pub chain : List Fact → Id → List Id
chain S l = chain_within l.num S l

-- a root has depth 1
abbrev pub depth : List Fact → Id → ℕ
depth S l = length (chain S l)

-- d is l, or is nested in it at some depth
abbrev pub is_under : List Fact → Id → Id → Bool
is_under S l d = list_any (same_id l) (chain S d)

-- a root has no parent
abbrev pub is_root : List Fact → Id → Bool
is_root S l = is_none (parent_of S l)

abbrev pub is_purged_root : List Fact → Id → Bool
is_purged_root S a = is_root S a && list_any (λ f. is_purge a f.body) S

-- the begin of l is in the set, and no purge of its root is
abbrev pub is_held : List Fact → Id → Bool
is_held S l = is_begun S l && not (list_any (is_purged_root S) (chain S l))

abbrev pub begins_held : List Fact → ℕ → Fact → Bool
begins_held S home f = is_begin f.body && ((f.origin == home) && is_held S (begun_by f))

-- how many LRAs of a home are held
abbrev pub held_at : List Fact → ℕ → ℕ
held_at S home = length (filter (begins_held S home) S)

-- What an LRA wants. By the standard a closed nested LRA is still compensated if its parent is
-- cancelled, and closing a parent closes the LRAs nested in it

abbrev pub is_decided : List Fact → Verdict → Id → Bool
is_decided S v l = list_any (λ f. is_decision l v f.body) S

-- Cancel if an LRA of the chain is cancelled, otherwise Close if one is closed
abbrev pub want : List Fact → Id → Option Verdict
want S l =
    if list_any (is_decided S Cancel) (chain S l) then Some Cancel
    else (if list_any (is_decided S Close) (chain S l) then Some Close else None)

-- Participants: those that joined and did not leave

-- the links with which the member m of l joined
abbrev pub links_of : List Fact → Id → ℕ → Option Links
links_of [] l m = None
links_of (f ∷ S) l m = option_map_or (λ links. Some links) (joined_links l m f.body) (links_of S l m)

abbrev pub has_left : List Fact → Id → ℕ → Bool
has_left S l m = list_any (λ f. is_leave l m f.body) S

abbrev pub is_participant : List Fact → Id → ℕ → Bool
is_participant S l m = is_some (links_of S l m) && not (has_left S l m)

-- the greatest outcome that is reported
abbrev pub heard : List Fact → Id → ℕ → Act → Option Outcome
heard [] l m act = None
heard (f ∷ S) l m act = greater (reported l m act f.body) (heard S l m act)

-- this outcome or a greater one was heard
abbrev pub is_heard : List Fact → Id → ℕ → Act → Outcome → Bool
is_heard S l m act outcome = nat_le (level (Some outcome)) (level (heard S l m act))

-- whether a want demands this act of a participant with these links
abbrev pub demands : Option Verdict → Links → Act → Bool
demands (Some Close) links Complete = is_some links.complete
demands (Some Cancel) links Compensate = is_some links.compensate
demands _ links act = false

abbrev pub is_demanded : List Fact → Id → ℕ → Act → Bool
is_demanded S l m act = option_map_or (λ links. demands (want S l) links act) (links_of S l m) false

-- The status of a participant, by what its LRA wants, by its links and by what was heard of it. The
-- states are the standard's. A participant without a link to complete is Completed as soon as its
-- LRA closes. One without a link to compensate, a listener, is Compensated as soon as its LRA is
-- cancelled
abbrev pub status_by : Option Verdict → Links → Option Outcome → Option Outcome → MemberStatus
status_by None links completed compensated = Active
status_by (Some Close) links completed compensated = if is_some links.complete then completing completed else Completed
status_by (Some Cancel) links completed compensated = if is_some links.compensate then compensating compensated else Compensated

abbrev pub joined_status : List Fact → Id → ℕ → Links → MemberStatus
joined_status S l m links = status_by (want S l) links (heard S l m Complete) (heard S l m Compensate)

-- the status of the participant m of l; there is none if l is not held, no participant joined as m,
-- or it left
abbrev pub member_status : List Fact → Id → ℕ → Option MemberStatus
member_status S l m =
    if is_held S l && not (has_left S l m)
    then option_map_or (λ links. Some (joined_status S l m links)) (links_of S l m) None
    else None

-- The status of an LRA: the standard's states. How failures in nested LRAs pass up is this
-- project's profile

-- the fact joins a participant under l whose status passes the test
abbrev pub shows : (MemberStatus → Bool) → List Fact → Id → Body → Bool
shows test S l (Join d m links) = is_under S l d && (not (has_left S d m) && test (joined_status S d m links))
shows test S l _ = false

-- a participant of l, or of an LRA nested in it, has a status that passes the test
abbrev pub some_shows : (MemberStatus → Bool) → List Fact → Id → Bool
some_shows test S l = list_any (λ f. shows test S l f.body) S

abbrev pub is_open : MemberStatus → Bool
is_open s = not (is_final s)

-- l wants something, and each participant under it is final
abbrev pub is_ended : List Fact → Id → Bool
is_ended S l = is_some (want S l) && not (some_shows is_open S l)

-- What an LRA that is held shows. Only a participant of a closing LRA can be FailedToComplete. So a
-- failure inside a child that was cancelled alone doesn't make its closing parent fail
abbrev pub shows_now : List Fact → Id → LraStatus
shows_now S l = shown (want S l) (is_ended S l) (some_shows (same_member_status FailedToComplete) S l) (some_shows (same_member_status FailedToCompensate) S l)

-- the status of l; there is none if l is not held
abbrev pub status : List Fact → Id → Option LraStatus
status S l = if is_held S l then Some (shows_now S l) else None

-- what a list must satisfy: each fact has a number that a node can give
abbrev pub IsNumbered : Fact → Type 0
IsNumbered f = IsFactNumber f.num

-- a nested LRA is begun at its parent's home, after its parent
abbrev pub NamesEarlier : Fact → Type 0
NamesEarlier f = IfSome (parent_named f.body) (λ p. (p.home ≡ f.origin) × (p.num < f.num))
