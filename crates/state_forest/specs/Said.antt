-- What records say of an LRA, whatever set they stand for, if any. `at` gives the record of the LRA
-- with a number, if there is one. An LRA without a record has no members and wants nothing.
use Rattle.std.specs.Prelude.{◌+◌, ◌==◌, ◌&&◌, ◌||◌, ℕ, zero, suc, Bool, false, Option, Some, None, List, [], ◌∷◌, filter, find, if◌then◌else◌, is_none, is_some, length, map, nat_le}
use mathlib.Core.Bool.{not}
use Rattle.std.specs.List.{list_any}
use Rattle.std.specs.Option.{option_map_or}
use Rattle.state_ids.specs.Ids.{Id, is_fact_number}
use Rattle.state_ids.specs.States.{level, same_member_status, same_verdict, shown}
use Rattle.state_ids.specs.declared.outcome.Act.{Act}
use Rattle.state_ids.specs.declared.outcome.Outcome.{Outcome}
use Rattle.state_ids.specs.declared.outcome.Verdict.{Verdict}
use Rattle.state_ids.specs.declared.outcome.Verdict.TheVariants.{Close, Cancel}
use Rattle.state_ids.specs.declared.status.LraStatus.{LraStatus}
use Rattle.state_ids.specs.declared.status.MemberStatus.{MemberStatus}
use Rattle.state_ids.specs.declared.status.MemberStatus.TheVariants.{FailedToComplete, FailedToCompensate}
use Rattle.state_facts.specs.Duties.{has_to_forget, wants_cancel}
use Rattle.state_facts.specs.Sets.{demands, is_open}
use Rattle.state_forest.specs.declared.forest.TheConstants.{MAX_DEPTH}
use Rattle.state_forest.specs.declared.duties.Due.{Due}
use Rattle.state_forest.specs.declared.record.Member.{Member}
use Rattle.state_forest.specs.declared.record.Member.TheVariants.{Nested, Participant, Left}
use Rattle.state_forest.specs.declared.record.Participant.{Participant as ParticipantRecord}
use Rattle.state_forest.specs.declared.record.Place.{Place}
use Rattle.state_forest.specs.declared.record.Record.{Record}
use Rattle.state_forest.specs.Forests.{id_of}
use Rattle.state_forest.specs.MembersByNumber.{numbered}
use Rattle.state_forest.specs.Overdue.{is_past}
use Rattle.state_forest.specs.Participants.{heard_by, participant_at}
use Rattle.state_forest.specs.Statuses.{shows_within, status_at, status_in}

-- Up

-- a record, and those above it from its parent up, if it names one
abbrev pub with_above : (ℕ → List Record) → Record → List Record
with_above above r = r ∷ option_map_or (λ (p : Place). above p.number) r.parent []

-- the record of an LRA, that of its parent and so on, at most this many; they end at a root, or
-- where there is no record
unfoldable pub records_up : ℕ → (ℕ → Option Record) → ℕ → List Record
records_up zero at num = []
records_up (suc levels) at num = option_map_or (with_above (records_up levels at)) (at num) []

abbrev pub has_decision : Verdict → Record → Bool
has_decision verdict r = option_map_or (same_verdict verdict) r.decision false

-- Cancel if an LRA of the chain is cancelled, otherwise Close if one is closed
abbrev pub wanted_by : List Record → Option Verdict
wanted_by chain =
    if list_any (has_decision Cancel) chain then Some Cancel
    else (if list_any (has_decision Close) chain then Some Close else None)

-- what the LRA with this number wants: a chain has at most 8 LRAs, and nothing above those is
-- looked at
abbrev pub want_at : (ℕ → Option Record) → ℕ → Option Verdict
want_at at num = wanted_by (records_up MAX_DEPTH at num)

abbrev pub depth_at : (ℕ → Option Record) → ℕ → ℕ
depth_at at num = length (records_up MAX_DEPTH at num)

-- the parent that the record of an LRA of the home names, if it names one with a number that a fact
-- can have
abbrev pub parent_at : ℕ → (ℕ → Option Record) → ℕ → Option Id
parent_at home at num =
    option_map_or (λ (r : Record). option_map_or (λ (p : Place). if is_fact_number p.number then Some (record { home = home; num = p.number }) else None) r.parent None)
    (at num) None

-- Members

abbrev pub members_at : (ℕ → Option Record) → ℕ → List Member
members_at at num = option_map_or (λ (r : Record). r.members) (at num) []

-- the participant with a member number, if there is one
abbrev pub participant_of : (ℕ → Option Record) → ℕ → ℕ → Option ParticipantRecord
participant_of at num m = participant_at (numbered (members_at at num) m)

-- the status of the participant with this member number
abbrev pub member_shown_at : (ℕ → Option Record) → ℕ → ℕ → Option MemberStatus
member_shown_at at num m = status_at (want_at at num) (numbered (members_at at num) m)

abbrev pub is_demanded_at : (ℕ → Option Record) → ℕ → ℕ → Act → Bool
is_demanded_at at num m act = option_map_or (λ (p : ParticipantRecord). demands (want_at at num) p.links act) (participant_of at num m) false

abbrev pub is_heard_at : (ℕ → Option Record) → ℕ → ℕ → Act → Outcome → Bool
is_heard_at at num m act outcome =
    option_map_or (λ (p : ParticipantRecord). nat_le (level (Some outcome)) (level (heard_by p act))) (participant_of at num m) false

-- Down

-- a participant of the LRA, or of one nested in it at most 7 levels down, shows a status that
-- passes the test
abbrev pub some_shows_at : (MemberStatus → Bool) → (ℕ → Option Record) → ℕ → Bool
some_shows_at test at num = list_any (shows_within 7 test at num (want_at at num)) (members_at at num)

-- the LRA wants something, and each participant under it is final
abbrev pub is_ended_at : (ℕ → Option Record) → ℕ → Bool
is_ended_at at num = is_some (want_at at num) && not (some_shows_at is_open at num)

abbrev pub shown_at : (ℕ → Option Record) → ℕ → LraStatus
shown_at at num =
    shown (want_at at num) (is_ended_at at num) (some_shows_at (same_member_status FailedToComplete) at num) (some_shows_at (same_member_status FailedToCompensate) at num)

-- Deadlines

-- the LRA's number is one that a fact can have, its deadline has passed, and it wants nothing
abbrev pub is_overdue_at : (ℕ → Option Record) → ℕ → Record → Bool
is_overdue_at at now r = is_fact_number r.num && (is_past r.deadline now && is_none (want_at at r.num))

-- the LRA of the first overdue record, and so the one with the least number, since records are in
-- order of their numbers
abbrev pub first_overdue : ℕ → (ℕ → Option Record) → ℕ → List Record → Option Id
first_overdue home at now records = option_map_or (λ (r : Record). Some (record { home = home; num = r.num })) (find (is_overdue_at at now) records) None

-- Roots

-- the LRA has a record, which names no parent
abbrev pub is_root_at : (ℕ → Option Record) → ℕ → Bool
is_root_at at num = option_map_or (λ (r : Record). is_none r.parent) (at num) false

-- a root is found among the first 8 LRAs of the chain, and that root is ended
abbrev pub is_over_at : (ℕ → Option Record) → ℕ → Bool
is_over_at at num = list_any (λ (r : Record). is_none r.parent && is_ended_at at r.num) (records_up MAX_DEPTH at num)

-- the LRA with the number `above` is found among the first 8 of the chain of the LRA with the
-- number `num`
abbrev pub is_under_at : (ℕ → Option Record) → (above num : ℕ) → Bool
is_under_at at above num = list_any (λ (r : Record). r.num == above) (records_up MAX_DEPTH at num)

-- the record's LRA has a number that a fact can have, and is the LRA with this number or nested in
-- it
abbrev pub is_below : (ℕ → Option Record) → ℕ → Record → Bool
is_below at num r = is_fact_number r.num && is_under_at at num r.num

-- the LRAs of those records
abbrev pub ids_below : (ℕ → Option Record) → ℕ → List Record → List Id
ids_below at num records = map id_of (filter (is_below at num) records)

-- Forgetting

-- a participant of this record's LRA is to be told that it may forget
abbrev pub is_owed : (ℕ → Option Record) → Record → ParticipantRecord → Bool
is_owed at r p =
    is_over_at at r.num && (is_some p.links.forget && (not p.forgotten && has_to_forget (is_some r.parent) (status_in (want_at at r.num) p)))

abbrev pub is_owed_at : (ℕ → Option Record) → ℕ → ℕ → Bool
is_owed_at at num m = option_map_or (λ (r : Record). option_map_or (is_owed at r) (participant_of at num m) false) (at num) false

-- the participant with this member number was told to forget
abbrev pub is_forgot_at : (ℕ → Option Record) → ℕ → ℕ → Bool
is_forgot_at at num m = option_map_or (λ (p : ParticipantRecord). p.forgotten) (participant_of at num m) false

-- Being told that an LRA has ended

-- a root is found among the first 8 LRAs of the chain, and that root wants something
abbrev pub is_root_decided_at : (ℕ → Option Record) → ℕ → Bool
is_root_decided_at at num = list_any (λ (r : Record). is_none r.parent && is_some (want_at at r.num)) (records_up MAX_DEPTH at num)

-- the LRA is ended, and no later decision changes what it shows
abbrev pub is_at_end_at : (ℕ → Option Record) → ℕ → Bool
is_at_end_at at num = is_ended_at at num && (wants_cancel (want_at at num) || is_root_decided_at at num)

-- the participant has a link for the end of its LRA, and was not told of the end
abbrev pub is_unheard : ParticipantRecord → Bool
is_unheard p = is_some p.links.after && not p.told

-- a participant of this record's LRA is to be told that the LRA has ended
abbrev pub is_to_hear : (ℕ → Option Record) → Record → ParticipantRecord → Bool
is_to_hear at r p = is_at_end_at at r.num && is_unheard p

abbrev pub is_to_hear_at : (ℕ → Option Record) → ℕ → ℕ → Bool
is_to_hear_at at num m = option_map_or (λ (r : Record). option_map_or (is_to_hear at r) (participant_of at num m) false) (at num) false

-- the participant with this member number was told that its LRA has ended
abbrev pub is_told_at : (ℕ → Option Record) → ℕ → ℕ → Bool
is_told_at at num m = option_map_or (λ (p : ParticipantRecord). p.told) (participant_of at num m) false

-- The least participant that must still be told something, by a test of the participants of a
-- record

-- the member is a participant that passes the test
abbrev pub passes_member : (ParticipantRecord → Bool) → Member → Bool
passes_member passes (Participant p) = passes p
passes_member passes (Nested num) = false
passes_member passes Left = false

-- the first of these members of l that passes, where they are numbered from k
abbrev pub first_member : (ParticipantRecord → Bool) → Id → ℕ → List Member → Option Due
first_member passes l k [] = None
first_member passes l k (m ∷ ms) = if passes_member passes m then Some (record { lra = l; member = k }) else first_member passes l (k + 1) ms

-- the first participant of a record that passes, if the record's LRA is the one with this number or
-- nested in it
abbrev pub first_below : (Record → ParticipantRecord → Bool) → (ℕ → Option Record) → ℕ → Record → Option Due
first_below passes at num r = if is_below at num r then first_member (passes r) (id_of r) 1 r.members else None

-- the first such participant of all records, and so the least, since records are in order of their
-- numbers
abbrev pub least_below : (Record → ParticipantRecord → Bool) → (ℕ → Option Record) → ℕ → List Record → Option Due
least_below passes at num [] = None
least_below passes at num (r ∷ rs) = option_map_or (λ due. Some due) (first_below passes at num r) (least_below passes at num rs)

-- the least that must be told to forget
abbrev pub least_owed_of : (ℕ → Option Record) → ℕ → List Record → Option Due
least_owed_of at num records = least_below (is_owed at) at num records

-- the least that must be told that its LRA has ended, now or later
abbrev pub least_unheard_of : (ℕ → Option Record) → ℕ → List Record → Option Due
least_unheard_of at num records = least_below (λ r p. is_unheard p) at num records
