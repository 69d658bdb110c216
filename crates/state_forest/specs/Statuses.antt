-- The statuses of participants, by the records of one home.
use Rattle.std.specs.Prelude.{◌||◌, ℕ, zero, suc, Bool, false, Option, Some, None, Result, Ok, Err}
use Rattle.std.specs.List.{list_any}
use Rattle.state_ids.specs.States.{same_member_status}
use Rattle.state_ids.specs.declared.outcome.Verdict.{Verdict}
use Rattle.state_ids.specs.declared.status.MemberStatus.{MemberStatus}
use Rattle.state_ids.specs.declared.status.MemberStatus.TheVariants.{FailedToComplete, FailedToCompensate}
use Rattle.state_facts.specs.declared.refusal.Refusal.{Refusal}
use Rattle.state_facts.specs.declared.refusal.Refusal.TheVariants.{UnknownMember}
use Rattle.state_facts.specs.Sets.{status_by, is_open}
use Rattle.state_forest.specs.declared.record.Participant.{Participant as ParticipantRecord}
use Rattle.state_forest.specs.declared.record.Member.{Member}
use Rattle.state_forest.specs.declared.record.Member.TheVariants.{Nested, Participant, Left}
use Rattle.state_forest.specs.declared.record.Record.{Record}
use Rattle.state_forest.specs.declared.seen.Seen.{Seen}
use Rattle.state_forest.specs.Children.{child_of}
use Rattle.state_forest.specs.Wants.{over}

-- the status of a participant, by what its LRA wants
abbrev pub status_in : Option Verdict → ParticipantRecord → MemberStatus
status_in want p = status_by want p.links p.completed p.compensated

-- the status of a member, if it is a participant
abbrev pub status_at : Option Verdict → Option Member → Option MemberStatus
status_at want (Some (Participant p)) = Some (status_in want p)
status_at want (Some (Nested num)) = None
status_at want (Some Left) = None
status_at want None = None

-- the answer if there is such a participant, otherwise a refusal
abbrev pub known : Option MemberStatus → Result MemberStatus Refusal
known None = Err UnknownMember
known (Some s) = Ok s

-- the member shows a status that passes the test, or is a nested LRA for which `nested` holds
abbrev pub shows_at : (MemberStatus → Bool) → (ℕ → Bool) → Option Verdict → Member → Bool
shows_at test nested want (Nested num) = nested num
shows_at test nested want (Participant p) = test (status_in want p)
shows_at test nested want Left = false

-- a member of the record passes, if this is wanted above it
abbrev pub member_passes : (Option Verdict → Member → Bool) → Option Verdict → Option Record → Bool
member_passes passes want None = false
member_passes passes want (Some r) = list_any (passes (over r.decision want)) r.members

-- The member of the LRA num, or one nested in it at most this many levels down, shows a status that
-- passes the test. `at` gives the record of the LRA with a number
unfoldable pub shows_within : ℕ → (MemberStatus → Bool) → (ℕ → Option Record) → ℕ → Option Verdict → Member → Bool
shows_within zero test at num want m = shows_at test (λ child. false) want m
shows_within (suc levels) test at num want m =
    shows_at test (λ child. member_passes (shows_within levels test at child) want (child_of at num child)) want m

-- what is seen, by what passes each test (one equation over the whole record, instead of a clause
-- for each flag)
abbrev pub seen_by : ((MemberStatus → Bool) → Bool) → Seen
seen_by passes =
    record {
      unsettled = passes is_open;
      incomplete = passes (same_member_status FailedToComplete);
      uncompensated = passes (same_member_status FailedToCompensate);
    }

abbrev pub seen_or : Seen → Seen → Seen
seen_or a b =
    record {
      unsettled = a.unsettled || b.unsettled;
      incomplete = a.incomplete || b.incomplete;
      uncompensated = a.uncompensated || b.uncompensated;
    }
