-- What a node counts for its operators.
use Rattle.std.specs.Prelude.{◌+◌, ◌-◌, ◌^◌, ℕ, Bool, List, Option, None, Some, false, if◌then◌else◌, min, nat_lt, replicate, slice_index_or, slice_set, true}
use Rattle.std.specs.declared.time.Duration.{Duration}
use Rattle.state_ids.specs.declared.outcome.Outcome.TheVariants.{Busy, Done, Failed}
use Rattle.wire_callbacks.specs.declared.answer.Heard.{Heard}
use Rattle.wire_callbacks.specs.declared.answer.Heard.TheVariants as heard
use Rattle.wire_callbacks.specs.declared.answer.Kind.{Kind}
use Rattle.wire_callbacks.specs.declared.answer.Kind.TheVariants as kind
use Rattle.node_agenda.specs.declared.sweep.Purged.{Purged}
use Rattle.node_agenda.specs.declared.sweep.Purged.TheVariants as purged
use Rattle.node_core.specs.declared.counts.CallKind.{CallKind}
use Rattle.node_core.specs.declared.counts.CallKind.TheVariants as call
use Rattle.node_core.specs.declared.counts.NodeCounts.{NodeCounts}
use Rattle.node_core.specs.declared.counts.PullResult.{PullResult}
use Rattle.node_core.specs.declared.counts.PullResult.TheVariants as pull
use Rattle.node_core.specs.declared.counts.RunEnd.{RunEnd}
use Rattle.node_core.specs.declared.counts.RunEnd.TheVariants as run

-- at which place each kind is counted: there the lists of names have its name
abbrev pub call_place : CallKind → ℕ
call_place call.Begin = 0
call_place call.Join = 1
call_place call.Leave = 2
call_place call.Close = 3
call_place call.Cancel = 4
call_place call.Report = 5
call_place call.Forgot = 6
call_place call.Told = 7
call_place call.Purge = 8
call_place call.Status = 9
call_place call.Member = 10
call_place call.Page = 11
call_place call.Pull = 12
call_place call.Take = 13
call_place call.Duties = 14
call_place call.Expire = 15
call_place call.Record = 16
call_place call.Survey = 17

abbrev pub run_place : RunEnd → ℕ
run_place run.Full = 0
run_place run.JournalFailed = 1
run_place run.Stopped = 2
run_place run.RunFull = 3
run_place run.TrailLost = 4
run_place run.Starved = 5

abbrev pub kind_place : Kind → ℕ
kind_place kind.Complete = 0
kind_place kind.Compensate = 1
kind_place kind.Status = 2
kind_place kind.Forget = 3
kind_place kind.After = 4

-- an answer that counts for nothing is counted as none
abbrev pub answer_place : Option Heard → ℕ
answer_place (Some (heard.Outcome Done)) = 0
answer_place (Some (heard.Outcome Failed)) = 1
answer_place (Some (heard.Outcome Busy)) = 2
answer_place (Some heard.Forgot) = 3
answer_place (Some heard.Told) = 3
answer_place (Some heard.Again) = 4
answer_place None = 4

abbrev pub pull_place : PullResult → ℕ
pull_place pull.New = 0
pull_place pull.Nothing = 1
pull_place pull.Failed = 2
pull_place pull.Refused = 3

abbrev pub purge_place : Purged → ℕ
purge_place purged.Gone = 0
purge_place purged.Nested = 1
purge_place (purged.Waits id) = 2
purge_place purged.Later = 3
purge_place purged.Changed = 4
purge_place purged.Missing = 5

-- a count goes up to 2^64 - 1, and no further
abbrev pub raised : (by count : ℕ) → ℕ
raised by count = min (count + by) (2 ^ 64 - 1)

-- one more at a place
abbrev pub one_more : (place : ℕ) → List ℕ → List ℕ
one_more place counts = slice_set counts place (raised 1 (slice_index_or counts place 0))

abbrev pub none_of : (kinds : ℕ) → List ℕ
none_of kinds = replicate kinds 0

-- nothing has happened yet
abbrev pub uncounted : NodeCounts
uncounted = record {
  calls = none_of 18;
  refused = none_of 24;
  runs = none_of 6;
  callbacks = replicate 5 (none_of 5);
  pulls = replicate 8 (none_of 4);
  pulled = replicate 8 None;
  swept = none_of 6;
  failures = 0;
  accepted = 0;
  closed = 0;
}

-- a refusal is counted by its number, 1 to 24
abbrev pub refused_once : Option ℕ → List ℕ → List ℕ
refused_once None refused = refused
refused_once (Some number) refused = if nat_lt (number - 1) 24 then one_more (number - 1) refused else refused

abbrev pub called : CallKind → (refusal : Option ℕ) → NodeCounts → NodeCounts
called asked refusal c = record c { calls = one_more (call_place asked) c.calls; refused = refused_once refusal c.refused }

abbrev pub run_ended : RunEnd → NodeCounts → NodeCounts
run_ended why c = record c { runs = one_more (run_place why) c.runs }

abbrev pub called_back : Kind → Option Heard → NodeCounts → NodeCounts
called_back kind heard c = record c {
  callbacks = slice_set c.callbacks (kind_place kind) (one_more (answer_place heard) (slice_index_or c.callbacks (kind_place kind) (none_of 5)));
}

-- whether another node was reached and answered with what it knows
abbrev pub has_answered : PullResult → Bool
has_answered pull.New = true
has_answered pull.Nothing = true
has_answered _ = false

abbrev pub pulled_by : (other : ℕ) → PullResult → Duration → NodeCounts → NodeCounts
pulled_by other came now c = record c {
  pulls = slice_set c.pulls (other - 1) (one_more (pull_place came) (slice_index_or c.pulls (other - 1) (none_of 4)));
  pulled = if has_answered came then slice_set c.pulled (other - 1) (Some now) else c.pulled;
}

abbrev pub purged_by : Purged → NodeCounts → NodeCounts
purged_by came c = record c { swept = one_more (purge_place came) c.swept }

abbrev pub failed_once : NodeCounts → NodeCounts
failed_once c = record c { failures = raised 1 c.failures }

abbrev pub accepted_once : NodeCounts → NodeCounts
accepted_once c = record c { accepted = raised 1 c.accepted }

abbrev pub closed_by : (connections : ℕ) → NodeCounts → NodeCounts
closed_by connections c = record c { closed = raised connections c.closed }
