-- What the participants of one record owe: to complete, to forget, or to hear that the LRA has
-- ended.
use Rattle.std.specs.Prelude.{◌≡◌, IfSome, ◌+◌, ◌&&◌, ℕ, Bool, false, Option, Some, None, List, [], ◌∷◌, if◌then◌else◌, is_some}
use mathlib.Core.Bool.{not}
use Rattle.state_ids.specs.Ids.{Id, is_fact_number}
use Rattle.state_ids.specs.declared.outcome.Verdict.{Verdict}
use Rattle.state_ids.specs.declared.outcome.Verdict.TheVariants.{Close, Cancel}
use Rattle.state_facts.specs.declared.fact.Fact.{Fact}
use Rattle.state_facts.specs.Duties.{has_to_forget, is_after_duty, is_at_end, is_forget_duty, is_over, is_pending}
use Rattle.state_facts.specs.Sets.{is_root, want}
use Rattle.state_forest.specs.declared.duties.Due.{Due}
use Rattle.state_forest.specs.declared.duties.DutyKind.{DutyKind}
use Rattle.state_forest.specs.declared.duties.LastRoot.{LastRoot}
use Rattle.state_forest.specs.declared.duties.DutyKind.TheVariants.{Complete, Forget, Tell}
use Rattle.state_forest.specs.declared.duties.Owing.{Owing}
use Rattle.state_forest.specs.declared.duties.Owing.TheVariants.{Nothing, Completion, Forgetting, Hearing}
use Rattle.state_forest.specs.declared.record.Member.{Member}
use Rattle.state_forest.specs.declared.record.Member.TheVariants.{Nested, Participant, Left}
use Rattle.state_forest.specs.declared.record.Participant.{Participant as ParticipantRecord}
use Rattle.state_forest.specs.declared.record.Record.{Record}
use Rattle.state_forest.specs.Dues.{is_complete_duty}
use Rattle.state_forest.specs.Said.{is_at_end_at, is_ended_at, is_over_at, is_unheard, want_at}
use Rattle.state_forest.specs.Statuses.{status_in}

-- the duty of a participant for an errand
abbrev pub duty_of : DutyKind → List Fact → Id → ℕ → Bool
duty_of Complete = is_complete_duty
duty_of Forget = is_forget_duty
duty_of Tell = is_after_duty

-- whether completion may be owed, by what the LRA wants
abbrev pub completing_by : Option Verdict → Owing
completing_by (Some Close) = Completion
completing_by (Some Cancel) = Nothing
completing_by None = Nothing

-- what the participants of l may owe for an errand
abbrev pub owing_of : DutyKind → List Fact → Id → Owing
owing_of Complete S l = completing_by (want S l)
owing_of Forget S l = if is_over S l then Forgetting (want S l) (not (is_root S l)) else Nothing
owing_of Tell S l = if is_at_end S l then Hearing else Nothing

-- what the participants of this record's LRA may have to forget once its root is ended
abbrev pub forgetting_at : (ℕ → Option Record) → Record → Owing
forgetting_at at r = Forgetting (want_at at r.num) (is_some r.parent)

-- what the participants of this record's LRA may owe for an errand (whether a root is ended is
-- tested only if it matters, so clauses say that the result is the same, `owed_by result .. ≡
-- owed_by (owing_at ..) ..`, and not that the value is the same)
abbrev pub owing_at : DutyKind → (ℕ → Option Record) → Record → Owing
owing_at Complete at r = completing_by (want_at at r.num)
owing_at Forget at r = if is_over_at at r.num then forgetting_at at r else Nothing
owing_at Tell at r = if is_at_end_at at r.num then Hearing else Nothing

-- the remembered result for the last tested root is right
abbrev pub IsLastRoot : (ℕ → Option Record) → Option LastRoot → Type 0
IsLastRoot at last = IfSome last (λ asked. asked.ended ≡ is_ended_at at asked.root)

-- whether a participant owes this
abbrev pub owes : Owing → ParticipantRecord → Bool
owes Nothing p = false
owes Completion p = is_some p.links.complete && is_pending p.completed
owes (Forgetting want nested) p = is_some p.links.forget && (not p.forgotten && has_to_forget nested (status_in want p))
owes Hearing p = is_unheard p

abbrev pub owes_at : Owing → Member → Bool
owes_at owing (Nested num) = false
owes_at owing (Participant p) = owes owing p
owes_at owing Left = false

-- the members of l, numbered from i, that owe this
abbrev pub owed_by : Owing → Id → ℕ → List Member → List Due
owed_by owing l i [] = []
owed_by owing l i (m ∷ ms) = if owes_at owing m then record { lra = l; member = i } ∷ owed_by owing l (i + 1) ms else owed_by owing l (i + 1) ms

-- the participants of a record of the home that owe this, if its LRA has a number that a fact can
-- have
abbrev pub owed_of : DutyKind → ℕ → (ℕ → Option Record) → Record → List Due
owed_of errand home at r = if is_fact_number r.num then owed_by (owing_at errand at r) (record { home = home; num = r.num }) 1 r.members else []
