-- What is due of the participants of a home by a view, as lists, and what the view says of one
-- participant and its LRA.
use Rattle.std.specs.Prelude.{ℕ, List, Option}
use Rattle.state_ids.specs.Ids.{Id}
use Rattle.state_forest.specs.declared.duties.Due.{Due}
use Rattle.state_forest.specs.declared.record.Participant.{Participant}
use Rattle.state_forest.specs.RecordDues.{due_to_compensate, due_to_complete, due_to_forget, due_to_hear}
use Rattle.state_forest.specs.Said.{parent_at, participant_of}
use Rattle.theory_history.specs.Readings.{at_home}
use Rattle.theory_history.specs.Views.{View, records_at}

abbrev pub completions_of : View → ℕ → List Due
completions_of view me = due_to_complete (at_home view me) (records_at view.records me)

abbrev pub compensations_of : View → ℕ → List Due
compensations_of view me = due_to_compensate me (at_home view me) (records_at view.records me)

abbrev pub forgets_of : View → ℕ → List Due
forgets_of view me = due_to_forget (at_home view me) (records_at view.records me)

abbrev pub hearings_of : View → ℕ → List Due
hearings_of view me = due_to_hear (at_home view me) (records_at view.records me)

-- the participant m of l, if there is one
abbrev pub participant_in : View → Id → ℕ → Option Participant
participant_in view l m = participant_of (at_home view l.home) l.num m

abbrev pub parent_in : View → Id → Option Id
parent_in view l = parent_at l.home (at_home view l.home) l.num
