-- What is due of the participants of a home by its records, as lists, whatever set the records
-- stand for, if any. `at` gives the record of the LRA with a number, if there is one.
use Rattle.std.specs.Prelude.{◌&&◌, ℕ, Bool, false, Option, Some, None, List, filter, filter_map, flat_map, if◌then◌else◌, length, map}
use mathlib.Core.Bool.{not}
use Rattle.std.specs.List.{range_with_len}
use Rattle.std.specs.Option.{option_map_or}
use Rattle.state_ids.specs.Ids.{is_fact_number}
use Rattle.state_ids.specs.declared.outcome.Act.TheVariants.{Complete}
use Rattle.state_facts.specs.Duties.{is_pending, wants_cancel}
use Rattle.state_facts.specs.Sets.{demands}
use Rattle.state_forest.specs.declared.duties.Due.{Due}
use Rattle.state_forest.specs.declared.record.Participant.{Participant as ParticipantRecord}
use Rattle.state_forest.specs.declared.record.Place.{Place}
use Rattle.state_forest.specs.declared.record.Record.{Record}
use Rattle.state_forest.specs.Forests.{id_of}
use Rattle.state_forest.specs.Said.{is_owed_at, is_to_hear_at, participant_of, want_at}
use Rattle.state_forest.specs.Walks.{last_of, pending_within}

-- To complete, to forget, and to be told of the end

-- the LRA of a record with each of its member numbers
abbrev pub seats_of : Record → List Due
seats_of r = map (λ m. record { lra = id_of r; member = m }) (range_with_len 1 (length r.members))

-- the seats of all records whose LRAs have numbers that a fact can have, in order
abbrev pub seats : List Record → List Due
seats records = flat_map seats_of (filter (λ (r : Record). is_fact_number r.num) records)

-- the LRA with this number wants its participant with this member number to complete, and that act
-- is neither done nor failed
abbrev pub is_to_complete_at : (ℕ → Option Record) → ℕ → ℕ → Bool
is_to_complete_at at num m = option_map_or (λ (p : ParticipantRecord). demands (want_at at num) p.links Complete && is_pending p.completed) (participant_of at num m) false

abbrev pub due_to_complete : (ℕ → Option Record) → List Record → List Due
due_to_complete at records = filter (λ (d : Due). is_to_complete_at at d.lra.num d.member) (seats records)

abbrev pub due_to_forget : (ℕ → Option Record) → List Record → List Due
due_to_forget at records = filter (λ (d : Due). is_owed_at at d.lra.num d.member) (seats records)

abbrev pub due_to_hear : (ℕ → Option Record) → List Record → List Due
due_to_hear at records = filter (λ (d : Due). is_to_hear_at at d.lra.num d.member) (seats records)

-- To compensate

-- the record's LRA is cancelled, and its parent, if it has one, doesn't want Cancel
abbrev pub is_topmost_at : (ℕ → Option Record) → Record → Bool
is_topmost_at at r = wants_cancel r.decision && not (option_map_or (λ (p : Place). wants_cancel (want_at at p.number)) r.parent false)

-- the member at a place, if the LRA there has a number that a fact can have
abbrev pub due_at : ℕ → Place → Option Due
due_at home p = if is_fact_number p.number then Some (record { lra = record { home = home; num = p.number }; member = p.slot }) else None

-- Below a record of the home whose LRA is the topmost cancelled one: the last participant whose
-- compensation is pending, from the greatest member number down, going into nested LRAs at most 7
-- levels down (for a view that stands for no set, the code's own walk defines the compensations)
abbrev pub compensation_at : ℕ → (ℕ → Option Record) → Record → Option Due
compensation_at home at r = if is_topmost_at at r then option_map_or (due_at home) (last_of (pending_within 7 at r.num) 1 r.members) None else None

abbrev pub due_to_compensate : ℕ → (ℕ → Option Record) → List Record → List Due
due_to_compensate home at records = filter_map (compensation_at home at) records
