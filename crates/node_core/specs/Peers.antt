-- What a node knows of how each other node behaves.
use Rattle.std.specs.Prelude.{◌-◌, ℕ, Bool, List, Option, None, Some, false, if◌then◌else◌, replicate, slice_index_or, slice_set, true}

-- For each of eight nodes: the number of the refusal of what it sent last; whether the last pull from
-- it failed; and whether it was seen to send pulls that wait, and no pull from it has failed since
pub record Behaviour : Type 0 where
  pub refused : List (Option ℕ)
  pub silent : List Bool
  pub waiting : List Bool

-- no node has asked or answered
abbrev pub strangers : Behaviour
strangers = record { refused = replicate 8 None; silent = replicate 8 false; waiting = replicate 8 false }

abbrev pub with_refused : (other : ℕ) → Option ℕ → Behaviour → Behaviour
with_refused other number p = record p { refused = slice_set p.refused (other - 1) number }

abbrev pub with_silent : (other : ℕ) → Bool → Behaviour → Behaviour
with_silent other is_silent p = record p { silent = slice_set p.silent (other - 1) is_silent }

abbrev pub with_waiting : (other : ℕ) → Bool → Behaviour → Behaviour
with_waiting other waits p = record p { waiting = slice_set p.waiting (other - 1) waits }

abbrev pub refusal_of : (other : ℕ) → Behaviour → Option ℕ
refusal_of other p = slice_index_or p.refused (other - 1) None

abbrev pub is_silent : (other : ℕ) → Behaviour → Bool
is_silent other p = slice_index_or p.silent (other - 1) false

abbrev pub asks_waiting : (other : ℕ) → Behaviour → Bool
asks_waiting other p = slice_index_or p.waiting (other - 1) false

abbrev pub refused_by : (other number : ℕ) → Behaviour → Behaviour
refused_by other number p = with_refused other (Some number) p

-- a pull from a node failed or didn't: after one that failed, it isn't known to hold pulls
abbrev pub silent_if : (is_silent : Bool) → (other : ℕ) → Behaviour → Behaviour
silent_if is_silent other p = if is_silent then with_waiting other false (with_silent other true p) else with_silent other false p

-- a node asks, and so is alive
abbrev pub asked_by : (other : ℕ) → (waits : Bool) → Behaviour → Behaviour
asked_by other waits p = if waits then with_waiting other true (with_silent other false p) else with_silent other false p
