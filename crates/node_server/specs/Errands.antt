-- The call that operators want: one at a time, by number.
use Rattle.std.specs.Prelude.{◌+◌, ◌-◌, ◌^◌, ◌&&◌, ◌==◌, ℕ, Bool, Option, None, Some, false, if◌then◌else◌, min, not, true}
use Rattle.node_server.specs.declared.operators.errand.ErrandEnd.{ErrandEnd}
use Rattle.node_server.specs.declared.operators.errand.ErrandEnd.TheVariants.{Answered, Unknown, Withdrawn}
use Rattle.node_server.specs.declared.operators.errand.Numbered.{Numbered}

-- The number of the last call that was wanted; the call, until it is taken or withdrawn; whether
-- nobody waits for it any more; and what it resulted in, until that is taken
pub record Asked (W A : Type 0) : Type 0 where
  pub number : ℕ
  pub wanted : Option W
  pub is_given_up : Bool
  pub answer : Option A

abbrev pub nothing : {W A : Type 0} → Asked W A
nothing = record { number = 0; wanted = None; is_given_up = false; answer = None }

abbrev pub next_number : ℕ → ℕ
next_number number = min (number + 1) (2 ^ 64 - 1)

abbrev pub asked_by : {W A : Type 0} → W → Asked W A → Asked W A
asked_by wanted e = record { number = next_number e.number; wanted = Some wanted; is_given_up = false; answer = None }

-- a call is taken, with its number
abbrev pub numbered_if : {W : Type 0} → ℕ → Option W → Option (Numbered W)
numbered_if number None = None
numbered_if number (Some wanted) = Some (record { number = number; wanted = wanted })

abbrev pub numbered : {W A : Type 0} → Asked W A → Option (Numbered W)
numbered e = numbered_if e.number e.wanted

abbrev pub taken : {W A : Type 0} → Asked W A → Asked W A
taken e = record e { wanted = None }

-- whether somebody waits for the call with this number
abbrev pub is_awaited : {W A : Type 0} → ℕ → Asked W A → Bool
is_awaited number e = (number == e.number) && not e.is_given_up

abbrev pub after_hand_back : {W A : Type 0} → ℕ → A → Asked W A → Asked W A
after_hand_back number answer e = if is_awaited number e then record e { answer = Some answer } else e

abbrev pub after_answer : {W A : Type 0} → Asked W A → Asked W A
after_answer e = record e { answer = None }

-- the wait ends: with the answer if it is there; otherwise the call is withdrawn if its turn hadn't
-- come, and given up if it had
abbrev pub end_by : {A : Type 0} → (is_back : Bool) → Option A → ErrandEnd A
end_by is_back (Some answer) = Answered answer
end_by is_back None = if is_back then Withdrawn else Unknown

abbrev pub end_of : {W A : Type 0} → (is_back : Bool) → Asked W A → ErrandEnd A
end_of is_back e = end_by is_back e.answer

abbrev pub given_up_by : {W A : Type 0} → (is_back : Bool) → Option A → Asked W A → Asked W A
given_up_by is_back (Some answer) e = record e { answer = None }
given_up_by is_back None e = if is_back then record e { wanted = None; answer = None } else record e { is_given_up = true; answer = None }

abbrev pub after_give_up : {W A : Type 0} → (is_back : Bool) → Asked W A → Asked W A
after_give_up is_back e = given_up_by is_back e.answer e
