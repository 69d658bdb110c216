-- What a list of duties does to the slips, one duty after another.
use Rattle.std.specs.Prelude.{◌≡◌, ◌≤◌, ◌<◌, ◌+◌, ◌++◌, ◌∷◌, [], ◌⊎◌, ℕ, Bool, List, Option, None, Some, IsTrue, cond, filter, length, map, max, take}
use Rattle.std.specs.List.{count_by}
use Rattle.std.specs.declared.time.Duration.{Duration}
use Rattle.wire_callbacks.specs.declared.duty.Duty.{Duty}
use Rattle.node_schedule.specs.Calling.{Calling}
use Rattle.node_schedule.specs.Once.{calls_of, current_of, dues_of, duties_for, hidden_of, is_stray, listed_of, pauses_of, slips_of, spare_of, waits_of}
use Rattle.node_schedule.specs.Pausing.{slip_at}
use Rattle.node_schedule.specs.Slips.{fresh, is_remembered, taken_back}
use Rattle.node_schedule.specs.Turns.{is_kept, recalled, with_hosts}
use Rattle.node_schedule.specs.declared.slip.Called.{Called}
use Rattle.node_schedule.specs.declared.slip.Slip.{Slip}

-- a participant has its slip at this place: the slip was already there, at or behind `from`, or it
-- is new because there was none from there on
pub record IsPlacedAt (from : ℕ) (who : Called) (old new : List Slip) (place : ℕ) : Type 0 where
  pub is_its : (slip_at new place).who ≡ who
  pub behind : from ≤ length old → from ≤ place
  pub slips : (new ≡ old) ⊎ ((new ≡ old ++ fresh who ∷ []) × (slips_of who (take from old) ≡ slips_of who old))

abbrev pub IsPlaced : ℕ → Called → List Slip → List Slip → Option ℕ → Type 0
IsPlaced from who old new None = new ≡ old
IsPlaced from who old new (Some place) = IsPlacedAt from who old new place

-- A participant's slip is moved to a place, and stands there at the end. There are as many slips of
-- each kind before that place as earlier, and also in all, except for a new one.
pub record IsBrought (place : ℕ) (who : Called) (old new : List Slip) (is_there : Bool) : Type 0 where
  pub there : IsTrue is_there → (place < length new) × ((slip_at new place).who ≡ who)
  pub room : length old ≤ length new
  pub first : (test : Slip → Bool) → place ≤ length old → count_by test (take place new) ≡ count_by test (take place old)
  pub all : ((test : Slip → Bool) → count_by test new ≡ count_by test old)
      ⊎ (((test : Slip → Bool) → count_by test new ≡ count_by test old + cond (test (fresh who)) 1 0) × (slips_of who (take place old) ≡ slips_of who old))

-- What placing one duty of a list changes for a given participant. It has slips at most where it
-- had some, or where the duty is the first for it. If it is being called it stays so, and its pause
-- doesn't grow. A duty is queued at a host only for a participant that waits.
pub record PutsOne (now : Duration) (duty : Duty) (place : ℕ) (who : Called) (old new : Calling) (is_put : Bool) : Type 0 where
  pub slips : slips_of who new.slips ≤ max (slips_of who old.slips) (slips_of who (take place old.slips) + duties_for who (duty ∷ []))
  pub first : slips_of who (take (place + cond is_put 1 0) new.slips) ≤ slips_of who (take place old.slips) + duties_for who (duty ∷ [])
  pub room : place + cond is_put 1 0 ≤ length new.slips
  pub calls : calls_of who new.slips ≡ calls_of who old.slips
  pub pauses : pauses_of now who new.slips ≤ pauses_of now who old.slips
  pub listed : listed_of who new.slips ≤ listed_of who old.slips + duties_for who (duty ∷ [])
  pub hidden : hidden_of who new.slips ≤ hidden_of who old.slips
  pub current : current_of who new.slips ≤ current_of who old.slips
  pub stray : count_by is_stray new.slips ≤ count_by is_stray old.slips
  pub waits : waits_of who new.slips ≤ waits_of who old.slips + duties_for who (duty ∷ [])
  pub dues : dues_of who new.now.hosts + waits_of who old.slips ≡ dues_of who old.now.hosts + waits_of who new.slips
  pub more : dues_of who old.now.hosts ≤ dues_of who new.now.hosts
  pub spare : spare_of who new.now.hosts ≤ spare_of who old.now.hosts
  pub put : IsTrue is_put → 0 < duties_for who (duty ∷ []) → waits_of who old.slips ≡ 0 → calls_of who old.slips ≡ 0 → pauses_of now who old.slips ≡ 0
      → dues_of who old.now.hosts < dues_of who new.now.hosts

-- What the duties of a list so far have changed for a given participant, for whom there are `all`
-- duties in the list, `left` of them still to come. If it is being called it stays so, and its
-- pause doesn't grow. If the list has one duty for it, it has one slip, and its duty is queued if
-- it may be called and there was memory.
pub record PutsSome (now : Duration) (who : Called) (all left : ℕ) (old new : Calling) (is_whole : Bool) : Type 0 where
  pub few : left ≤ all
  pub slips : all ≤ 1 → slips_of who old.slips ≤ 1 → slips_of who new.slips ≤ 1
  pub calls : calls_of who new.slips ≡ calls_of who old.slips
  pub pauses : pauses_of now who new.slips ≤ pauses_of now who old.slips
  pub listed : listed_of who new.slips + left ≤ listed_of who old.slips + all
  pub hidden : hidden_of who new.slips ≤ hidden_of who old.slips
  pub current : current_of who new.slips ≤ current_of who old.slips
  pub stray : count_by is_stray new.slips ≤ count_by is_stray old.slips
  pub waits : waits_of who new.slips + left ≤ waits_of who old.slips + all
  pub dues : dues_of who new.now.hosts + waits_of who old.slips ≡ dues_of who old.now.hosts + waits_of who new.slips
  pub more : dues_of who old.now.hosts ≤ dues_of who new.now.hosts
  pub spare : spare_of who new.now.hosts ≤ spare_of who old.now.hosts
  pub put : IsTrue is_whole → all ≤ 1 → left < all → waits_of who old.slips ≡ 0 → calls_of who old.slips ≡ 0 → pauses_of now who old.slips ≡ 0
      → dues_of who old.now.hosts < dues_of who new.now.hosts

-- all duties that no thread has begun are taken back
abbrev pub recalled_all : Calling → Calling
recalled_all calling = record { now = with_hosts (map recalled calling.now.hosts) calling.now; slips = map taken_back calling.slips; resumes_at = calling.resumes_at }

-- what a list leaves: the participants that are on it or being called, and their hosts
abbrev pub remembered : Calling → Calling
remembered calling = record { now = with_hosts (filter is_kept calling.now.hosts) calling.now; slips = filter is_remembered calling.slips; resumes_at = calling.resumes_at }
