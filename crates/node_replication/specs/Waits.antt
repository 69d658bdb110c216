-- What waits until other nodes have what it may show, and how that went.
use Rattle.std.specs.Prelude.{◌+◌, ◌||◌, ℕ, Bool, Option, None, Some, if◌then◌else◌, false, is_some, min, not, true}
use Rattle.std.specs.declared.time.Duration.{Duration}
use Rattle.node_replication.specs.Spreads.{Spread, last_ticket, standing_of, stood}
use Rattle.node_replication.specs.declared.standing.CallbackFate.{CallbackFate}
use Rattle.node_replication.specs.declared.standing.CallbackFate.TheVariants.{Asked, Called, OnHold, Outdated}
use Rattle.node_replication.specs.declared.standing.Standing.{Standing}
use Rattle.node_replication.specs.declared.standing.Standing.TheVariants.{Copied, Late, Waits}
use Rattle.node_replication.specs.declared.waiters.CallsHeld.{CallsHeld}

-- The participants that wait to be called, if any; whether a new list is to be asked for once they
-- don't; how many answers and lists went on that others had; how many that were late; and how many
-- of the latter weren't logged yet
pub record Wait : Type 0 where
  pub calls : Option CallsHeld
  pub asks_again : Bool
  pub copied : ℕ
  pub late : ℕ
  pub untold : ℕ

-- before anything waited
abbrev pub nobody : Wait
nobody = record { calls = None; asks_again = false; copied = 0; late = 0; untold = 0 }

-- one more, as far as 64 bits go
abbrev pub one_more : ℕ → ℕ
one_more count = min (count + 1) last_ticket

-- something with this standing is counted, if it goes on
abbrev pub counted : Standing → Wait → Wait
counted Copied w = record w { copied = one_more w.copied }
counted Late w = record w { late = one_more w.late; untold = one_more w.untold }
counted Waits w = w

-- those that were late are logged
abbrev pub with_told : Wait → Wait
with_told w = record w { untold = 0 }

-- participants wait for a ticket, in place of those that did
abbrev pub with_calls : (ticket : ℕ) → (since : Duration) → Wait → Wait
with_calls ticket since w = record w { calls = Some (record { ticket = ticket; since = since; is_old = false }) }

-- a new list is asked for: if participants wait, that is put off
abbrev pub with_question : Wait → Wait
with_question w = record w { asks_again = w.asks_again || is_some w.calls }

abbrev pub is_late : Standing → Bool
is_late Late = true
is_late Copied = false
is_late Waits = false

-- whether participants with this standing wait no longer: if calls are strict, those that are late
-- go on waiting
abbrev pub go_on : Standing → (is_strict : Bool) → Bool
go_on Copied is_strict = true
go_on Late is_strict = not is_strict
go_on Waits is_strict = false

-- they go on, and are counted
abbrev pub released : Standing → Wait → Wait
released standing w = record (counted standing w) { calls = None; asks_again = false }

-- the participants on their list are called, unless that is too old
abbrev pub fate_released : CallsHeld → (asks_again : Bool) → CallbackFate
fate_released calls asks_again = if calls.is_old then Asked else Called asks_again

-- they go on waiting, and their list is too old once they are late
abbrev pub kept : CallsHeld → Standing → Wait → Wait
kept calls standing w = record w { calls = Some (record calls { is_old = calls.is_old || is_late standing }) }

abbrev pub fate_kept : Standing → CallbackFate
fate_kept standing = if is_late standing then Outdated else OnHold

-- what happens to participants with this standing
abbrev pub after : CallsHeld → Standing → (is_strict : Bool) → Wait → Wait
after calls standing is_strict w = if go_on standing is_strict then released standing w else kept calls standing w

abbrev pub fate : CallsHeld → Standing → (is_strict asks_again : Bool) → CallbackFate
fate calls standing is_strict asks_again = if go_on standing is_strict then fate_released calls asks_again else fate_kept standing

-- the standing of the participants
abbrev pub calls_stand : CallsHeld → (now : Duration) → (is_strict : Bool) → Spread → Standing
calls_stand calls now is_strict s = standing_of calls.ticket calls.since now is_strict s

-- what happens to the participants that wait, if any
abbrev pub after_of : Option CallsHeld → (now : Duration) → (is_strict : Bool) → Spread → Wait → Wait
after_of (Some calls) now is_strict s w = after calls (calls_stand calls now is_strict s) is_strict w
after_of None now is_strict s w = w

abbrev pub fate_of : Option CallsHeld → (now : Duration) → (is_strict : Bool) → Spread → (asks_again : Bool) → CallbackFate
fate_of (Some calls) now is_strict s asks_again = fate calls (calls_stand calls now is_strict s) is_strict asks_again
fate_of None now is_strict s asks_again = OnHold

-- it is checked whether others have what the participants wait for
abbrev pub stood_of : Option CallsHeld → (now : Duration) → (is_strict : Bool) → Spread → Spread
stood_of (Some calls) now is_strict s = stood calls.ticket calls.since now is_strict s
stood_of None now is_strict s = s
