-- What the threads of a node hand to one another, and when what is to be done with it.
use Rattle.std.specs.Prelude.{◌-◌, ◌+◌, ◌&&◌, ◌||◌, ◌==◌, [], ℕ, Bool, true, false, List, Option, None, if◌then◌else◌, length, max, min, nat_le, nat_lt, not, replicate, slice_set}
use Rattle.std.specs.List.{list_any}
use Rattle.std.specs.Duration.{as_nanos}
use Rattle.std.specs.declared.time.Duration.{Duration}
use Rattle.state_ids.specs.Fronts.{count, join_fronts}
use Rattle.node_inbox.specs.Letters.{Said}
use Rattle.node_schedule.specs.Calling.{Calling, nothing}
use Rattle.node_schedule.specs.Slips.{at_once}
use Rattle.node_schedule.specs.Turns.{is_due}
use Rattle.node_agenda.specs.Backlogs.{after_end, no_backlog}
use Rattle.node_agenda.specs.Since.{Since, at_rest}
use Rattle.node_agenda.specs.Starts.{heard_with}
use Rattle.node_agenda.specs.Sweeps.{Sweeps}
use Rattle.node_agenda.specs.declared.asking.Asking.{Asking}
use Rattle.node_agenda.specs.declared.backlog.Backlog.{Backlog}
use Rattle.node_agenda.specs.declared.known_fronts.KnownFronts.{KnownFronts}
use Rattle.node_agenda.specs.declared.start_state.StartState.{StartState}
use Rattle.node_agenda.specs.declared.task.OperatorWant.{OperatorWant}
use Rattle.node_agenda.specs.declared.task.OperatorWant.TheVariants.{Command, Nothing, Question}
use Rattle.node_agenda.specs.declared.turn.Turn.{Turn}
use Rattle.node_agenda.specs.declared.turn.Turn.TheVariants.{OfDuties}

-- Whom to call; the letters that aren't stored yet, oldest first; what other nodes sent that isn't;
-- what is known of how many facts there are; whether commands are accepted yet; when deadlines are
-- checked, and when a new list of duties is asked for; until when nothing is stored because the
-- journal failed; which kind of task had its turn last; whether the writer thread is to check
-- whether the run is over; whether the program is to end; what operators want; what has ended and
-- is to be purged; and which participants were heard from since the pending list was asked for
pub record Mail : Type 0 where
  pub calls : Calling
  pub letters : List Said
  pub backlog : Backlog
  pub known : KnownFronts
  pub opening : StartState
  pub asking : Asking
  pub held_until : Duration
  pub last : Turn
  pub is_hurried : Bool
  pub has_ended : Bool
  pub wanted : OperatorWant
  pub sweeps : Sweeps
  pub since : Since

-- Nothing is there, and nothing is known of the node's own front. If the others are in processes of
-- their own, the front is asked for first, and commands aren't accepted yet.
abbrev pub empty_mail : (me nodes : ℕ) → (are_apart waits_for_all : Bool) → Sweeps → Mail
empty_mail me nodes are_apart waits_for_all sweeping = record {
  calls = nothing;
  letters = [];
  backlog = no_backlog me;
  known = record { front = replicate nodes 0; is_counted = false; is_to_count = are_apart; counts_at = at_once };
  opening = record { me = me; waits_for_all = waits_for_all; is_open = not are_apart; opens_at = None; is_late = false; heard = heard_with me (replicate nodes 0); awaited = replicate nodes 0; claimed = replicate nodes 0; doubtful = replicate nodes 0 };
  asking = record { is_stirred = true; is_put_off = false; asked_at = at_once; ticks_at = at_once };
  held_until = at_once;
  last = OfDuties;
  is_hurried = false;
  has_ended = false;
  wanted = Nothing;
  sweeps = sweeping;
  since = at_rest;
}

-- the state with one of these parts replaced
abbrev pub with_calls : Calling → Mail → Mail
with_calls calls m = record m { calls = calls }

abbrev pub with_letters : List Said → Mail → Mail
with_letters letters m = record m { letters = letters }

abbrev pub with_backlog : Backlog → Mail → Mail
with_backlog backlog m = record m { backlog = backlog }

abbrev pub with_known : KnownFronts → Mail → Mail
with_known known m = record m { known = known }

abbrev pub with_opening : StartState → Mail → Mail
with_opening opening m = record m { opening = opening }

abbrev pub with_asking : Asking → Mail → Mail
with_asking asking m = record m { asking = asking }

abbrev pub with_hold : Duration → Mail → Mail
with_hold until m = record m { held_until = until }

abbrev pub with_last : Turn → Mail → Mail
with_last last m = record m { last = last }

abbrev pub with_hurry : Bool → Mail → Mail
with_hurry is_hurried m = record m { is_hurried = is_hurried }

abbrev pub with_end : Mail → Mail
with_end m = record m { has_ended = true }

abbrev pub with_wanted : OperatorWant → Mail → Mail
with_wanted wanted m = record m { wanted = wanted }

abbrev pub with_sweeps : Sweeps → Mail → Mail
with_sweeps sweeps m = record m { sweeps = sweeps }

abbrev pub with_since : Since → Mail → Mail
with_since since m = record m { since = since }

-- whether a call that operators want is to be made now, given whether facts of the node's own may
-- be stored; and whether one is wanted
abbrev pub is_wanted : Bool → OperatorWant → Bool
is_wanted may_enter Nothing = false
is_wanted may_enter Question = true
is_wanted may_enter Command = may_enter

abbrev pub is_any : OperatorWant → Bool
is_any Nothing = false
is_any Question = true
is_any Command = true

-- after it is known that the node has at least these facts of each node
abbrev pub learnt : List ℕ → KnownFronts → KnownFronts
learnt front known = record { front = if length known.front == length front then join_fronts known.front front else known.front; is_counted = known.is_counted; is_to_count = known.is_to_count; counts_at = known.counts_at }

-- after it is known how many facts it has; and after that is to be asked
abbrev pub counted : KnownFronts → KnownFronts
counted known = record { front = known.front; is_counted = true; is_to_count = known.is_to_count; counts_at = known.counts_at }

abbrev pub to_count : KnownFronts → KnownFronts
to_count known = record { front = known.front; is_counted = known.is_counted; is_to_count = true; counts_at = known.counts_at }

-- after the end of a telling with this front, which was taken or is given up
abbrev pub learnt_if : (is_taken : Bool) → List ℕ → KnownFronts → KnownFronts
learnt_if is_taken front known = if is_taken then learnt front known else known

abbrev pub with_end_of : (is_taken : Bool) → List ℕ → Mail → Mail
with_end_of is_taken front m = with_backlog (after_end is_taken m.backlog) (with_known (learnt_if is_taken front m.known) m)

-- after a new list of duties is to be asked for: now, or when deadlines are next checked
abbrev pub stirred : Asking → Asking
stirred a = record { is_stirred = true; is_put_off = a.is_put_off; asked_at = a.asked_at; ticks_at = a.ticks_at }

abbrev pub put_off : Asking → Asking
put_off a = record { is_stirred = a.is_stirred; is_put_off = true; asked_at = a.asked_at; ticks_at = a.ticks_at }

-- after the list was asked for
abbrev pub asked : Duration → Asking → Asking
asked now a = record { is_stirred = false; is_put_off = a.is_put_off; asked_at = now; ticks_at = a.ticks_at }

-- after deadlines are to be checked at once
abbrev pub hastened : Asking → Asking
hastened a = record { is_stirred = a.is_stirred; is_put_off = a.is_put_off; asked_at = a.asked_at; ticks_at = at_once }

-- whether a check of deadlines asks for a new list of duties: that was put off, or some participant
-- is to be called and no list was asked for in half a minute
abbrev pub is_to_ask_again : Duration → Bool → Asking → Bool
is_to_ask_again now is_anyone a = a.is_put_off || (is_anyone && nat_le 30_000_000_000 (as_nanos now - as_nanos a.asked_at))

-- after deadlines were checked, if they are checked next at this moment
abbrev pub looked : Duration → Bool → Duration → Asking → Asking
looked now is_anyone next a = record { is_stirred = a.is_stirred || is_to_ask_again now is_anyone a; is_put_off = false; asked_at = a.asked_at; ticks_at = next }

-- whether some participant is to be called, is being called, or pauses
abbrev pub is_anyone : Mail → Bool
is_anyone m = nat_lt 0 (length m.calls.slips)

-- after other participants may be due: a new list is asked for now or, if nothing new is due by
-- what happened and others still wait, when deadlines are next checked
abbrev pub after_news : Bool → Mail → Mail
after_news makes_none_due m = with_asking (if makes_none_due && list_any is_due m.calls.now.hosts then put_off m.asking else stirred m.asking) m
