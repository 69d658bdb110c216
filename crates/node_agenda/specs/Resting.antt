-- How long the writer thread may wait for something to do.
use Rattle.std.specs.Prelude.{◌≡◌, ◌-◌, ◌||◌, Bool, Option, None, Some, IsSomeAnd, MatchBool, if◌then◌else◌}
use Rattle.std.specs.Duration.{as_nanos}
use Rattle.std.specs.declared.time.Duration.{Duration}
use Rattle.node_schedule.specs.Pausing.{earlier}
use Rattle.node_agenda.specs.Mail.{Mail}
use Rattle.node_agenda.specs.Moments.{earlier_of, is_by}
use Rattle.node_agenda.specs.Tasks.{has, is_spared}
use Rattle.node_agenda.specs.declared.turn.Turn.TheVariants.{OfChores, OfCount, OfDeadlines, OfDuties, OfErrand, OfLetters, OfTelling}

-- whether there is a task at this moment
abbrev pub has_task : Duration → Mail → Bool
has_task now m =
    has now m OfDeadlines
    || (has now m OfCount || (has now m OfLetters || (has now m OfTelling || (has now m OfDuties || (has now m OfChores || has now m OfErrand)))))

abbrev pub that_or : Option Duration → Duration → Duration
that_or None other = other
that_or (Some at) other = at

-- when deadlines are next checked; before commands are accepted, when they are at the latest
abbrev pub looks_at : Mail → Duration
looks_at m = if m.opening.is_open then m.asking.ticks_at else that_or m.opening.opens_at m.asking.ticks_at

-- the same, or when facts are counted, if they are to be; and when what the journal couldn't take is
-- tried again, if that moment is yet to come
abbrev pub counts_or_looks : Mail → Duration
counts_or_looks m = if m.known.is_to_count then earlier_of (looks_at m) m.known.counts_at else looks_at m

abbrev pub tries_or : Duration → (retry_at other : Duration) → Duration
tries_or now retry_at other = if is_by now retry_at then other else earlier_of other retry_at

-- when the next timer fires
abbrev pub next_at : Duration → Mail → Duration
next_at now m = if is_spared now m then m.held_until else tries_or now m.backlog.retry_at (counts_or_looks m)

-- the latest moment with something to do: when the next timer fires, or when a pause is over
abbrev pub rests_until : Duration → Mail → Duration
rests_until now m = earlier m.calls.resumes_at (next_at now m)

-- whether the writer thread must not wait: there is a task, or it was told to check whether the run
-- is over
abbrev pub is_occupied : Duration → Mail → Bool
is_occupied now m = has_task now m || m.is_hurried

-- how long it may wait
abbrev pub IsIdleFor : Duration → Mail → Option Duration → Type 0
IsIdleFor now m rest = MatchBool (is_occupied now m) (rest ≡ None)
    (IsSomeAnd rest (λ (time : Duration). as_nanos time ≡ as_nanos (rests_until now m) - as_nanos now))
