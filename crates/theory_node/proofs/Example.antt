-- What the laws speak of happens to node 1 of two, which wants one copy. Its journal has one fact of its
-- own. It counts its facts, hears from node 2, opens, and stores a second fact. Then node 2 sends five
-- facts of node 1.
use Rattle.std.proofs.Common.{◌≡◌, ◌<◌, ◌≤◌, ◌∷◌, ◌++◌, [], ℕ, Bool, true, false, List, None, Some, arith, refl, subst}
use Rattle.std.specs.Prelude.{Err, Ok}
use Rattle.std.specs.declared.time.Duration.{Duration}
use Rattle.state_ids.specs.Fronts.{IsBelow}
use Rattle.state_ids.specs.declared.TheConstants.{LAST_NUMBER}
use Rattle.node_inbox.specs.Tellings.{Told}
use Rattle.node_replication.specs.Steps.{second}
use Rattle.node_replication.specs.declared.standing.PullDecision.TheVariants.{Serve}
use Rattle.node_agenda.specs.Backlogs.{after_put}
use Rattle.node_agenda.specs.Mail.{with_backlog, with_hurry, with_known, with_last, with_opening}
use Rattle.node_agenda.specs.Sweeps.{Sweeps}
use Rattle.node_agenda.specs.Tasks.{has, turns_to}
use Rattle.node_agenda.specs.declared.effects.Effects.{Effects}
use Rattle.node_agenda.specs.declared.effects.Became.TheVariants.{Nothing as Same}
use Rattle.node_agenda.specs.declared.effects.NewlyDue.TheVariants.{Nobody}
use Rattle.node_agenda.specs.declared.start_state.StartState.{StartState}
use Rattle.node_agenda.specs.declared.task.Task.TheVariants.{Count, Rest}
use Rattle.node_agenda.specs.declared.turn.Turn.{Turn}
use Rattle.node_agenda.specs.declared.turn.Turn.TheVariants.{OfChores, OfCount, OfDeadlines, OfDuties, OfErrand, OfLetters, OfTelling}
use Rattle.node_core.specs.Calls.{Admitted, IsSettled, after_reply, after_step, begun_at, begun_by, counted_by, ended_at}
use Rattle.node_core.specs.Nodes.{node_at_first, started, with_mail}
use Rattle.node_core.specs.Pulls.{IsReceived, after_told, after_verdict}
use Rattle.node_core.specs.Turns.{IsNext, IsReadied}
use Rattle.node_core.specs.declared.calls.AskedCall.{AskedCall}
use Rattle.node_core.specs.declared.calls.CallResult.{CallResult}
use Rattle.node_core.specs.declared.calls.Caller.TheVariants.{Worker, Writer}
use Rattle.node_core.specs.declared.calls.CallStep.TheVariants.{Enters, Other}
use Rattle.node_core.specs.declared.calls.ReplyKind.{ReplyKind}
use Rattle.node_core.specs.declared.calls.ReplyKind.TheVariants.{Gave, Stored}
use Rattle.node_core.specs.declared.node_state.NodeSettings.{NodeSettings}
use Rattle.node_core.specs.declared.node_state.NodeState.{NodeState}
use Rattle.node_core.specs.declared.pulling.AskedPull.{AskedPull}
use Rattle.node_core.specs.declared.pulling.Receipt.TheVariants.{Newer, Nothing}
use Rattle.node_core.specs.declared.turns.Readied.{Readied}
use Rattle.theory_node.specs.Happenings.{DoubtGoesOn, DoubtIsCast, FactIsStored, FrameIsGiven, PullIsHeld}
use Rattle.theory_node.specs.Steps.{Admitting, Apart, AreSteps, AreStepsOver, IsStep, IsReached, Readying, Receiving, Settling, Starting, TakingATask}

abbrev settings : NodeSettings
settings = record { is_apart = true; is_anew = false; copies = 1; patience = second 1; is_strict = false; max_calls = 1_000; max_moves = 1_000 }

-- nothing follows from a call
abbrev no_effects : Effects
no_effects = record { news = Nobody; became = Same; freed = None; heard = None; took = false }

abbrev came_as : ReplyKind → CallResult
came_as kind = record { kind = kind; effects = no_effects; weight = 1; is_move = false; is_stored = false }

abbrev one : List ℕ
one = 1 ∷ 0 ∷ []

abbrev five : List ℕ
five = 5 ∷ 0 ∷ []

-- node 2 sends nothing but a front
abbrev told_by_2 : List ℕ → Told
told_by_2 front = record { from = 2; frame = record { base = one; front = front; purges = 0 ∷ 0 ∷ []; live = None ∷ None ∷ []; records = [] ∷ [] ∷ [] } }

-- ---- the states
abbrev at_first : Sweeps → NodeState
at_first s = node_at_first 1 2 settings s

abbrev at_start : Sweeps → NodeState
at_start s = started one (at_first s)

-- it counts its facts
abbrev to_count : AskedCall
to_count = record { enters = false; pulls = true }

abbrev count_call : Admitted
count_call = record { caller = Writer; place = 0; step = Other }

abbrev at_task : Sweeps → NodeState
at_task s = with_mail (with_last OfCount (with_known (record (at_start s).mail.known { is_to_count = false; counts_at = record { secs = 1; nanos = 50_000_000 } }) (at_start s).mail)) (at_start s)

abbrev while_counting : Sweeps → NodeState
while_counting s = begun_at 0 (second 1) (at_task s)

abbrev counted : Sweeps → NodeState
counted s = after_reply (Gave one) (counted_by (came_as (Gave one)) (ended_at 0 (while_counting s)))

-- it hears from node 2, which has no more facts
abbrev heard : Sweeps → NodeState
heard s = after_told (told_by_2 one) (counted s)

-- it opens
abbrev open_at : (is_open is_late : Bool) → (at : Duration) → StartState → StartState
open_at is_open is_late at o = record o { is_open = is_open; opens_at = Some at; is_late = is_late }

abbrev opened : Sweeps → NodeState
opened s = record (with_mail (with_opening (open_at true false (second 2) (heard s).mail.opening) (heard s).mail) (heard s)) { is_new = false }

-- it stores a fact
abbrev to_store : AskedCall
to_store = record { enters = true; pulls = false }

abbrev store_call : Admitted
store_call = record { caller = Worker; place = 0; step = Enters }

abbrev while_storing : Sweeps → NodeState
while_storing s = begun_at 0 (second 1) (begun_by Enters (opened s))

abbrev stored : Sweeps → NodeState
stored s = after_reply Stored (counted_by (came_as Stored) (after_step Enters Stored (second 1) (ended_at 0 (while_storing s))))

-- node 2 sends more facts of node 1 than that
abbrev in_doubt : Sweeps → NodeState
in_doubt s = with_mail (with_backlog (after_put (told_by_2 five) (stored s).mail.backlog) (after_told (told_by_2 five) (stored s)).mail) (after_told (told_by_2 five) (stored s))

-- a minute later it still doesn't open; and the writer thread is hurried
abbrev still_shut : Sweeps → NodeState
still_shut s = with_mail (with_opening (open_at false true (second 61) (in_doubt s).mail.opening) (in_doubt s).mail) (in_doubt s)

abbrev hurried : Sweeps → NodeState
hurried s = with_mail (with_hurry true (still_shut s).mail) (still_shut s)

-- ---- the calls
is_task : (s : Sweeps) (kind : Turn) → has (second 1) (at_start s).mail kind ≡ true → turns_to OfDuties OfCount ≤ turns_to OfDuties kind
is_task s OfDeadlines is = absurd cc
is_task s OfCount is = omega arith
is_task s OfLetters is = absurd cc
is_task s OfTelling is = absurd cc
is_task s OfDuties is = absurd cc
is_task s OfChores is = absurd cc
is_task s OfErrand is = absurd cc

takes_task : (s : Sweeps) → IsNext (second 1) (at_start s) (at_task s) Count
takes_task s =
    record { next = Count; is = (Some OfCount, record { there = refl; first = is_task s }, record { is = refl; next = refl; rest = refl }); does = (refl, refl) }

counts : (s : Sweeps) → IsSettled count_call (came_as (Gave one)) (second 1) (while_counting s) (counted s) None
counts s = record {
  answered = ended_at 0 (while_counting s);
  answer = (refl, refl);
  noted = record { freed = refl; heard = refl; rest = refl };
  rest = refl;
}

abbrev is_readied : Readied
is_readied = record { has_opened = true; may_call = false; is_put = false; asks_again = false }

abbrev isnt_readied : Readied
isnt_readied = record { has_opened = false; may_call = false; is_put = false; asks_again = false }

same_le : (n : ℕ) → n ≤ n
same_le n = omega arith

below_same : (front : List ℕ) → IsBelow front front
below_same front node = omega arith

hears : (s : Sweeps) → IsStep (counted s) (heard s)
hears s = Receiving one 0 (told_by_2 one) Nothing (Some (told_by_2 one)) (record {
  is_new = false;
  put = record { put = Err (told_by_2 one); is = (λ news. news.1 (below_same one), refl, refl); rest = refl; news = refl; left_is = refl };
  means = refl;
})

opens : (s : Sweeps) → IsReadied (second 1) (heard s) (opened s) is_readied
opens s = record {
  released = heard s;
  release = record { out = None; going = record { left = refl; out_is = refl }; goes = (refl, refl, refl); rest = refl };
  opening = (
    record {
      until = second 2;
      next = second 2;
      by = refl;
      opens = (λ is. (refl, (refl, below_same one)), λ is. refl);
      looks = refl;
      rest = refl;
    },
    refl,
  );
  resumed = (refl, refl);
  rest = refl;
}

stores : (s : Sweeps) → IsSettled store_call (came_as Stored) (second 1) (while_storing s) (stored s) (Some 2)
stores s = record {
  answered = after_step Enters Stored (second 1) (ended_at 0 (while_storing s));
  answer = (refl, refl);
  noted = record { freed = refl; heard = refl; rest = refl };
  rest = refl;
}

five_is_news : IsBelow five one → ⊥
five_is_news below = absurd (omega (arith, below 1))

doubts : (s : Sweeps) → IsReceived one 0 (told_by_2 five) (stored s) (in_doubt s) Newer None
doubts s = record {
  is_new = true;
  put = record { put = Ok None; is = ((refl, five_is_news), refl, refl); rest = refl; news = refl; left_is = refl };
  means = refl;
}

-- ---- one step after another
steps_and : (states : List NodeState) (old between new : NodeState) → AreStepsOver states old between → IsStep between new → AreStepsOver (states ++ new ∷ []) old new
steps_and [] old between new is step = (subst (λ (n : NodeState). IsStep n new) is step, refl)
steps_and (next ∷ states) old between new is step = (is.0, steps_and states next between new is.1 step)

one_more : (old between new : NodeState) → AreSteps old between → IsStep between new → AreSteps old new
one_more old between new steps step = record { states = steps.states ++ new ∷ []; are = steps_and steps.states old between new steps.are step }

to_start : (s : Sweeps) → AreSteps (at_first s) (at_start s)
to_start s = record { states = at_start s ∷ []; are = (Starting one refl, refl) }

to_task : (s : Sweeps) → AreSteps (at_first s) (at_task s)
to_task s = one_more (at_first s) (at_start s) (at_task s) (to_start s) (TakingATask (second 1) Count (takes_task s))

to_counting : (s : Sweeps) → AreSteps (at_first s) (while_counting s)
to_counting s = one_more (at_first s) (at_task s) (while_counting s) (to_task s) (Admitting Writer to_count 0 (second 1) (Some count_call) (refl, refl))

to_counted : (s : Sweeps) → AreSteps (at_first s) (counted s)
to_counted s = one_more (at_first s) (while_counting s) (counted s) (to_counting s) (Settling count_call (came_as (Gave one)) (second 1) None (counts s))

to_heard : (s : Sweeps) → AreSteps (at_first s) (heard s)
to_heard s = one_more (at_first s) (counted s) (heard s) (to_counted s) (hears s)

to_opened : (s : Sweeps) → AreSteps (at_first s) (opened s)
to_opened s = one_more (at_first s) (heard s) (opened s) (to_heard s) (Readying (second 1) is_readied (opens s))

to_storing : (s : Sweeps) → AreSteps (at_first s) (while_storing s)
to_storing s = one_more (at_first s) (opened s) (while_storing s) (to_opened s) (Admitting Worker to_store 0 (second 1) (Some store_call) (refl, refl))

to_stored : (s : Sweeps) → AreSteps (at_first s) (stored s)
to_stored s = one_more (at_first s) (while_storing s) (stored s) (to_storing s) (Settling store_call (came_as Stored) (second 1) (Some 2) (stores s))

to_doubt : (s : Sweeps) → AreSteps (at_first s) (in_doubt s)
to_doubt s = one_more (at_first s) (stored s) (in_doubt s) (to_stored s) (Receiving one 0 (told_by_2 five) Newer None (doubts s))

reached_by : (n : NodeState) (s : Sweeps) → AreSteps (at_first s) n → IsReached n
reached_by n s steps = record { me = 1; nodes = 2; some = omega arith; few = omega arith; settings = settings; sweeping = s; steps = steps }

-- ---- what happens
pub frame_given : (s : Sweeps) → FrameIsGiven
frame_given s = record {
  admitted = count_call;
  came = came_as (Gave one);
  now = second 1;
  ticket = None;
  front = one;
  old = while_counting s;
  new = counted s;
  later = heard s;
  reached = reached_by (while_counting s) s (to_counting s);
  gave = refl;
  long = refl;
  settled = counts s;
  steps = record { states = heard s ∷ []; are = (hears s, refl) };
}

pub fact_stored : (s : Sweeps) → FactIsStored
fact_stored s = record {
  admitted = store_call;
  came = came_as Stored;
  now = second 1;
  ticket = Some 2;
  old = while_storing s;
  new = stored s;
  reached = reached_by (while_storing s) s (to_storing s);
  caller = refl;
  step = refl;
  stored = refl;
  wants = refl;
  settled = stores s;
}

-- node 2 has all that node 1 knows, and its pull waits for more
abbrev waiting : AskedPull
waiting = record { from = 2; front = one; waits = true; since = Some (second 1) }

pub pull_held : (s : Sweeps) → PullIsHeld
pull_held s = record {
  pull = waiting;
  since = second 1;
  now = second 5;
  decision = Serve;
  old = stored s;
  new = after_verdict waiting false (second 5) (stored s);
  reached = reached_by (stored s) s (to_stored s);
  owed = refl;
  held = refl;
  late = omega arith;
  judged = record { lacks = false; is = (λ lacks. absurd cc, λ lacks. absurd (lacks (below_same one))); decided = refl; paced = refl };
}

pub doubt_cast : (s : Sweeps) → DoubtIsCast
doubt_cast s = record {
  asked = one;
  seen = 0;
  told = told_by_2 five;
  left = None;
  old = stored s;
  new = in_doubt s;
  reached = reached_by (stored s) s (to_stored s);
  wants = refl;
  entered = refl;
  opens = refl;
  casts = refl;
  received = doubts s;
}

last_few : 1 < LAST_NUMBER
last_few = omega arith

shut_at : (s : Sweeps) → IsReadied (second 60) (in_doubt s) (still_shut s) isnt_readied
shut_at s = record {
  released = in_doubt s;
  release = record { out = None; going = record { left = refl; out_is = refl }; goes = (refl, refl, refl); rest = refl };
  opening = (
    record {
      until = second 2;
      next = second 61;
      by = refl;
      opens = (λ is. absurd cc, λ is. absurd cc);
      looks = refl;
      rest = refl;
    },
    refl,
  );
  resumed = (refl, refl);
  rest = refl;
}

pub doubt_goes_on : (s : Sweeps) → DoubtGoesOn
doubt_goes_on s = record {
  old = in_doubt s;
  new = hurried s;
  refused = hurried s;
  rested = still_shut s;
  asked = to_store;
  place = 0;
  now = second 60;
  task = Rest;
  reached = reached_by (in_doubt s) s (to_doubt s);
  doubt = (refl, (refl, same_le LAST_NUMBER));
  steps = record {
    states = still_shut s ∷ (hurried s ∷ []);
    are = (Readying (second 60) isnt_readied (shut_at s), (Apart (record { opening = refl; known = refl; doubted = refl }), refl));
  };
  few = last_few;
  enters = refl;
  admits = (refl, refl);
  next = record { next = Rest; is = (refl, refl); does = (refl, refl) };
}
