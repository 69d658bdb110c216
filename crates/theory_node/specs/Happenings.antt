-- What the laws of a node's state speak of. A record here is an instance: states that a node comes to, and
-- a call that meets all premises of a law.
use Rattle.std.specs.Prelude.{◌≡◌, ◌+◌, ◌<◌, ◌≤◌, ℕ, List, Option, None, Some, false, length, true}
use Rattle.std.specs.Duration.{as_nanos}
use Rattle.std.specs.declared.time.Duration.{Duration}
use Rattle.state_ids.specs.Fronts.{count}
use Rattle.state_ids.specs.declared.TheConstants.{LAST_NUMBER}
use Rattle.node_inbox.specs.Tellings.{Told}
use Rattle.node_replication.specs.Followers.{wants_any}
use Rattle.node_replication.specs.declared.standing.PullDecision.{PullDecision}
use Rattle.node_agenda.specs.declared.task.Task.{Task}
use Rattle.node_core.specs.Calls.{Admitted, Admits, IsSettled}
use Rattle.node_core.specs.Pulls.{IsJudged, IsReceived, casts_doubt, owes}
use Rattle.node_core.specs.Turns.{IsNext}
use Rattle.node_core.specs.declared.calls.AskedCall.{AskedCall}
use Rattle.node_core.specs.declared.calls.CallResult.{CallResult}
use Rattle.node_core.specs.declared.calls.Caller.TheVariants.{Worker}
use Rattle.node_core.specs.declared.calls.CallStep.TheVariants.{Enters}
use Rattle.node_core.specs.declared.calls.ReplyKind.TheVariants.{Gave, Stored}
use Rattle.node_core.specs.declared.node_state.NodeState.{NodeState}
use Rattle.node_core.specs.declared.pulling.AskedPull.{AskedPull}
use Rattle.node_core.specs.declared.pulling.Receipt.TheVariants.{Newer}
use Rattle.theory_node.specs.Steps.{AreSteps, IsInDoubt, IsReached}

-- a frame is given, and more calls come
pub record FrameIsGiven : Type 0 where
  pub admitted : Admitted
  pub came : CallResult
  pub now : Duration
  pub ticket : Option ℕ
  pub front : List ℕ
  pub old : NodeState
  pub new : NodeState
  pub later : NodeState
  pub reached : IsReached old
  pub gave : came.kind ≡ Gave front
  pub long : length front ≡ length old.mail.known.front
  pub settled : IsSettled admitted came now old new ticket
  pub steps : AreSteps new later

-- a worker's call stores a fact of which copies are wanted
pub record FactIsStored : Type 0 where
  pub admitted : Admitted
  pub came : CallResult
  pub now : Duration
  pub ticket : Option ℕ
  pub old : NodeState
  pub new : NodeState
  pub reached : IsReached old
  pub caller : admitted.caller ≡ Worker
  pub step : admitted.step ≡ Enters
  pub stored : came.kind ≡ Stored
  pub wants : wants_any old.followers ≡ true
  pub settled : IsSettled admitted came now old new ticket

-- a pull was held for four seconds, and its node isn't owed any facts
pub record PullIsHeld : Type 0 where
  pub pull : AskedPull
  pub since : Duration
  pub now : Duration
  pub decision : PullDecision
  pub old : NodeState
  pub new : NodeState
  pub reached : IsReached old
  pub owed : owes pull old ≡ false
  pub held : pull.since ≡ Some since
  pub late : as_nanos since + 4_000_000_000 ≤ as_nanos now
  pub judged : IsJudged pull now old new decision

-- a telling comes that casts doubt
pub record DoubtIsCast : Type 0 where
  pub asked : List ℕ
  pub seen : ℕ
  pub told : Told
  pub left : Option Told
  pub old : NodeState
  pub new : NodeState
  pub reached : IsReached old
  pub wants : wants_any old.followers ≡ true
  pub entered : old.has_entered ≡ true
  pub opens : old.mail.opening.is_open ≡ true
  pub casts : casts_doubt told old ≡ true
  pub received : IsReceived asked seen told old new Newer left

-- a node is in doubt, and more calls come; then a worker asks for a call that may store something, and the
-- writer thread for its next task
pub record DoubtGoesOn : Type 0 where
  pub old : NodeState
  pub new : NodeState
  pub refused : NodeState
  pub rested : NodeState
  pub asked : AskedCall
  pub place : ℕ
  pub now : Duration
  pub task : Task
  pub reached : IsReached old
  pub doubt : IsInDoubt old
  pub steps : AreSteps old new
  pub few : count new.mail.known.front new.mail.opening.me < LAST_NUMBER
  pub enters : asked.enters ≡ true
  pub admits : Admits Worker asked place now new refused None
  pub next : IsNext now new rested task
