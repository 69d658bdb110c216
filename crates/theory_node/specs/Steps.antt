-- What happens to a node's state: one call after another, in whatever order they come.
use Rattle.std.specs.Prelude.{◌≡◌, ◌≤◌, ◌∷◌, [], ℕ, Bool, List, Option, true}
use Rattle.std.specs.declared.time.Duration.{Duration}
use Rattle.wire_callbacks.specs.declared.duty.Duty.{Duty}
use Rattle.node_inbox.specs.Tellings.{Told}
use Rattle.node_replication.specs.declared.standing.PullDecision.{PullDecision}
use Rattle.node_agenda.specs.Sweeps.{Sweeps}
use Rattle.node_agenda.specs.declared.task.Task.{Task}
use Rattle.node_core.specs.Calls.{Admits, Admitted, IsSettled, given_up, with_answer}
use Rattle.node_core.specs.Doubts.{IsBarred}
use Rattle.node_core.specs.Nodes.{as_looked, node_at_first, shown, started}
use Rattle.node_core.specs.Pulls.{IsJudged, IsReceived, asked_by, casts_doubt, with_end_of}
use Rattle.node_core.specs.Turns.{IsHandedOn, IsListPut, IsNext, IsReadied}
use Rattle.node_core.specs.declared.calls.AskedCall.{AskedCall}
use Rattle.node_core.specs.declared.calls.CallResult.{CallResult}
use Rattle.node_core.specs.declared.calls.Caller.{Caller}
use Rattle.node_core.specs.declared.node_state.NodeSettings.{NodeSettings}
use Rattle.node_core.specs.declared.node_state.NodeState.{NodeState}
use Rattle.node_core.specs.declared.pulling.AskedPull.{AskedPull}
use Rattle.node_core.specs.declared.pulling.Receipt.{Receipt}
use Rattle.node_core.specs.declared.pulling.Receipt.TheVariants.{Newer}
use Rattle.node_core.specs.declared.turns.Readied.{Readied}
use Rattle.node_core.specs.declared.turns.Wakeups.{Wakeups}

-- What threads do to one part by itself, without a call of the state, leaves alone the opening, the
-- node's own front, and whether the node is in doubt. A law says so of each call that they make
pub record IsApart (old new : NodeState) : Type 0 where
  pub opening : new.mail.opening ≡ old.mail.opening
  pub known : new.mail.known.front ≡ old.mail.known.front
  pub doubted : new.followers.is_doubted ≡ old.followers.is_doubted

-- One step: a call of the state, as its clauses say what it leaves; or something else that is done to
-- one part by itself. The order is left open: a call may end that never began. So what holds whatever
-- steps come, holds of those that a node takes
pub data IsStep (old new : NodeState) : Type 0 where
  Starting : (front : List ℕ) → new ≡ started front old → IsStep old new
  Admitting : (caller : Caller) (asked : AskedCall) (place : ℕ) (now : Duration) (result : Option Admitted) → Admits caller asked place now old new result → IsStep old new
  Settling : (a : Admitted) (came : CallResult) (now : Duration) (ticket : Option ℕ) → IsSettled a came now old new ticket → IsStep old new
  GivingUp : (a : Admitted) (has_failed : Bool) → new ≡ given_up a has_failed old → IsStep old new
  Answering : new ≡ with_answer (shown old) (as_looked old) → IsStep old new
  HearingAPull : (pull : AskedPull) (now : Duration) (decision : PullDecision) → IsJudged pull now (asked_by pull now old) new decision → IsStep old new
  Receiving : (asked : List ℕ) (seen : ℕ) (told : Told) (receipt : Receipt) (left : Option Told) → IsReceived asked seen told old new receipt left → IsStep old new
  EndingATelling : (is_taken : Bool) (front : List ℕ) (known : ℕ) → new ≡ with_end_of is_taken front known old → IsStep old new
  PuttingAList : (duties : List Duty) (now : Duration) (is_put : Bool) → IsListPut duties now old new is_put → IsStep old new
  Readying : (now : Duration) (readied : Readied) → IsReadied now old new readied → IsStep old new
  TakingATask : (now : Duration) (task : Task) → IsNext now old new task → IsStep old new
  HandingOn : (now : Duration) (wakeups : Wakeups) → IsHandedOn now old new wakeups → IsStep old new
  Apart : IsApart old new → IsStep old new

-- any number of steps, through these states
abbrev pub AreStepsOver : List NodeState → (old new : NodeState) → Type 0
AreStepsOver [] old new = new ≡ old
AreStepsOver (next ∷ states) old new = IsStep old next × AreStepsOver states next new

pub record AreSteps (old new : NodeState) : Type 0 where
  pub states : List NodeState
  pub are : AreStepsOver states old new

-- a state that a node comes to, if it is one of a group of this size
pub record IsReached (n : NodeState) : Type 0 where
  pub me : ℕ
  pub nodes : ℕ
  pub some : 1 ≤ me
  pub few : me ≤ nodes
  pub settings : NodeSettings
  pub sweeping : Sweeps
  pub steps : AreSteps (node_at_first me nodes settings sweeping) n

-- the node is in doubt: another has facts of it that it never gave, so nothing of its own is stored
abbrev pub IsInDoubt : NodeState → Type 0
IsInDoubt n = (n.followers.is_doubted ≡ true) × IsBarred n.mail.opening

-- a telling is received that casts doubt
pub record IsCast (old new : NodeState) : Type 0 where
  pub asked : List ℕ
  pub seen : ℕ
  pub told : Told
  pub left : Option Told
  pub casts : casts_doubt told old ≡ true
  pub received : IsReceived asked seen told old new Newer left

-- so it was on the way to this state
pub record WasDoubted (n : NodeState) : Type 0 where
  pub before : NodeState
  pub after : NodeState
  pub reached : IsReached before
  pub cast : IsCast before after
  pub later : AreSteps after n
