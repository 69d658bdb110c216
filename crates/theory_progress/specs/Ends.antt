-- Ends in the world: what is heard from state to state, and what answers alone lead to.
use Rattle.std.specs.Prelude.{◌≡◌, ◌≤◌, ℕ, List, [], ◌∷◌, length, true}
use Rattle.state_ids.specs.Ids.{Id}
use Rattle.state_ids.specs.declared.outcome.Act.{Act}
use Rattle.state_ids.specs.declared.outcome.Outcome.TheVariants.{Done}
use Rattle.state_facts.specs.Sets.{is_ended, want}
use Rattle.state_facts.specs.declared.command.Command.{Command}
use Rattle.state_facts.specs.declared.command.Command.TheVariants.{Forgot, Purge, Report, Told}
use Rattle.theory_history.specs.Replies.{Accepted, judge}
use Rattle.wire_callbacks.specs.declared.answer.Kind.{Kind}
use Rattle.wire_callbacks.specs.declared.answer.Kind.TheVariants.{After, Forget}
use Rattle.wire_callbacks.specs.declared.duty.Duty.{Duty}
use Rattle.script_world.specs.declared.event.Event.{Event}
use Rattle.script_world.specs.declared.event.Event.TheVariants.{Act as Enter}
use Rattle.script_world.specs.declared.event.EventReply.{EventReply}
use Rattle.script_world.specs.Worlds.{Runs, State, front_of, set_of, with_command}
use Rattle.theory_progress.specs.Calls.{HearsAnAnswer, HearsAnEnd, IsCallUnder}

-- events lead from s to t; at the node l wants the same in both, and meanwhile the node heard the
-- end of a call under l
pub record GoesOn (node : ℕ) (l : Id) (s t : State) : Type 0 where
  pub events : List Event
  pub replies : List EventReply
  pub runs : Runs s events replies t
  pub wants : want (set_of t node) l ≡ want (set_of s node) l
  pub hears : HearsAnEnd (set_of s node) (set_of t node) l

-- the same from each state to the next
abbrev pub GoOn : ℕ → Id → State → List State → Type 0
GoOn node l s [] = Unit {0}
GoOn node l s (t ∷ ts) = GoesOn node l s t × GoOn node l t ts

-- events lead from s to t, and meanwhile the node heard an answer to a call under the root
pub record GetsAnswered (node : ℕ) (root : Id) (s t : State) : Type 0 where
  pub events : List Event
  pub replies : List EventReply
  pub runs : Runs s events replies t
  pub hears : HearsAnAnswer (set_of s node) (set_of t node) root

abbrev pub GetAnswered : ℕ → Id → State → List State → Type 0
GetAnswered node root s [] = Unit {0}
GetAnswered node root s (t ∷ ts) = GetsAnswered node root s t × GetAnswered node root t ts

-- the last of these states
abbrev pub last_state : State → List State → State
last_state s [] = s
last_state s (t ∷ ts) = last_state t ts

-- the command by which a node enters the best answer to a call: the act is done, or the participant
-- was told
abbrev pub answer_to : Kind → Id → ℕ → Act → Command
answer_to Forget l m act = Forgot l m
answer_to After l m act = Told l m
answer_to _ l m act = Report l m act Done

-- the node accepts the command, which is the answer to a call that is due under l
pub record IsAnswer (s : State) (node : ℕ) (l : Id) (c : Command) : Type 0 where
  pub call : Duty
  pub due : IsCallUnder (set_of s node) l call
  pub answers : c ≡ answer_to call.kind call.id call.member call.act
  pub taken : judge (set_of s node) (front_of s node) node c ≡ Accepted

-- the events are such answers at the node, one after another
abbrev pub AreAnswers : ℕ → Id → State → List Event → Type 0
AreAnswers node l s [] = Unit {0}
AreAnswers node l s (event ∷ events) = (c : Command) × (event ≡ Enter node c) × IsAnswer s node l c × AreAnswers node l (with_command s node c) events

-- at most this many answers to calls under one LRA, entered at the node, and nothing else, lead to
-- a state in which l has ended there
pub record CanEnd (s : State) (node : ℕ) (l above : Id) (most : ℕ) : Type 0 where
  pub events : List Event
  pub replies : List EventReply
  pub state : State
  pub runs : Runs s events replies state
  pub answers : AreAnswers node above s events
  pub few : length events ≤ most
  pub ended : is_ended (set_of state node) l ≡ true

-- at most this many answers to calls under the root, and nothing else, lead to a state in which the
-- node accepts the root's purge
pub record CanPurge (s : State) (node : ℕ) (root : Id) (most : ℕ) : Type 0 where
  pub events : List Event
  pub replies : List EventReply
  pub state : State
  pub runs : Runs s events replies state
  pub answers : AreAnswers node root s events
  pub few : length events ≤ most
  pub accepted : judge (set_of state node) (front_of state node) node (Purge root) ≡ Accepted
