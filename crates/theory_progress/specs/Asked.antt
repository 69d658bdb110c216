-- What a participant is to be asked now, by what a node of the world holds.
use Rattle.std.specs.Prelude.{◌≡◌, ℕ, true}
use Rattle.state_ids.specs.Ids.{Id}
use Rattle.state_ids.specs.declared.outcome.Act.{Act}
use Rattle.wire_callbacks.specs.declared.answer.Kind.{Kind}
use Rattle.wire_callbacks.specs.declared.duty.Duty.{Duty}
use Rattle.wire_callbacks.specs.CallDuties.{IsDuty}
use Rattle.script_world.specs.Worlds.{State, set_of}
use Rattle.theory_progress.specs.Calls.{asks_to_act}

-- by the node's set, the home of l is to make this call to the participant m of l now
pub record IsCallTo (s : State) (node : ℕ) (l : Id) (m : ℕ) (call : Duty) : Type 0 where
  pub due : IsDuty l.home (set_of s node) call
  pub lra : call.id ≡ l
  pub member : call.member ≡ m

-- by the node's set, that participant is to be asked for the act: to do it, or how far it is with it
pub record IsAskedFor (s : State) (node : ℕ) (l : Id) (m : ℕ) (act : Act) : Type 0 where
  pub call : Duty
  pub due : IsCallTo s node l m call
  pub asks : asks_to_act call.kind ≡ true
  pub acts : call.act ≡ act

-- by the node's set, that participant is to get a call of this kind
pub record IsCalledTo (s : State) (node : ℕ) (l : Id) (m : ℕ) (kind : Kind) : Type 0 where
  pub call : Duty
  pub due : IsCallTo s node l m call
  pub so : call.kind ≡ kind
