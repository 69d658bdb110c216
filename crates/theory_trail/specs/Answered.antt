-- What was answered is held for good.
use Rattle.state_facts.specs.Lists.{IsInside}
use Rattle.theory_history.specs.Views.{View}
use Rattle.script_world.specs.Worlds.{State, set_of}
use Rattle.state_book.specs.Next.{IsNext}
use Rattle.theory_trail.specs.NodeTrails.{Follows, IsServed, event_of}
use Rattle.theory_trail.specs.Servers.{Turn}

-- the node answered by the view a of what it held, and then held what b shows; and in the state t it
-- holds all of that
pub record IsHeld (turn : Turn) (t : State) : Type 0 where
  pub before : State
  pub behind : State
  pub a : View
  pub b : View
  pub served : IsServed turn.node before a
  pub next : IsNext turn.node a turn.entry.call turn.entry.moment turn.entry.reply b
  pub follows : Follows before (event_of turn.node turn.frame turn.entry) behind
  pub left : IsServed turn.node behind b
  pub held : IsInside (set_of behind turn.node) (set_of t turn.node)
