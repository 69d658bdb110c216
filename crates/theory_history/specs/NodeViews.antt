-- A node's view in a history, and what the node enters next.
use Rattle.std.specs.Prelude.{◌≡◌, ◌≤◌, ℕ, List, length}
use Rattle.state_ids.specs.Fronts.{count}
use Rattle.state_facts.specs.declared.command.Command.{Command}
use Rattle.theory_history.specs.Histories.{Entry, History, IsClosed, IsLawful, entries_of, facts}
use Rattle.theory_history.specs.Replies.{body_for}
use Rattle.theory_history.specs.Views.{View, StandsFor}

-- the front is closed in the history, and counts everything that the node entered
pub record IsCurrent (h : History) (node : ℕ) (v : List ℕ) : Type 0 where
  pub some : 1 ≤ node
  pub there : node ≤ length h
  pub closed : IsClosed h v
  pub own : count v node ≡ length (entries_of h node)

-- what a node that holds the set of the front enters for a command
abbrev pub entry_for : History → List ℕ → Command → Entry
entry_for h v c = record { body = body_for (facts h v) c; front = v }

-- the view is that of a node in a lawful history: it stands for the set of a current front
pub record IsViewIn (h : History) (node : ℕ) (v : List ℕ) (view : View) : Type 0 where
  pub lawful : IsLawful h
  pub current : IsCurrent h node v
  pub stands : StandsFor (facts h v) view
