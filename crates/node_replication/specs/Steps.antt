-- What happens to a node's facts, one step after another.
use Rattle.std.specs.Prelude.{◌≡◌, ◌+◌, ◌≤◌, ◌++◌, ◌∷◌, ◌==◌, [], ℕ, Bool, List, false, true, if◌then◌else◌, replicate}
use Rattle.std.specs.List.{Contains}
use Rattle.std.specs.declared.time.Duration.{Duration}
use Rattle.node_replication.specs.Spreads.{Spread, acknowledged, begun, counted, drawn, ended, fact_ticket, given, heard, holders, is_entering, looked, next_ticket, stood}
use Rattle.node_replication.specs.declared.mark.Mark.{Mark}

-- A call begins, and is over; a frame is asked for, and given; another node reports how many facts
-- it has; an answer is made from what is stored; the node learns how many facts it has; and the
-- standing of something that waits is asked
pub data Step : Type 0 where
  Begins : Step
  Ends : (is_stored : Bool) → Step
  Asks : Step
  Gives : (mark : Mark) → Step
  Hears : (other count : ℕ) (now : Duration) → Step
  Looks : Step
  Learns : (count : ℕ) → Step
  Stands : (ticket : ℕ) (since now : Duration) (is_strict : Bool) → Step

-- the state after a step
abbrev pub after : Step → Spread → Spread
after Begins s = begun s
after (Ends is_stored) s = ended is_stored s
after Asks s = drawn s
after (Gives mark) s = given mark s
after (Hears other count now) s = heard other count now s
after Looks s = looked s
after (Learns count) s = counted count s
after (Stands ticket since now is_strict) s = stood ticket since now is_strict s

-- a node in a group of this size, which wants this many copies and waits this long for them
pub record Node : Type 0 where
  pub me : ℕ
  pub nodes : ℕ
  pub wanted : ℕ
  pub patience : Duration

-- its state before all steps
abbrev pub at_start : Node → Spread
at_start node = record {
  others = record { me = node.me; wanted = node.wanted; told = replicate node.nodes 0 };
  patience = node.patience;
  entering = 0;
  drawn = 0;
  stored = 0;
  marked = 0;
  counted = 0;
  marks = [];
  covered = 0;
  is_short = false;
  has_strange = false;
}

-- after some steps, with the last first
abbrev pub after_all : List Step → Spread → Spread
after_all [] start = start
after_all (step ∷ earlier) start = after step (after_all earlier start)

-- the ticket that a step draws in a state; 0 if it draws none
abbrev pub drawn_by : Step → Spread → ℕ
drawn_by (Ends is_stored) s = fact_ticket is_stored s
drawn_by Asks s = next_ticket s
drawn_by Looks s = if is_entering s then next_ticket s else 0
drawn_by _ s = 0

-- how many calls began in some steps, and how many ended
abbrev pub begins_in : List Step → ℕ
begins_in [] = 0
begins_in (Begins ∷ earlier) = begins_in earlier + 1
begins_in (_ ∷ earlier) = begins_in earlier

abbrev pub ends_in : List Step → ℕ
ends_in [] = 0
ends_in (Ends is_stored ∷ earlier) = ends_in earlier + 1
ends_in (_ ∷ earlier) = ends_in earlier

-- what a node last reported, as far as it acknowledges anything
abbrev pub last_told : (node : ℕ) → List Step → Spread → ℕ
last_told node [] start = 0
last_told node (Hears other count now ∷ earlier) start = if other == node then acknowledged count (after_all earlier start) else last_told node earlier start
last_told node (_ ∷ earlier) start = last_told node earlier start

-- at some moment a frame with this ticket had been given, and as many other nodes as are wanted had
-- reported all facts of this node that it counts
pub record WasCopied (ticket : ℕ) (steps : List Step) (start : Spread) : Type 0 where
  pub later : List Step
  pub past : List Step
  pub mark : Mark
  pub is : steps ≡ later ++ past
  pub ticket_is : mark.ticket ≡ ticket
  pub given : Contains past (Gives mark)
  pub told : start.others.wanted ≤ holders start.others.me mark.count (after_all past start).others.told

-- node 1 of three, which wants one copy; and what happens there if node 2 has a fact that it stored
abbrev pub first_of_three : (patience : Duration) → Node
first_of_three patience = record { me = 1; nodes = 3; wanted = 1; patience = patience }

abbrev pub copied_at : (now : Duration) → List Step
copied_at now = Hears 2 1 now ∷ (Gives (record { ticket = 2; count = 1; at = now }) ∷ (Asks ∷ (Ends true ∷ (Begins ∷ []))))

-- a moment in whole seconds
abbrev pub second : ℕ → Duration
second seconds = record { secs = seconds; nanos = 0 }
