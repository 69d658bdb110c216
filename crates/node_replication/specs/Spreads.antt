-- How far a node's facts have spread: which other nodes have them, and what waits for that.
use Rattle.std.specs.Prelude.{◌+◌, ◌-◌, ◌++◌, ◌∷◌, ◌&&◌, ◌||◌, ◌==◌, [], ℕ, Bool, List, if◌then◌else◌, filter, length, map, max, min, nat_le, nat_lt, not, slice_set, take, true}
use Rattle.std.specs.List.{list_any, range_with_len}
use Rattle.std.specs.Duration.{as_nanos}
use Rattle.std.specs.declared.time.Duration.{Duration}
use Rattle.state_ids.specs.Fronts.{count}
use Rattle.node_replication.specs.Moments.{is_over}
use Rattle.node_replication.specs.declared.mark.TheConstants.{MAX_MARKS}
use Rattle.node_replication.specs.declared.mark.Mark.{Mark}
use Rattle.node_replication.specs.declared.acknowledgements.Acknowledgements.{Acknowledgements}
use Rattle.node_replication.specs.declared.standing.Standing.{Standing}
use Rattle.node_replication.specs.declared.standing.Standing.TheVariants.{Copied, Late, Waits}

-- How many facts each other node reported to have, how many copies are wanted, and how long an
-- answer waits for them; how many calls are under way that may store a fact; the last ticket that
-- was drawn, the last for which an answer may wait, and the greatest of a frame that was given; how
-- many facts the node is known to have; the frames that too few others have; the ticket up to which
-- enough others have all facts; whether others fell behind; and whether one reported more than
-- there is
pub record Spread : Type 0 where
  pub others : Acknowledgements
  pub patience : Duration
  pub entering : ℕ
  pub drawn : ℕ
  pub stored : ℕ
  pub marked : ℕ
  pub counted : ℕ
  pub marks : List Mark
  pub covered : ℕ
  pub is_short : Bool
  pub has_strange : Bool

-- the last ticket that there is
abbrev pub last_ticket : ℕ
last_ticket = 18_446_744_073_709_551_615

-- whether a node is another, and reported at least this many facts
abbrev pub is_holder : (me count : ℕ) → (told : List ℕ) → (node : ℕ) → Bool
is_holder me least told node = not (node == me) && nat_le least (count told node)

-- how many others did
abbrev pub holders : (me count : ℕ) → (told : List ℕ) → ℕ
holders me least told = length (filter (is_holder me least told) (range_with_len 1 (length told)))

-- whether as many did as are wanted
abbrev pub have : Acknowledgements → ℕ → Bool
have others least = nat_le others.wanted (holders others.me least others.told)

-- whether as many others as are wanted have each fact with a ticket up to this one
abbrev pub is_covered : (ticket : ℕ) → Spread → Bool
is_covered ticket s = s.others.wanted == 0 || nat_le ticket s.covered

-- the ticket that is drawn next: after the last one, that one again
abbrev pub next_ticket : Spread → ℕ
next_ticket s = min (s.drawn + 1) last_ticket

-- a call begins; it is over; and a frame is asked for
abbrev pub begun : Spread → Spread
begun s = record s { entering = min (s.entering + 1) last_ticket }

abbrev pub left : Spread → Spread
left s = record s { entering = s.entering - 1 }

abbrev pub drawn : Spread → Spread
drawn s = record s { drawn = next_ticket s }

abbrev pub drawn_to_wait : Spread → Spread
drawn_to_wait s = record s { drawn = next_ticket s; stored = next_ticket s }

abbrev pub ended : (is_stored : Bool) → Spread → Spread
ended is_stored s = if is_stored then drawn_to_wait (left s) else left s

abbrev pub fact_ticket : (is_stored : Bool) → Spread → ℕ
fact_ticket is_stored s = if is_stored then next_ticket s else 0

-- whether a call is under way whose fact an answer may have to wait for
abbrev pub is_entering : Spread → Bool
is_entering s = nat_lt 0 s.others.wanted && nat_lt 0 s.entering

-- an answer is made from what is stored
abbrev pub looked : Spread → Spread
looked s = if is_entering s then drawn_to_wait s else s

-- the ticket that it waits for then, if any
abbrev pub target : Spread → ℕ
target s = if is_covered s.stored s then 0 else s.stored

-- a mark is put last, if there is room; otherwise it replaces the last
abbrev pub put : Mark → List Mark → List Mark
put mark marks = take (MAX_MARKS - 1) marks ++ mark ∷ []

-- the marks after a frame was given: none is made if no copies are wanted, or for the last ticket
abbrev pub marks_with : Mark → Spread → List Mark
marks_with mark s = if nat_lt 0 s.others.wanted && nat_lt mark.ticket last_ticket then put mark s.marks else s.marks

abbrev pub given : Mark → Spread → Spread
given mark s = record s { marked = max s.marked mark.ticket; counted = max s.counted mark.count; marks = marks_with mark s }

-- the node knows that it has this many facts
abbrev pub counted : ℕ → Spread → Spread
counted count s = record s { counted = max s.counted count }

-- whether as many others as are wanted have a frame, or too few; and whether they have it within
-- the patience
abbrev pub is_copied : Acknowledgements → Mark → Bool
is_copied others mark = have others mark.count

abbrev pub is_uncopied : Acknowledgements → Mark → Bool
is_uncopied others mark = not (is_copied others mark)

abbrev pub is_in_time : Acknowledgements → (patience now : Duration) → Mark → Bool
is_in_time others patience now mark = is_copied others mark && not (is_over (as_nanos patience) mark.at now)

abbrev pub ticket_of : Mark → ℕ
ticket_of mark = mark.ticket

-- the greatest of some numbers
abbrev pub greatest : List ℕ → ℕ
greatest [] = 0
greatest (number ∷ numbers) = max number (greatest numbers)

-- the tickets of the frames that as many others have as are wanted
abbrev pub copied_tickets : Acknowledgements → List Mark → List ℕ
copied_tickets others marks = map ticket_of (filter (is_copied others) marks)

-- those frames are forgotten: what they have is covered, and a frame that was in time ends a
-- shortage
abbrev pub settled : (now : Duration) → Spread → Spread
settled now s = record s { marks = filter (is_uncopied s.others) s.marks; covered = max s.covered (greatest (copied_tickets s.others s.marks)); is_short = s.is_short && not (list_any (is_in_time s.others s.patience now) s.marks) }

-- another node reported this many facts
abbrev pub with_told : (other count : ℕ) → Acknowledgements → Acknowledgements
with_told other count others = record others { told = slice_set others.told (other - 1) count }

-- how many of them it acknowledges: none if that is more than the node knows of
abbrev pub acknowledged : (count : ℕ) → Spread → ℕ
acknowledged count s = if nat_lt s.counted count then 0 else count

abbrev pub told_by : (other count : ℕ) → Spread → Spread
told_by other count s = record s { others = with_told other (acknowledged count s) s.others; has_strange = s.has_strange || nat_lt s.counted count }

-- whether a node is one of the others
abbrev pub is_other : (node : ℕ) → Acknowledgements → Bool
is_other node others = nat_lt 0 node && (not (node == others.me) && nat_le node (length others.told))

abbrev pub heard : (other count : ℕ) → (now : Duration) → Spread → Spread
heard other count now s = if is_other other s.others then settled now (told_by other count s) else s

-- whether there is news of the node's own for a node that has this many facts of it
abbrev pub has_news : (count : ℕ) → Spread → Bool
has_news count s = nat_lt s.marked s.stored || nat_lt count s.counted

-- whether an answer that has waited since a moment waits no longer: its patience is over, or others
-- fell behind and it isn't strict
abbrev pub is_late : (since now : Duration) → (is_strict : Bool) → Spread → Bool
is_late since now is_strict s = (not is_strict && s.is_short) || is_over (as_nanos s.patience) since now

-- the standing of an answer that waits for a ticket
abbrev pub standing_of : (ticket : ℕ) → (since now : Duration) → (is_strict : Bool) → Spread → Standing
standing_of ticket since now is_strict s = if is_covered ticket s then Copied else if is_late since now is_strict s then Late else Waits

abbrev pub with_shortage : Standing → Spread → Spread
with_shortage Late s = record s { is_short = true }
with_shortage Copied s = s
with_shortage Waits s = s

abbrev pub stood : (ticket : ℕ) → (since now : Duration) → (is_strict : Bool) → Spread → Spread
stood ticket since now is_strict s = with_shortage (standing_of ticket since now is_strict s) s
