-- What a set of facts says of an LRA, as one record. The set is given as a list in any order.
-- Whatever depends on order goes by the facts' numbers.
use Rattle.std.specs.Prelude.{◌==◌, ◌&&◌, ◌||◌, ◌++◌, ℕ, zero, suc, List, [], ◌∷◌, Bool, false, Option, Some, None, nat_le, filter, map, if◌then◌else◌}
use Rattle.std.specs.Option.{option_map, option_map_or}
use Rattle.state_ids.specs.Ids.{Id, same_id}
use Rattle.state_ids.specs.declared.outcome.Verdict.{Verdict}
use Rattle.state_ids.specs.declared.outcome.Verdict.TheVariants.{Close, Cancel}
use Rattle.state_ids.specs.declared.outcome.Act.TheVariants.{Complete, Compensate}
use Rattle.state_facts.specs.declared.fact.Body.{Body}
use Rattle.state_facts.specs.declared.fact.Body.TheVariants.{Begin, Join, Leave, Decide, Report, Forgot, Told, Purge}
use Rattle.state_facts.specs.declared.fact.Fact.{Fact}
use Rattle.state_facts.specs.Duties.{has_forgot, has_told}
use Rattle.state_facts.specs.Sets.{is_decided, has_left, heard, begins, parent_of, gives_number, member_number}
use Rattle.state_forest.specs.declared.record.Place.{Place}
use Rattle.state_forest.specs.declared.record.Member.{Member}
use Rattle.state_forest.specs.declared.record.Member.TheVariants.{Nested, Participant, Left}
use Rattle.state_forest.specs.declared.record.Record.{Record}
use Rattle.state_facts.specs.Lists.{most}

-- Stamps

-- the body names l: it begins an LRA in l, or is another fact of l, except for a purge
abbrev pub is_named : Id → Body → Bool
is_named l (Begin parent deadline) = option_map_or (λ p. same_id p l) parent false
is_named l (Join id m links) = same_id id l
is_named l (Leave id m) = same_id id l
is_named l (Decide id v) = same_id id l
is_named l (Report id m act outcome) = same_id id l
is_named l (Forgot id m) = same_id id l
is_named l (Told id m) = same_id id l
is_named l (Purge root) = false

-- the fact is the begin of l, or names l
abbrev pub is_about : Id → Fact → Bool
is_about l f = begins l f || is_named l f.body

-- the greatest number of a node's facts about l, 0 if there are none
abbrev pub stamp : List Fact → Id → ℕ → ℕ
stamp S l node = most (λ f. if (f.origin == node) && is_about l f then f.num else 0) S

-- the numbers from 1 to n
abbrev pub nodes_to : ℕ → List ℕ
nodes_to zero = []
nodes_to (suc n) = nodes_to n ++ suc n ∷ []

-- Members

-- the facts with this one in its place by its number
abbrev pub put_by_number : Fact → List Fact → List Fact
put_by_number f [] = f ∷ []
put_by_number f (g ∷ S) = if nat_le f.num g.num then f ∷ g ∷ S else g ∷ put_by_number f S

-- the facts in order of their numbers
abbrev pub by_number : List Fact → List Fact
by_number [] = []
by_number (f ∷ S) = put_by_number f (by_number S)

-- the member of l that gets the number that this fact gives
abbrev pub member_by : List Fact → Id → ℕ → Body → Member
member_by S l num (Join id m links) =
    if has_left S l m then Left
    else Participant (record {
      links = links;
      completed = heard S l m Complete;
      compensated = heard S l m Compensate;
      forgotten = has_forgot S l m;
      told = has_told S l m;
    })
member_by S l num _ = Nested num

-- the facts that give the member numbers of l, in order
abbrev pub givers : List Fact → Id → List Fact
givers S l = by_number (filter (λ f. gives_number l f.body) S)

abbrev pub members_of : List Fact → Id → List Member
members_of S l = map (λ f. member_by S l f.num f.body) (givers S l)

-- The record

abbrev pub deadline_given : Body → ℕ
deadline_given (Begin parent deadline) = deadline
deadline_given _ = 0

abbrev pub deadline_of : List Fact → Id → ℕ
deadline_of [] l = 0
deadline_of (f ∷ S) l = if begins l f then deadline_given f.body else deadline_of S l

-- the place of the LRA with this number in its parent
abbrev pub place_in : List Fact → ℕ → Option Id → Option Place
place_in S num parent = option_map (λ (p : Id). record { number = p.num; slot = member_number S p num }) parent

-- the decision on l itself
abbrev pub decision_of : List Fact → Id → Option Verdict
decision_of S l = if is_decided S Cancel l then Some Cancel else (if is_decided S Close l then Some Close else None)

abbrev pub record_of : ℕ → List Fact → Id → Record
record_of nodes S l =
    record {
      home = l.home;
      num = l.num;
      parent = place_in S l.num (parent_of S l);
      deadline = deadline_of S l;
      decision = decision_of S l;
      stamps = map (stamp S l) (nodes_to nodes);
      members = members_of S l;
    }
