-- How records are made from a list of facts.
use Rattle.std.specs.Prelude.{◌≡◌, ◌≤◌, ◌&&◌, ◌==◌, ℕ, List, [], ◌∷◌, true, Option, Some, None, if◌then◌else◌, nat_lt, length, find, option_and_then}
use Rattle.state_ids.specs.Ids.{Id}
use Rattle.state_facts.specs.declared.fact.Fact.{Fact}
use Rattle.state_facts.specs.Sets.{gives_number}
use Rattle.state_facts.specs.Lists.{In}
use Rattle.state_forest.specs.declared.record.TheConstants.{MAX_MEMBERS}
use Rattle.state_forest.specs.Records.{givers}
use Rattle.state_forest.specs.Standing.{AreOnce}

-- what a list of facts must satisfy so that records can be made of it: each fact has an origin and
-- a number of its own, and each LRA has at most 32 members, whose numbers its home gives
pub record IsRecordable (S : List Fact) : Type 0 where
  pub few : (l : Id) → length (givers S l) ≤ MAX_MEMBERS
  pub once : AreOnce S
  pub givers : (f : Fact) (l : Id) → In f S → gives_number l f.body ≡ true → f.origin ≡ l.home

-- the lesser of two numbers, or the one that is there
abbrev pub lesser_number : Option ℕ → Option ℕ → Option ℕ
lesser_number None b = b
lesser_number (Some a) None = Some a
lesser_number (Some a) (Some b) = if nat_lt b a then Some b else Some a

-- the fact's number, if it gives a member number of l and its own number is above n
abbrev pub number_above : ℕ → Id → Fact → Option ℕ
number_above n l f = if gives_number l f.body && nat_lt n f.num then Some f.num else None

-- the least such number
abbrev pub least_above : ℕ → Id → List Fact → Option ℕ
least_above n l [] = None
least_above n l (f ∷ S) = lesser_number (number_above n l f) (least_above n l S)

-- the fact with this number that gives a member number of l
abbrev pub giver_at : Id → List Fact → ℕ → Option Fact
giver_at l S num = find (λ f. gives_number l f.body && (f.num == num)) S

abbrev pub next_giver : ℕ → Id → List Fact → Option Fact
next_giver n l S = option_and_then (giver_at l S) (least_above n l S)
