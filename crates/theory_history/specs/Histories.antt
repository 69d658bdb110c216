-- Histories: what each node entered and what it knew at that time, the sets of facts that fronts
-- count, and lawful histories.
use Rattle.std.specs.Prelude.{◌≡◌, ◌≤◌, ◌+◌, ◌-◌, ℕ, Bool, List, [], ◌∷◌, ◌++◌, filter, get_or, length, map, nat_le, slice_set}
use Rattle.state_ids.specs.Fronts.{IsBelow, count}
use Rattle.state_facts.specs.declared.fact.Body.{Body}
use Rattle.state_facts.specs.declared.fact.Fact.{Fact}
use Rattle.state_facts.specs.Lists.{In}
use Rattle.theory_history.specs.Replies.{IsLawfulBody}

-- what a node entered, and the front of what it held just before
pub record Entry : Type 0 where
  pub body : Body
  pub front : List ℕ

-- the entries of each node in order, the first node's first
abbrev pub History : Type 0
History = List (List Entry)

-- the entries of a node, where nodes are numbered from 1
abbrev pub entries_of : History → ℕ → List Entry
entries_of h node = get_or h (node - 1) []

-- the history with one more entry at the end of a node's list
abbrev pub with_entry : History → ℕ → Entry → History
with_entry h node e = slice_set h (node - 1) (entries_of h node ++ e ∷ [])

-- an entry as a fact, with its front
pub record Made : Type 0 where
  pub fact : Fact
  pub front : List ℕ

-- the entries of a node as facts, from this number on
abbrev pub made_by : (node num : ℕ) → List Entry → List Made
made_by node num [] = []
made_by node num (e ∷ es) = record { fact = record { origin = node; num = num; body = e.body }; front = e.front } ∷ made_by node (num + 1) es

-- the entries of all nodes from this one on, as facts
abbrev pub made_from : ℕ → History → List Made
made_from node [] = []
made_from node (es ∷ h) = made_by node 1 es ++ made_from (node + 1) h

abbrev pub made : History → List Made
made h = made_from 1 h

abbrev pub is_counted : List ℕ → Fact → Bool
is_counted v f = nat_le f.num (count v f.origin)

-- the set of the facts that the front counts
abbrev pub facts : History → List ℕ → List Fact
facts h v = filter (is_counted v) (map (λ e. e.fact) (made h))

-- For each fact in it, the set of the front holds everything that is counted by the front kept with
-- that fact. The front counts no more than exists: it has a count for each node, which is at most
-- the length of that node's list
pub record IsClosed (h : History) (v : List ℕ) : Type 0 where
  pub kept : (e : Made) → In e (made h) → e.fact.num ≤ count v e.fact.origin → IsBelow e.front v
  pub nodes : length v ≡ length h
  pub within : (node : ℕ) → count v node ≤ length (entries_of h node)

-- the front of an entry counts a closed set that has just the entries before it in its own list,
-- and its body is lawful there
pub record IsLawfulEntry (h : History) (e : Made) : Type 0 where
  pub closed : IsClosed h e.front
  pub own : count e.front e.fact.origin + 1 ≡ e.fact.num
  pub lawful : IsLawfulBody (facts h e.front) e.front e.fact.origin e.fact.body

pub record IsLawful (h : History) : Type 0 where
  pub each : (e : Made) → In e (made h) → IsLawfulEntry h e
