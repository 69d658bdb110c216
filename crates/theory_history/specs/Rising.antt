-- Notions that the laws of rising statuses use: ranks, decisions, and cancels further up.
use Rattle.std.specs.Prelude.{◌≡◌, ◌⊎◌, ℕ, List, Some}
use Rattle.state_ids.specs.Ids.{Id}
use Rattle.state_ids.specs.States.{rank_of}
use Rattle.state_ids.specs.declared.outcome.Verdict.{Verdict}
use Rattle.state_ids.specs.declared.status.LraStatus.TheVariants.{Cancelled, Closed, FailedToCancel, FailedToClose}
use Rattle.state_ids.specs.declared.outcome.Verdict.TheVariants.{Cancel}
use Rattle.state_facts.specs.declared.fact.Body.TheVariants.{Decide}
use Rattle.state_facts.specs.declared.fact.Fact.{Fact}
use Rattle.state_facts.specs.Lists.{In}
use Rattle.state_facts.specs.Sets.{chain, status}
use Rattle.theory_history.specs.Histories.{History, Made, facts, made}

-- the rank of what an LRA shows in a set: 0 to 6, or 7 if it is not held
abbrev pub rank_in : List Fact → Id → ℕ
rank_in S l = rank_of (status S l)

-- a set shows l as Closed or FailedToClose
abbrev pub IsShownClosed : List Fact → Id → Type 0
IsShownClosed S l = (status S l ≡ Some Closed) ⊎ (status S l ≡ Some FailedToClose)

-- a set shows l as Cancelled or FailedToCancel
abbrev pub IsShownCancelled : List Fact → Id → Type 0
IsShownCancelled S l = (status S l ≡ Some Cancelled) ⊎ (status S l ≡ Some FailedToCancel)

-- the entry is in the history, and closes or cancels l
pub record IsDecision (h : History) (l : Id) (verdict : Verdict) (e : Made) : Type 0 where
  pub there : In e (made h)
  pub decides : e.fact.body ≡ Decide l verdict

-- An LRA above l was cancelled: one in the chain of l that is not l itself. The set of the front
-- has the fact that cancelled it
pub record IsCancelledAbove (h : History) (v : List ℕ) (l : Id) : Type 0 where
  pub above : Id
  pub chained : In above (chain (facts h v) l)
  pub proper : above ≡ l → ⊥
  pub entry : Made
  pub cancels : IsDecision h above Cancel entry
  pub known : In entry.fact (facts h v)
