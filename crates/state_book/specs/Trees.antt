-- What the tree of an LRA shows, which is the LRA with everything nested in it: by a view, and by a
-- set of facts.
use Rattle.std.specs.Prelude.{ℕ, Bool, true, false, List, [], ◌∷◌, Result, Ok, Err}
use Rattle.std.specs.Option.{option_map_or}
use Rattle.state_ids.specs.Ids.{Id}
use Rattle.state_ids.specs.declared.status.LraStatus.{LraStatus}
use Rattle.state_ids.specs.declared.status.LraStatus.TheVariants.{Cancelled, Closed, FailedToCancel, FailedToClose}
use Rattle.state_facts.specs.declared.fact.Fact.{Fact}
use Rattle.state_facts.specs.declared.refusal.Refusal.{Refusal}
use Rattle.state_facts.specs.Refusals.{first, unknown}
use Rattle.state_forest.specs.Trees.{tree_shown_at, tree_shows}
use Rattle.theory_history.specs.Readings.{at_home, by_view}
use Rattle.theory_history.specs.Replies.{by_facts, gone_by}
use Rattle.theory_history.specs.Views.{View}

-- what the tree shows by the view's records
abbrev pub tree_on : View → Id → LraStatus
tree_on view l = tree_shown_at (at_home view l.home) l.num

-- what the tree of an LRA shows, or the refusal
abbrev pub tree_shown_on : View → Id → Result LraStatus Refusal
tree_shown_on view l = option_map_or (λ r. Err r) (first (unknown view.front l ∷ gone_by (by_view view) l ∷ [])) (Ok (tree_on view l))

-- the same over a set of facts and the front that counts them
abbrev pub tree_shown_of : List Fact → (front : List ℕ) → Id → Result LraStatus Refusal
tree_shown_of S front l = option_map_or (λ r. Err r) (first (unknown front l ∷ gone_by (by_facts S) l ∷ [])) (Ok (tree_shows S l))

-- an end without a failure
abbrev pub ended_well : LraStatus → Bool
ended_well Closed = true
ended_well Cancelled = true
ended_well _ = false

abbrev pub failed : LraStatus → Bool
failed FailedToClose = true
failed FailedToCancel = true
failed _ = false
