-- merges of the views of two nodes, computed: one node hears an outcome while the other goes on,
-- and then purges
use Rattle.std.proofs.Common.{Some, ◌≡◌, ℕ, List, [], ◌∷◌, refl, map, None}
use Rattle.state_ids.specs.Ids.{Id}
use Rattle.state_ids.specs.declared.outcome.Act.TheVariants.{Compensate}
use Rattle.state_ids.specs.declared.outcome.Outcome.TheVariants.{Done}
use Rattle.state_ids.specs.declared.outcome.Verdict.TheVariants.{Cancel}
use Rattle.state_facts.specs.declared.fact.Body.TheVariants.{Begin, Join, Decide, Report, Purge}
use Rattle.state_facts.specs.Links.{Links}
use Rattle.state_forest.specs.Records.{nodes_to, record_of}
use Rattle.theory_history.specs.Histories.{Entry, History, facts}
use Rattle.theory_history.specs.Merging.{merged}
use Rattle.theory_history.specs.Views.{View, purge_number}

abbrev first : Id
first = record { home = 1; num = 1 }

abbrev second : Id
second = record { home = 1; num = 4 }

abbrev third : Id
third = record { home = 2; num = 2 }

abbrev plain : Links
plain = record { complete = None; compensate = Some []; status = None; forget = None; after = None }

-- the first LRA is cancelled, and the other node reports that its participant compensated; then it is purged
abbrev ones : List Entry
ones =
    record { body = Begin None 0; front = 0 ∷ 0 ∷ [] }
    ∷ record { body = Join first 1 plain; front = 1 ∷ 0 ∷ [] }
    ∷ record { body = Decide first Cancel; front = 2 ∷ 0 ∷ [] }
    ∷ record { body = Begin None 0; front = 3 ∷ 0 ∷ [] }
    ∷ record { body = Purge first; front = 4 ∷ 1 ∷ [] }
    ∷ []

abbrev twos : List Entry
twos =
    record { body = Report first 1 Compensate Done; front = 3 ∷ 0 ∷ [] }
    ∷ record { body = Begin None 0; front = 3 ∷ 1 ∷ [] }
    ∷ []

abbrev h : History
h = ones ∷ twos ∷ []

-- the view of what a front counts, with these LRAs held at the two homes
abbrev seen : List ℕ → List Id → List Id → View
seen v one two =
    record {
      front = v;
      purges = map (purge_number (facts h v)) (nodes_to 2);
      records = map (record_of 2 (facts h v)) one ∷ map (record_of 2 (facts h v)) two ∷ [];
    }

-- the view before the nodes hear of one another
abbrev at_one : View
at_one = seen (4 ∷ 0 ∷ []) (first ∷ second ∷ []) []

abbrev at_two : View
at_two = seen (3 ∷ 2 ∷ []) (first ∷ []) (third ∷ [])

-- in either order the outcome is heard, and all three LRAs are held
outcome_merged : merged at_one at_two ≡ seen (4 ∷ 2 ∷ []) (first ∷ second ∷ []) (third ∷ [])
outcome_merged = refl

outcome_merged_back : merged at_two at_one ≡ seen (4 ∷ 2 ∷ []) (first ∷ second ∷ []) (third ∷ [])
outcome_merged_back = refl

-- the view after the purge
abbrev purged : View
purged = seen (5 ∷ 1 ∷ []) (second ∷ []) []

-- in either order the first LRA is gone and does not come back
purge_merged : merged at_two purged ≡ seen (5 ∷ 2 ∷ []) (second ∷ []) (third ∷ [])
purge_merged = refl

purge_merged_back : merged purged at_two ≡ seen (5 ∷ 2 ∷ []) (second ∷ []) (third ∷ [])
purge_merged_back = refl

purge_merged_again : merged (merged purged at_two) at_one ≡ seen (5 ∷ 2 ∷ []) (second ∷ []) (third ∷ [])
purge_merged_again = refl
