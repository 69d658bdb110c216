-- a patch that adds a command's fact, in the history with that entry, and the history without
-- entries
use Rattle.std.proofs.Common.{◌≡◌, ◌≤◌, ◌+◌, ◌-◌, ℕ, zero, suc, List, [], refl, sym, ap, subst, ◌∙◌, arith, filter, get_or, length, map, replicate, Some}
use Rattle.std.proofs.lemmas.List.{length-replicate}
use Rattle.state_facts.specs.declared.fact.Fact.{Fact}
use Rattle.state_facts.specs.Lists.{In}
use Rattle.state_facts.specs.declared.command.Command.{Command}
use Rattle.theory_history.specs.Histories.{Entry, History, Made, facts, is_counted, made, made_from, with_entry}
use Rattle.theory_history.specs.NodeViews.{IsCurrent, IsViewIn, entry_for}
use Rattle.theory_history.specs.Changes.{AddsFact, Change, patched, raised}
use Rattle.theory_history.specs.Views.{empty_view, StandsFor, View}
use Rattle.theory_history.proofs.CountedByFronts.{empty_stands, zero_at}
use Rattle.theory_history.proofs.OneMoreEntry.{closed_with, lawful_with, length_with, one_more, own_with, accepted_lawful}
use Rattle.theory_history.proofs.ClosedSets.{fact_of}

-- the front that was raised is current
pub current_with : (h : History) (node : ℕ) (v : List ℕ) (e : Entry) → IsCurrent h node v → e.front ≡ v → IsCurrent (with_entry h node e) node (raised v node)
current_with h node v e current front =
    record {
      some = current.some;
      there = omega (arith, current.there, length_with h node e);
      closed = closed_with h v node e current.some current.there current.closed current.own front;
      own = own_with h v node e current.some current.there current.closed current.own;
    }

-- the view with the patch is that of the node in the longer history
pub view_with : (h : History) (node : ℕ) (v : List ℕ) (view : View) (c : Command) (change : Change) → IsViewIn h node v view → view.front ≡ v → AddsFact (facts h v) view node c (Some change)
    → IsViewIn (with_entry h node (entry_for h v c)) node (raised v node) (patched change view)
view_with h node v view c change at front adds =
    subst (λ (u : List ℕ). IsViewIn h node u view → AddsFact (facts h u) view node c (Some change) → IsViewIn (with_entry h node (entry_for h u c)) node (raised u node) (patched change view))
    front (with_own h node view c change) at adds
  where
    with_own : (h : History) (node : ℕ) (view : View) (c : Command) (change : Change) → IsViewIn h node view.front view → AddsFact (facts h view.front) view node c (Some change)
        → IsViewIn (with_entry h node (entry_for h view.front c)) node (raised view.front node) (patched change view)
    with_own h node view c change at adds =
        let v = view.front in
        let e = entry_for h v c in
        let current = at.current in
        record {
          lawful = lawful_with h v node e current.some current.there current.closed current.own at.lawful refl (accepted_lawful (facts h v) v node c adds.0);
          current = current_with h node v e current refl;
          stands = adds.2 (facts (with_entry h node e) (raised v node)) (one_more h v node e current.some current.there current.closed current.own);
        }

-- and its front is the raised one
pub front_with : (h : History) (node : ℕ) (v : List ℕ) (view : View) (c : Command) (change : Change) → view.front ≡ v → AddsFact (facts h v) view node c (Some change) → change.front ≡ raised v node
front_with h node v view c change front adds = adds.1 ∙ ap (λ (u : List ℕ). raised u node) front

-- The history without entries

nothing_made : (n node : ℕ) → made_from node (replicate n []) ≡ []
nothing_made zero node = refl
nothing_made (suc n) node = nothing_made n (node + 1)

no_entries : (n i : ℕ) → length (get_or (replicate {A = List Entry} n []) i []) ≡ 0
no_entries zero i = refl
no_entries (suc n) zero = refl
no_entries (suc n) (suc i) = no_entries n i

-- the history without entries is lawful, and a front of zeros is current in it, with the view of no
-- facts
pub empty_view_in : (nodes node : ℕ) → 1 ≤ node → node ≤ nodes → IsViewIn (replicate nodes []) node (replicate nodes 0) (empty_view nodes)
empty_view_in nodes node some there =
    record {
      lawful = record { each = λ x m. none x m };
      current = record {
        some = some;
        there = omega (arith, there, length-replicate {A = List Entry} nodes []);
        closed = record {
          kept = λ x m bound. none x m;
          nodes = length-replicate {A = ℕ} nodes 0 ∙ sym (length-replicate {A = List Entry} nodes []);
          within = λ n. omega (arith, zero_at nodes (n - 1));
        };
        own = zero_at nodes (node - 1) ∙ sym (no_entries nodes (node - 1));
      };
      stands = subst (λ (S : List Fact). StandsFor S (empty_view nodes)) (sym nothing) (empty_stands nodes);
    }
  where
    none : {X : Type 0} (x : Made) → In x (made (replicate nodes [])) → X
    none x m = absurd (subst (λ (ms : List Made). In x ms) (nothing_made nodes 1) m)

    nothing : facts (replicate nodes []) (replicate nodes 0) ≡ []
    nothing = ap (λ (ms : List Made). filter (is_counted (replicate nodes 0)) (map fact_of ms)) (nothing_made nodes 1)
