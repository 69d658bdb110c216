-- A view that rows stand for keeps the rules by which they are read, and so does the view of no
-- facts.
use Rattle.std.proofs.Common.{inl, inr, ◌≡◌, ℕ, ◌<◌, ◌≤◌, ◌-◌, ◌^◌, suc, zero, List, length, sym, subst, arith}
use Rattle.std.proofs.lemmas.Bool.{cases_lt}
use Rattle.std.proofs.lemmas.List.{length-replicate}
use Rattle.sqlite.specs.Order.{Row, column}
use Rattle.sqlite.specs.Tree.{Trees}
use Rattle.state_ids.specs.Fronts.{count}
use Rattle.state_forest.specs.Forests.{id_of}
use Rattle.state_forest.specs.Shape.{AreInShape}
use Rattle.theory_history.proofs.Covered.{beyond_front}
use Rattle.theory_history.specs.Views.{View, empty_view}
use Rattle.theory_history.specs.ViewShape.{HasShape}
use Rattle.wire_frames.specs.declared.version.Version.{Version}
use Rattle.wire_frames.specs.declared.version.Version.TheVariants.{One, Two}
use Rattle.wire_frames.proofs.FirstVersion.{record_first}
use Rattle.state_journal.specs.FrontRows.{AreFronts}
use Rattle.state_journal.specs.Listings.{AreLraRows}
use Rattle.state_journal.specs.Reads.{AreRowsOf}
use Rattle.state_journal.specs.Ruled.{KeepsRules, KeepsRulesAs}
use Rattle.state_journal.specs.Tables.{IsFormed}
use Rattle.state_journal.proofs.EmptyTables.{empty_at, none_held}
use Rattle.state_journal.proofs.RowsStand.{number_is, ruled}
use Rattle.state_journal.proofs.ToldViews.{no_count}

-- the counts that rows say have 48 bits
small_in : (v : Version) (me : ℕ) (rows : List Row) (front purges : List ℕ) → AreFronts v me rows front purges → (place : ℕ) → count front (suc place) < 2 ^ 48
small_in v me rows front purges are place = elim (cases_lt place (length front)) [
  | inl within ↦ let said = are.each (suc place) (omega arith) (omega (arith, within)) in omega (arith, (number_is (column said.0 1) (count front (suc place)) said.2.first).1)
  | inr past ↦ let none : count front (suc place) ≡ 0 = beyond_front front (suc place - 1) (omega (arith, past)) in omega (arith, none)
]

pub small : (v : Version) (me : ℕ) (rows : List Row) (front purges : List ℕ) → AreFronts v me rows front purges → (node : ℕ) → count front node < 2 ^ 48
small v me rows front purges are zero = small_in v me rows front purges are 0
small v me rows front purges are (suc place) = small_in v me rows front purges are place

pub keeps_rules : (v : Version) (me : ℕ) (db : Trees) (rows lra_rows : List Row) (view : View) → IsFormed db → AreLraRows db lra_rows → AreRowsOf v me rows lra_rows view → length view.front ≤ 8 → HasShape view → KeepsRulesAs v view
keeps_rules v me db rows lra_rows view formed lras are few shape =
    record { few = few; small = small v me rows view.front view.purges are.fronts; records = ruled v me db rows lra_rows view formed lras are; shape = shape }

-- a view that keeps the rules of either version keeps those of version 2
pub rules_of_two : (v : Version) (view : View) → KeepsRulesAs v view → KeepsRules view
rules_of_two One view rules = record { few = rules.few; small = rules.small; records = λ r held. record_first view.front r (rules.records r held); shape = rules.shape }
rules_of_two Two view rules = rules

-- ---- the view of no facts

empty_shape : (nodes : ℕ) → HasShape (empty_view nodes)
empty_shape nodes = record {
  homes = λ home some. subst (AreInShape (empty_view nodes).front home) (sym (empty_at nodes (home - 1))) (record { few = omega arith; in_place = λ num r found. absurd cc });
  purges = λ node. omega arith;
}

pub empty_keeps_rules : (nodes : ℕ) → nodes ≤ 8 → KeepsRules (empty_view nodes)
empty_keeps_rules nodes few = record {
  few = let long : length (empty_view nodes).front ≡ nodes = length-replicate nodes 0 in omega (arith, few, long);
  small = λ node. let none = no_count nodes (node - 1) in omega (arith, none);
  records = λ r held. absurd (none_held nodes (id_of r) r held);
  shape = empty_shape nodes;
}
