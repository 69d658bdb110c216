-- What a SELECT of all rows of a table shows, and that the two SELECTs of the journal list their
-- tables.
use Rattle.std.proofs.Common.{◌≡◌, ℕ, List, [], ◌∷◌, map, false, Option, IsTrue, Some, None, refl, sym, ap, subst, ◌∙◌}
use Rattle.std.specs.Prelude.{IsPermutation, IsSorted}
use Rattle.std.specs.Ordering.{is_lt}
use mathlib.Core.List.{map-map}
use Rattle.std.proofs.lemmas.List.Sorted.{IsPermutation-map}
use Rattle.std.proofs.lemmas.List.Concat.{flat_map_single}
use Rattle.sqlite.specs.declared.types.Value.TheVariants.{Null}
use Rattle.sqlite.specs.Order.{Row}
use Rattle.sqlite.specs.Tree.{Trees}
use Rattle.sqlite.specs.Term.{Term, eval_all}
use Rattle.sqlite.specs.Query.{IsAnswer, output, Output, key_cmp}
use Rattle.sqlite.specs.Program.{overlay}
use Rattle.sqlite.specs.Schema.{Schema}
use Rattle.sqlite_value.specs.declared.keys.Key.{Key}
use Rattle.sqlite.specs.Effect.{Answers}
use Rattle.sqlite.specs.State.{State, Shown, ShowsRows}
use Rattle.sqlite.specs.Clock.{timed}
use Rattle.sqlite_resolve.specs.declared.compiled.Compiled.{Compiled}
use Rattle.sqlite_schema.specs.declared.command.Returning.{Returning}
use Rattle.sqlite.specs.Listing.{understood, reads_listing}
use Rattle.sqlite_tied.specs.Compute.{everything}
use Rattle.sqlite.proofs.Callers.{IsPlain, reads_as}
use Rattle.sqlite_rules.specs.Lists.{Has}
use Rattle.state_journal.specs.Schema.{journal_schema}
use Rattle.state_journal.specs.Listings.{AreFrontRows, AreLraRows}
use Rattle.state_journal.proofs.Texts.{program, select_front, select_front_is, select_lra, select_lra_is}
use Rattle.state_journal.proofs.Upserts.{query}
use Rattle.state_journal.proofs.Members.{has_mapped, has_permuted}
use Rattle.state_journal.proofs.Ordered.{sorted_shown}

-- a SELECT without WHERE, by these keys, shows each row of the table once, in their order
module _ (table : ℕ) (shown : List Term) (order : List (Term × Key)) (db : Trees) (given : Row) (rows : List Row) (schema : Schema) (low : overlay db [] table ≡ db table)
    (h : Answers (record { schema = schema; trees = db }) (program (query table [] shown order)) given rows) where
  a : IsAnswer (query table [] shown order) (overlay db []) given rows
  a = h.answer Null

  abbrev show : Row → Row
  show r = eval_all shown (given ∷ r ∷ [])

  abbrev both : Row → Output
  both r = output (query table [] shown order) (given ∷ r ∷ [])

  kept_is : a.kept ≡ map both (db table)
  unfolding a
  kept_is =
      let staged : a.staged ≡ map (λ r. given ∷ r ∷ []) (db table) = a.grouped ∙ flat_map_single (λ r. given ∷ r ∷ []) (overlay db [] table) ∙ ap (map (λ r. given ∷ r ∷ [])) low in
      a.distinct ∙ ap (map (output (query table [] shown order))) staged ∙ map-map (output (query table [] shown order)) (λ r. given ∷ r ∷ []) (db table)

  pub listed_each : IsPermutation (map show (db table)) rows
  unfolding a
  listed_each =
      let same : map (λ (o : Output). o.1) a.kept ≡ map show (db table) = ap (map (λ (o : Output). o.1)) kept_is ∙ map-map (λ (o : Output). o.1) both (db table) in
      subst (λ l. IsPermutation l rows) same (subst (IsPermutation (map (λ (o : Output). o.1) a.kept)) (sym a.shown) (IsPermutation-map (λ (o : Output). o.1) a.kept a.ordered a.same))

  -- if the keys are the first columns that are shown
  pub listed_order : ((r s : Row) → key_cmp 0 (map (λ k. k.1) order) (show r) (show s) ≡ key_cmp 0 (map (λ k. k.1) order) (both r).0 (both s).0)
      → IsSorted (key_cmp 0 (map (λ k. k.1) order)) rows
  unfolding a
  listed_order keyed =
      let tied : (o p : Output) → Has a.ordered o → Has a.ordered p → is_lt (key_cmp 0 (map (λ k. k.1) order) o.1 p.1) ≡ is_lt (key_cmp 0 (map (λ k. k.1) order) o.0 p.0) = λ o p first second.
      let r = has_mapped both (db table) o (subst (λ l. Has l o) kept_is (has_permuted a.kept a.ordered o a.same first)) in
      let s = has_mapped both (db table) p (subst (λ l. Has l p) kept_is (has_permuted a.kept a.ordered p a.same second)) in
      rw (r.2, s.2) (ap is_lt (keyed r.0 s.0)) in
      subst (IsSorted (key_cmp 0 (map (λ k. k.1) order))) (sym a.shown) (sorted_shown (λ (o : Output). o.1) _ (λ x y. is_lt (key_cmp 0 (map (λ k. k.1) order) x y)) a.ordered tied a.sorted)

-- ---- the two SELECTs

pub front_plain : IsPlain (understood journal_schema select_front)
unfolding understood everything
front_plain = (refl, refl)

pub front_unlisted : reads_listing journal_schema select_front ≡ false
unfolding understood everything
front_unlisted = refl

pub lra_plain : IsPlain (understood journal_schema select_lra)
unfolding understood everything
lra_plain = (refl, refl)

pub lra_unlisted : reads_listing journal_schema select_lra ≡ false
unfolding understood everything
lra_unlisted = refl

module _ (old new : State) (rows : List Row) (has : old.now.schema ≡ journal_schema) where
  pub front_listed : Shown select_front [] old new rows → AreFrontRows old.now.trees rows
  front_listed h =
      let answers = reads_as select_front [] old new journal_schema has _ select_front_is front_plain front_unlisted rows h in
      record {
        each = listed_each 0 _ _ old.now.trees [] rows old.now.schema refl answers;
        order = listed_order 0 _ _ old.now.trees [] rows old.now.schema refl answers (λ r s. refl);
      }

  pub lra_listed : Shown select_lra [] old new rows → AreLraRows old.now.trees rows
  lra_listed h =
      let answers = reads_as select_lra [] old new journal_schema has _ select_lra_is lra_plain lra_unlisted rows h in
      record {
        each = listed_each 1 _ _ old.now.trees [] rows old.now.schema refl answers;
        order = listed_order 1 _ _ old.now.trees [] rows old.now.schema refl answers (λ r s. refl);
      }

  pub front_same : Shown select_front [] old new rows → new.now ≡ old.now
  unfolding Shown
  front_same h =
      let known = sym h.1.is ∙ ap (λ s. understood s select_front) has in
      let bare = subst IsPlain (sym known) front_plain in
      let it = subst (ShowsRows old new select_front h.0 (timed [] h.0.formats h.1.now) rows) bare.0 h.2 in
      it.3.0.now_is

  pub lra_same : Shown select_lra [] old new rows → new.now ≡ old.now
  unfolding Shown
  lra_same h =
      let known = sym h.1.is ∙ ap (λ s. understood s select_lra) has in
      let bare = subst IsPlain (sym known) lra_plain in
      let it = subst (ShowsRows old new select_lra h.0 (timed [] h.0.formats h.1.now) rows) bare.0 h.2 in
      it.3.0.now_is

open_by : (old new : State) (sql : List ℕ) (c : Compiled) (params : Row) (rows : List Row) (what : Option Returning) → ShowsRows old new sql c params rows what → IsTrue old.is_open
open_by old new sql c params rows None h = h.3.0.was_open
open_by old new sql c params rows (Some what) h = h.1.shown.was_open

-- only an open connection shows rows
pub shown_open : (sql : List ℕ) (old new : State) (rows : List Row) → Shown sql [] old new rows → IsTrue old.is_open
unfolding Shown
shown_open sql old new rows h = open_by old new sql h.0 _ rows h.0.returning h.2
