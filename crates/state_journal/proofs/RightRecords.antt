-- The listed rows of `lra` are right, if they stand for a view that keeps the rules.
use Rattle.std.proofs.Common.{◌≡◌, ℕ, ◌<◌, ◌≤◌, pos, Bool, true, false, List, [], ◌∷◌, map, length, get_or, Some, refl, sym, ap, subst, ◌∙◌, arith, is_eq, Ordering, Less, Equal, Greater}
use Rattle.std.specs.Prelude.{slice_get}
use Rattle.std.specs.Ordering.{eq_by_cmp, ordering_then}
use Rattle.std.specs.List.Sorted.{IsStrictlySortedBy}
use Rattle.std.proofs.lemmas.Bool.Decides.{nat_tests}
use Rattle.std.proofs.lemmas.Cmp.{tied_itself}
use Rattle.std.proofs.lemmas.Map.Keys.{Less-from_sorted}
use Rattle.std.proofs.lemmas.Option.{slice_get-get_or, slice_get_within, get_or_from_slice_get}
use Rattle.sqlite.specs.declared.types.Value.TheVariants.{Int, Blob}
use Rattle.sqlite.specs.Order.{Row, column, value_cmp}
use Rattle.sqlite.specs.Query.{key_cmp}
use Rattle.sqlite.specs.Tree.{Trees, rowid}
use Rattle.sqlite_rules.specs.Lists.{Has}
use Rattle.sqlite_rules.proofs.ListLemmas.{has_got}
use Rattle.sqlite_sql.proofs.QueryLemmas.{key_cmp_total}
use Rattle.sqlite_value.proofs.OrderLemmas.{value_cmp_total}
use Rattle.state_ids.specs.Ids.{last_number}
use Rattle.state_ids.specs.Fronts.{count}
use Rattle.state_forest.specs.declared.record.Record.{Record}
use Rattle.theory_history.specs.Views.{View}
use Rattle.wire_frames.specs.declared.version.Version.{Version}
use Rattle.wire_frames.specs.Encoding.{record_text_as}
use Rattle.wire_frames.specs.OneRecord.{IsRecordUnderAs}
use Rattle.state_journal.specs.Schema.{lra_tree}
use Rattle.state_journal.specs.Tables.{IsFormed, IsLraRow}
use Rattle.state_journal.specs.Listings.{AreLraRows, lra_shown}
use Rattle.state_journal.specs.LraRows.{IsRecordRight, IsRowAt, IsRowOf}
use Rattle.state_journal.specs.Ruled.{AreTables, KeepsRulesAs}
use Rattle.state_journal.specs.Stands.{StandsAs}
use Rattle.state_journal.proofs.KeptNumbers.{by_two, number_back, second_below}
use Rattle.state_journal.proofs.LraDelete.{tied_int}
use Rattle.state_journal.proofs.Members.{has_mapped, has_permuted}
use Rattle.state_journal.proofs.Rising.{distinct_shown, rises}
use Rattle.state_journal.proofs.RowsStand.{number_is, signed_is}

-- if two comparisons, one after the other, tie, each of them ties
both_tied : (o p : Ordering) → is_eq (ordering_then o (ordering_then p Equal)) ≡ true → (o ≡ Equal) × (p ≡ Equal)
both_tied Equal Equal e = (refl, refl)
both_tied Equal Less e = absurd (cc)
both_tied Equal Greater e = absurd (cc)
both_tied Less p e = absurd (cc)
both_tied Greater p e = absurd (cc)

-- ---- no two rows have the same key

module _ (db : Trees) (formed : IsFormed db) where
  same_form : (a b : Row) (f : IsLraRow a) (g : IsLraRow b) → eq_by_cmp (key_cmp 0 by_two) (lra_shown a) (lra_shown b) ≡ true → (column a 1 ≡ column b 1) × (column a 2 ≡ column b 2)
  same_form a b f g e =
      let shown = rw (f.is, g.is) at e in
      let both = both_tied _ _ shown in
      let home = tied_int (pos f.home) (pos g.home) (ap is_eq both.0) in
      let num = tied_int f.num g.num (ap is_eq both.1) in
      (rw (f.is, g.is) (ap Int home), rw (f.is, g.is) (ap Int num))

  apart : (a b : Row) → Has (db lra_tree) a → Has (db lra_tree) b → value_cmp (rowid a) (rowid b) ≡ Less → (t : Bool) → eq_by_cmp (key_cmp 0 by_two) (lra_shown a) (lra_shown b) ≡ t → t ≡ false
  apart a b p q less false e = refl
  apart a b p q less true e =
      let same = same_form a b (formed.each a p) (formed.each b q) e in
      let one : a ≡ b = formed.one a b p q same.0 same.1 in
      let tied : value_cmp (rowid a) (rowid b) ≡ Equal = ap (λ x. value_cmp (rowid a) (rowid x)) (sym one) ∙ tied_itself value_cmp_total (rowid a) in
      absurd (let both = sym less ∙ tied in cc)

module _ (v : Version) (me : ℕ) (db : Trees) (rows : List Row) (view : View) (tables : AreTables db) (stands : StandsAs v me db view) (rules : KeepsRulesAs v view) (listed : AreLraRows db rows) where
  strict : IsStrictlySortedBy (key_cmp 0 by_two) rows
  strict =
      let total = key_cmp_total by_two 0 in
      rises (key_cmp 0 by_two) total (map lra_shown (db lra_tree)) rows
      (distinct_shown (key_cmp 0 by_two) total (λ a b. value_cmp (rowid a) (rowid b) ≡ Less) lra_shown (db lra_tree) tables.lra (λ a b p q less. apart db stands.formed a b p q less _ refl))
      listed.each listed.order

  record IsOfRecord (row : Row) : Type 0 where
    pub kept : Record
    pub is : IsRowOf v view.front row kept

  home_small : (kept : Record) → IsRecordUnderAs v view.front kept → kept.home ≤ last_number
  home_small kept rule = omega (arith, rule.small)

  num_small : (kept : Record) → IsRecordUnderAs v view.front kept → kept.num ≤ last_number
  num_small kept rule = let within = rule.num in let low : kept.num ≤ count view.front kept.home = grind (arith, nat_tests, within) in omega (arith, low, rules.small kept.home)

  row_of : (row : Row) (kept : Record) → IsRecordUnderAs v view.front kept → row ≡ Int (pos kept.home) ∷ Int (pos kept.num) ∷ Blob (record_text_as v kept) ∷ [] → IsRowOf v view.front row kept
  row_of row kept rule shown =
      rw shown (record { key = record { home = number_back kept.home (home_small kept rule); num = number_back kept.num (num_small kept rule) }; body = refl; rules = rule })

  -- a listed row is that of a record of the view
  of_row : (row : Row) → Has rows row → IsOfRecord row
  of_row row has =
      let r = has_mapped lra_shown (db lra_tree) row (has_permuted (map lra_shown (db lra_tree)) rows row listed.each has) in
      let form = stands.formed.each r.0 r.1 in
      let it = (stands.lra form.home form.num form.body).0 (form.id, subst (Has (db lra_tree)) form.is r.1) in
      let rule = rules.records it.kept it.held in
      let num : form.num ≡ pos it.kept.num = it.numbered ∙ signed_is it.kept.num (num_small it.kept rule) in
      let shown : row ≡ Int (pos it.kept.home) ∷ Int (pos it.kept.num) ∷ Blob (record_text_as v it.kept) ∷ [] =
      r.2 ∙ ap lra_shown form.is ∙ ap (λ h. Int (pos h) ∷ Int form.num ∷ Blob form.body ∷ []) it.at_home ∙ ap (λ n. Int (pos it.kept.home) ∷ Int n ∷ Blob form.body ∷ []) num ∙ ap (λ b. Int (pos it.kept.home) ∷ Int (pos it.kept.num) ∷ Blob b ∷ []) it.encoded in
      record { kept = it.kept; is = row_of row it.kept rule shown }

  -- the records before it have lesser numbers
  in_order : (i place : ℕ) (row : Row) (kept other : Record) → i < place → slice_get rows place ≡ Some row → IsRowOf v view.front row kept → IsRowAt v view.front rows i other → other.home ≡ kept.home → other.num < kept.num
  in_order i place row kept other before there is at same =
      let less = Less-from_sorted (key_cmp 0 by_two) rows i place [] strict before (slice_get_within rows place row there) in
      let first = get_or_from_slice_get rows i at.row [] at.there in
      let second = get_or_from_slice_get rows place row [] there in
      let below : key_cmp 0 by_two at.row row ≡ Less = rw (first, second) at less in
      second_below at.row row kept.home other.num kept.num ((number_is _ _ at.is.key.home).0 ∙ ap (λ h. Int (pos h)) same) (number_is _ _ is.key.home).0 (number_is _ _ at.is.key.num).0 (number_is _ _ is.key.num).0 below

  pub record_right : (place : ℕ) → place < length rows → IsRecordRight v view.front rows place
  record_right place within =
      let there = slice_get-get_or rows place [] within in
      let it = of_row (get_or rows place []) (has_got rows place _ there) in
      record {
        kept = it.kept;
        here = record { row = get_or rows place []; there = there; is = it.is };
        order = λ i other before at same. in_order i place (get_or rows place []) it.kept other before there it.is at same;
      }
