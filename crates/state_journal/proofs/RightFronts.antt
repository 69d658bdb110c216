-- The listed rows of `front` are right, if they stand for a view that keeps the rules.
use Rattle.std.proofs.Common.{◌≡◌, ℕ, zero, suc, ◌+◌, ◌<◌, ◌≤◌, ℤ, pos, negsuc, List, map, length, refl, ap, subst, ◌∙◌, arith, is_eq, Less, Equal}
use Rattle.std.specs.Ordering.{ordering_then}
use Rattle.std.specs.List.Sorted.{IsStrictlySortedBy}
use Rattle.std.proofs.lemmas.List.Sorted.{IsPermutation-sym}
use Rattle.std.proofs.lemmas.Option.{slice_get_past}
use Rattle.sqlite.specs.declared.types.Value.{Value}
use Rattle.sqlite.specs.declared.types.Value.TheVariants.{Null, Int, Real, Text, Blob}
use Rattle.sqlite.specs.Order.{Row, column, value_cmp}
use Rattle.sqlite.specs.Query.{key_cmp}
use Rattle.sqlite.specs.Tree.{Trees, IsAscending, rowid}
use Rattle.sqlite_rules.specs.Lists.{Has}
use Rattle.sqlite_sql.proofs.QueryLemmas.{key_cmp_total}
use Rattle.state_ids.specs.Ids.{last_number}
use Rattle.state_ids.specs.Fronts.{count}
use Rattle.theory_history.specs.Views.{View}
use Rattle.wire_frames.specs.declared.version.Version.{Version}
use Rattle.wire_frames.specs.declared.version.Version.TheVariants.{One, Two}
use Rattle.wire_frames.specs.Versions.{version_mark}
use Rattle.state_journal.specs.Schema.{front_tree}
use Rattle.state_journal.specs.Tables.{front_row, HasFront, signed}
use Rattle.state_journal.specs.Listings.{AreFrontRows, front_shown}
use Rattle.state_journal.specs.FrontRows.{AreFronts, IsFrontRight, IsSaid}
use Rattle.state_journal.specs.Ruled.{AreTables, KeepsRulesAs}
use Rattle.state_journal.specs.Stands.{IsFrontOf, StandsAs}
use Rattle.state_journal.proofs.KeptNumbers.{by_one, int_below, number_back, then_less}
use Rattle.state_journal.proofs.Members.{has_mapped, has_permuted, mapped_has}
use Rattle.state_journal.proofs.Numbered.{AreNumberedFrom, IsWith, at_place, count_is}
use Rattle.state_journal.proofs.Rising.{ascends, distinct_shown, rises}
use Rattle.state_journal.proofs.RowsStand.{signed_is}

-- the number in a column, if it has one
abbrev number_of : Value → ℕ
number_of Null = 0
number_of (Int (pos n)) = n
number_of (Int (negsuc n)) = 0
number_of (Real x) = 0
number_of (Text t) = 0
number_of (Blob b) = 0

abbrev origin_of : Row → ℕ
origin_of cells = number_of (column cells 0)

mark_small : (v : Version) → version_mark v ≤ 2
mark_small One = omega arith
mark_small Two = omega arith

module _ (v : Version) (me : ℕ) (db : Trees) (rows : List Row) (view : View) (low : me ≤ 8) (tables : AreTables db) (stands : StandsAs v me db view) (rules : KeepsRulesAs v view) (listed : AreFrontRows db rows) where
  -- a listed row shows a row of the table
  record IsOf (row : Row) : Type 0 where
    pub origin : ℕ
    pub held : ℤ
    pub purged : ℤ
    pub is : row ≡ front_shown (front_row origin held purged)
    pub has : HasFront db origin held purged

  of_row : (row : Row) → Has rows row → IsOf row
  of_row row has =
      let r = has_mapped front_shown (db front_tree) row (has_permuted (map front_shown (db front_tree)) rows row listed.each has) in
      let form = stands.formed.front.each r.0 r.1 in
      record { origin = form.origin; held = form.held; purged = form.purged; is = r.2 ∙ ap front_shown form.is; has = subst (Has (db front_tree)) form.is r.1 }

  strict : IsStrictlySortedBy (key_cmp 0 by_one) rows
  strict =
      let total = key_cmp_total by_one 0 in
      rises (key_cmp 0 by_one) total (map front_shown (db front_tree)) rows
      (distinct_shown (key_cmp 0 by_one) total (λ a b. value_cmp (rowid a) (rowid b) ≡ Less) front_shown (db front_tree) tables.front (λ a b p q less. ap (λ o. is_eq (ordering_then o Equal)) less))
      listed.each listed.order

  rise : IsAscending (λ a b. origin_of a < origin_of b) rows
  rise = ascends (key_cmp 0 by_one) (key_cmp_total by_one 0) (λ a b. origin_of a < origin_of b) rows strict (λ a b p q less.
      let u = of_row a p in
      let w = of_row b q in
      rw (u.is, w.is) (int_below u.origin w.origin (then_less _ (rw (u.is, w.is) at less))))

  -- each origin from 0 up to the number of nodes has its row
  has_origin : (n : ℕ) → n ≤ length view.front → (held : ℤ) × (purged : ℤ) × HasFront db n held purged
  has_origin zero within = (pos me, pos (version_mark v), (stands.front 0 (pos me) (pos (version_mark v))).1 (refl, refl))
  has_origin (suc i) within =
      let held = signed (count view.front (suc i)) in
      let purged = signed (count view.purges (suc i)) in
      (held, purged, (stands.front (suc i) held purged).1 (within, refl, refl))

  row_of : (n : ℕ) → n ≤ length view.front → IsWith origin_of rows n
  row_of n within =
      let it = has_origin n within in
      record {
        x = front_shown (front_row n it.0 it.1);
        has = has_permuted rows (map front_shown (db front_tree)) _ (IsPermutation-sym _ _ listed.each) (mapped_has front_shown (db front_tree) _ it.2);
        is = refl;
      }

  origin_small : (o : ℕ) (h p : ℤ) → IsFrontOf v me view o h p → o ≤ length view.front
  origin_small zero h p is = omega arith
  origin_small (suc i) h p is = is.0

  numbered : AreNumberedFrom origin_of 0 (length view.front + 1) rows
  numbered = record {
    rise = rise;
    within = λ row has.
        let u = of_row row has in
        let small = origin_small u.origin u.held u.purged ((stands.front u.origin u.held u.purged).0 u.has) in
        (omega arith, rw u.is (omega (arith, small)));
    each = λ n above within. row_of n (omega (arith, within));
  }

  -- the row of an origin is listed at its place
  said_at : (n held purged : ℕ) → n ≤ length view.front → held ≤ last_number → purged ≤ last_number → ((h p : ℤ) → IsFrontOf v me view n h p → (h ≡ pos held) × (p ≡ pos purged)) → IsSaid rows n held purged
  said_at n held purged within first second says =
      let it = at_place origin_of 0 (length view.front + 1) rows numbered n (omega (arith, within)) in
      let u = of_row it.x it.has in
      let own : u.origin ≡ n = omega (arith, it.is, ap origin_of u.is) in
      let is = says u.held u.purged (subst (λ o. IsFrontOf v me view o u.held u.purged) own ((stands.front u.origin u.held u.purged).0 u.has)) in
      let row : it.x ≡ front_shown (front_row n (pos held) (pos purged)) =
      u.is ∙ ap (λ o. front_shown (front_row o u.held u.purged)) own ∙ ap (λ h. front_shown (front_row n h u.purged)) is.0 ∙ ap (λ p. front_shown (front_row n (pos held) p)) is.1 in
      (it.x, it.there, rw row (record { key = number_back n (omega (arith, within, rules.few)); first = number_back held first; second = number_back purged second }))

  count_small : (node : ℕ) → count view.front node ≤ last_number
  count_small node = omega (arith, rules.small node)

  purge_small : (node : ℕ) → count view.purges node ≤ last_number
  purge_small node = omega (arith, rules.small node, rules.shape.purges node)

  said_of : (node : ℕ) → 1 ≤ node → node ≤ length view.front → IsSaid rows node (count view.front node) (count view.purges node)
  said_of zero some within = absurd (omega (arith, some))
  said_of (suc i) some within =
      said_at (suc i) _ _ within (count_small (suc i)) (purge_small (suc i)) (λ h p is. (is.1 ∙ signed_is _ (count_small (suc i)), is.2 ∙ signed_is _ (purge_small (suc i))))

  pub fronts_right : AreFronts v me rows view.front view.purges
  fronts_right = record {
    own = said_at 0 me (version_mark v) (omega arith) (omega (arith, low)) (omega (arith, mark_small v)) (λ h p is. is);
    nodes = stands.whole.purges;
    each = said_of;
    all = count_is origin_of 0 (length view.front + 1) rows numbered;
  }

-- if the rows are those of the nodes, they are right at each place
pub right_at : (v : Version) (me : ℕ) (rows : List Row) (front purges : List ℕ) → AreFronts v me rows front purges → (place : ℕ) → IsFrontRight me (length front) rows place
right_at v me rows front purges are place = record {
  own = λ first. (v, are.own);
  of_node = λ some within. (count front place, count purges place, are.each place some within);
  no_more = λ past. slice_get_past rows place (omega (arith, past, are.all));
}
