-- Listed rows that are those of a view stand for it.
use Rattle.std.proofs.Common.{◌≡◌, ◌↔◌, inl, inr, ℕ, zero, suc, ◌-◌, ◌<◌, ◌≤◌, ℤ, pos, negsuc, Bool, true, false, cond, List, [], ◌∷◌, map, length, Some, None, nat_le, find, get_or, refl, sym, ap, subst, ◌∙◌, arith}
use Rattle.std.specs.Prelude.{slice_get}
use Rattle.std.specs.Int.{w64}
use Rattle.std.proofs.Math.Facts.{to_z_pos}
use Rattle.std.proofs.lemmas.Bool.{cases_lt}
use Rattle.std.proofs.lemmas.Bool.Decides.{nat_tests}
use Rattle.std.proofs.lemmas.List.Sorted.{IsPermutation-sym}
use Rattle.std.proofs.lemmas.Option.{slice_get_within}
use Rattle.sqlite.specs.declared.types.Value.{Value}
use Rattle.sqlite.specs.declared.types.Value.TheVariants.{Null, Int, Real, Text, Blob}
use Rattle.sqlite.specs.Order.{Row, column}
use Rattle.sqlite.specs.Tree.{Trees}
use Rattle.sqlite_rules.specs.Lists.{Has}
use Rattle.state_ids.specs.Ids.{last_number}
use Rattle.state_ids.specs.Fronts.{count}
use Rattle.state_facts.specs.Lists.{In}
use Rattle.state_forest.specs.declared.record.Record.{Record}
use Rattle.state_forest.specs.Forests.{AreOf, id_of, is_of}
use Rattle.state_forest.proofs.Bools.{all_in}
use Rattle.state_forest.proofs.MembersAndStamps.{find_in}
use Rattle.theory_history.specs.Views.{View, records_at}
use Rattle.wire_frames.specs.declared.version.Version.{Version}
use Rattle.wire_frames.specs.OneRecord.{IsRecordUnderAs}
use Rattle.wire_frames.specs.Encoding.{record_text_as}
use Rattle.wire_frames.specs.Versions.{version_mark}
use Rattle.state_journal.specs.Schema.{front_tree, lra_tree}
use Rattle.state_journal.specs.Tables.{front_row, lra_row, HasFront, HasLra, IsFormed, signed}
use Rattle.state_journal.specs.Listings.{AreFrontRows, AreLraRows, front_shown, lra_shown}
use Rattle.state_journal.specs.LraRows.{IsRowAt, IsRowOf}
use Rattle.state_journal.specs.FrontRows.{IsSaid, SaysOf, number_in}
use Rattle.state_journal.specs.Reads.{AreRowsOf}
use Rattle.state_journal.specs.Stands.{IsFrontOf, IsHeld, IsRecordOf, StandsAs}
use Rattle.state_journal.proofs.Members.{has_mapped, has_permuted, mapped_has}

-- ---- places of rows

record IsIn (rows : List Row) (x : Row) : Type 0 where
  pub place : ℕ
  pub there : slice_get rows place ≡ Some x

place_of : (rows : List Row) (x : Row) → Has rows x → IsIn rows x
place_of [] x h = absurd h
place_of (r ∷ rows) x (inl same) = record { place = 0; there = ap (λ y. Some y) (sym same) }
place_of (r ∷ rows) x (inr later) = let it = place_of rows x later in record { place = suc it.place; there = it.there }

has_place : (rows : List Row) (i : ℕ) (x : Row) → slice_get rows i ≡ Some x → Has rows x
has_place [] i x e = absurd cc
has_place (r ∷ rows) zero x e = let same : r ≡ x = cc in inl (sym same)
has_place (r ∷ rows) (suc i) x e = inr (has_place rows i x e)

-- ---- numbers

number_by : (b : Bool) (m n : ℕ) → nat_le m last_number ≡ b → cond b (Some m) None ≡ Some n → (m ≡ n) × (m ≤ last_number)
number_by true m n low e = (let same : m ≡ n = cc in same, grind (arith, nat_tests, low))
number_by false m n low e = absurd cc

pub number_is : (v : Value) (n : ℕ) → number_in v ≡ Some n → (v ≡ Int (pos n)) × (n ≤ last_number)
number_is Null n e = absurd cc
number_is (Int (pos m)) n e = let it = number_by (nat_le m last_number) m n refl e in (ap (λ k. Int (pos k)) it.0, omega (arith, it.0, it.1))
number_is (Int (negsuc m)) n e = absurd cc
number_is (Real x) n e = absurd cc
number_is (Text t) n e = absurd cc
number_is (Blob b) n e = absurd cc

int_is : (a b : ℤ) → ◌≡◌ {A = Value} (Int a) (Int b) → a ≡ b
int_is a b e = cc

pos_is : (a b : ℕ) → pos a ≡ pos b → a ≡ b
pos_is a b e = cc

blob_is : (a b : List ℕ) → ◌≡◌ {A = Value} (Blob a) (Blob b) → a ≡ b
blob_is a b e = cc

pub signed_is : (n : ℕ) → n ≤ last_number → signed n ≡ pos n
signed_is n low = to_z_pos w64 (omega (arith, low))

-- ---- the rows of `front`

module _ (v : Version) (me : ℕ) (db : Trees) (rows lra_rows : List Row) (view : View) (formed : IsFormed db) (listed : AreFrontRows db rows) (are : AreRowsOf v me rows lra_rows view) where
  -- a row of the table says what is listed at its place
  said_front : (place held purged o : ℕ) (h p : ℤ) → IsSaid rows place held purged → slice_get rows place ≡ Some (front_shown (front_row o h p)) → (o ≡ place) × (h ≡ pos held) × (p ≡ pos purged) × (held ≤ last_number) × (purged ≤ last_number)
  said_front place held purged o h p said there =
      let both = sym said.1 ∙ there in
      let same : said.0 ≡ front_shown (front_row o h p) = cc in
      let says = subst (λ r. SaysOf r place held purged) same said.2 in
      let a = number_is (Int (pos o)) _ says.key in
      let b = number_is (Int h) _ says.first in
      let c = number_is (Int p) _ says.second in
      (pos_is o place (int_is _ _ a.0), int_is _ _ b.0, int_is _ _ c.0, b.1, c.1)

  front_has : (o : ℕ) (h p : ℤ) → HasFront db o h p → IsFrontOf v me view o h p
  front_has o h p has =
      let shown = has_permuted rows (map front_shown (db front_tree)) _ (IsPermutation-sym _ _ listed.each) (mapped_has front_shown (db front_tree) _ has) in
      let it = place_of rows _ shown in
      at it.place it.there
    where
      at : (place : ℕ) → slice_get rows place ≡ Some (front_shown (front_row o h p)) → IsFrontOf v me view o h p
      at zero there = let is = said_front 0 me (version_mark v) o h p are.fronts.own there in subst (λ k. IsFrontOf v me view k h p) (sym is.0) (is.1, is.2)
      at (suc i) there =
          let within : suc i ≤ length view.front = omega (arith, slice_get_within rows (suc i) _ there, are.fronts.all) in
          let is = said_front (suc i) _ _ o h p (are.fronts.each (suc i) (omega arith) within) there in
          subst (λ k. IsFrontOf v me view k h p) (sym is.0) (within, is.1 ∙ sym (signed_is _ is.3), is.2 ∙ sym (signed_is _ is.4))

  row_had : (place held purged : ℕ) → IsSaid rows place held purged → HasFront db place (pos held) (pos purged)
  row_had place held purged said =
      let has = has_permuted (map front_shown (db front_tree)) rows said.0 listed.each (has_place rows place said.0 said.1) in
      let r = has_mapped front_shown (db front_tree) said.0 has in
      let form = formed.front.each r.0 r.1 in
      let there : slice_get rows place ≡ Some (front_shown (front_row form.origin form.held form.purged)) = said.1 ∙ ap (λ x. Some x) (r.2 ∙ ap front_shown form.is) in
      let is = said_front place held purged form.origin form.held form.purged said there in
      subst (Has (db front_tree)) (form.is ∙ ap (λ k. front_row k form.held form.purged) is.0 ∙ ap (λ k. front_row place k form.purged) is.1 ∙ ap (front_row place (pos held)) is.2) r.1

  has_front : (o : ℕ) (h p : ℤ) → IsFrontOf v me view o h p → HasFront db o h p
  has_front zero h p is = subst (λ k. HasFront db 0 h k) (sym is.1) (subst (λ k. HasFront db 0 k (pos (version_mark v))) (sym is.0) (row_had 0 me (version_mark v) are.fronts.own))
  has_front (suc i) h p is =
      let said = are.fronts.each (suc i) (omega arith) is.0 in
      let first = number_is (column said.0 1) _ said.2.first in
      let second = number_is (column said.0 2) _ said.2.second in
      let had = row_had (suc i) _ _ said in
      subst (λ k. HasFront db (suc i) h k) (sym (is.2 ∙ signed_is _ second.1)) (subst (λ k. HasFront db (suc i) k (pos (count view.purges (suc i)))) (sym (is.1 ∙ signed_is _ first.1)) had)

  pub front_stands : (o : ℕ) (h p : ℤ) → HasFront db o h p ↔ IsFrontOf v me view o h p
  front_stands o h p = (front_has o h p, has_front o h p)

-- ---- the rows of `lra`

-- the lookup of a record's LRA finds that record
pub found_in : (home : ℕ) (rs : List Record) (r : Record) → AreOf home rs → In r rs → find (is_of (record { home = home; num = r.num })) rs ≡ Some r
found_in home [] r h i = absurd i
found_in home (q ∷ rs) r h (inl same) =
    let own = h.homes.0 in
    let number : r.num ≡ q.num = ap (λ (x : Record). x.num) same in
    let there : is_of (record { home = home; num = r.num }) q ≡ true = grind (arith, nat_tests, own, number) in
    rw there (ap (λ x. Some x) (sym same))
found_in home (q ∷ rs) r h (inr i) =
    let after = all_in (λ x. q.num < x.num) rs h.ascending.0 r i in
    let other : is_of (record { home = home; num = r.num }) q ≡ false = grind (arith, nat_tests, after) in
    rw other (found_in home rs r (record { homes = h.homes.1; ascending = h.ascending.1 }) i)

none_past : (records : List (List Record)) (k : ℕ) → length records ≤ k → get_or records k [] ≡ []
none_past [] k low = refl
none_past (x ∷ xs) zero low = absurd (omega (arith, low))
none_past (x ∷ xs) (suc k) low = none_past xs k (omega (arith, low))

module _ (v : Version) (me : ℕ) (db : Trees) (front_rows rows : List Row) (view : View) (formed : IsFormed db) (listed : AreLraRows db rows) (are : AreRowsOf v me front_rows rows view) where
  kept_row : (place home : ℕ) (num id : ℤ) (body : List ℕ) (kept : Record) → IsRowAt v view.front rows place kept → slice_get rows place ≡ Some (lra_shown (lra_row id home num body)) → (home ≡ kept.home) × (num ≡ pos kept.num) × (kept.num ≤ last_number) × (body ≡ record_text_as v kept)
  kept_row place home num id body kept at there =
      let both = sym at.there ∙ there in
      let same : at.row ≡ lra_shown (lra_row id home num body) = cc in
      let is = subst (λ r. IsRowOf v view.front r kept) same at.is in
      let a = number_is (Int (pos home)) _ is.key.home in
      let b = number_is (Int num) _ is.key.num in
      (pos_is home kept.home (int_is _ _ a.0), int_is _ _ b.0, b.1, blob_is _ _ is.body)

  lra_has : (home : ℕ) (num : ℤ) (body : List ℕ) → HasLra db home num body → IsRecordOf v view home num body
  lra_has home num body has =
      let shown = has_permuted rows (map lra_shown (db lra_tree)) _ (IsPermutation-sym _ _ listed.each) (mapped_has lra_shown (db lra_tree) _ has.1) in
      let it = place_of rows _ shown in
      let within = slice_get_within rows it.place _ it.there in
      let right = are.records.right it.place within in
      let in_home = are.records.each it.place right.kept within right.here in
      let is = kept_row it.place home num has.0 body right.kept right.here it.there in
      record {
        kept = right.kept;
        held = found_in right.kept.home (records_at view.records right.kept.home) right.kept (order right.kept.home in_home.0 right.kept in_home.1) in_home.1;
        at_home = is.0;
        numbered = is.1 ∙ sym (signed_is right.kept.num is.2);
        encoded = is.3;
      }
    where
      order : (home : ℕ) → 1 ≤ home → (r : Record) → In r (records_at view.records home) → AreOf home (records_at view.records home)
      order home some r has = elim (cases_lt (length view.front) home) [
        | inl past ↦ absurd (subst (In r) (none_past view.records (home - 1) (omega (arith, are.homes, past, some))) has)
        | inr within ↦ are.order home some within
      ]

  row_of : (k : Record) → In k (records_at view.records k.home) → (i : ℕ) × (i < length rows) × (k.home ≡ k.home) × IsRowAt v view.front rows i k
  row_of k has = elim (cases_lt 0 k.home) [
    | inl some ↦ are.records.only k.home k some has
    | inr none ↦
        let first : k.home - 1 ≡ 1 - 1 = omega (arith, none) in
        let one = are.records.only 1 k (omega arith) (subst (λ j. In k (get_or view.records j [])) first has) in
        absurd (omega (arith, one.2, none))
  ]

  has_lra : (home : ℕ) (num : ℤ) (body : List ℕ) → IsRecordOf v view home num body → HasLra db home num body
  has_lra home num body is =
      let k = is.kept in
      let found = find_in (is_of (id_of k)) (records_at view.records k.home) k is.held in
      let it = row_of k found.0 in
      let has = has_permuted (map lra_shown (db lra_tree)) rows it.3.row listed.each (has_place rows it.0 it.3.row it.3.there) in
      let r = has_mapped lra_shown (db lra_tree) it.3.row has in
      let form = formed.each r.0 r.1 in
      let there : slice_get rows it.0 ≡ Some (lra_shown (lra_row form.id form.home form.num form.body)) = it.3.there ∙ ap (λ x. Some x) (r.2 ∙ ap lra_shown form.is) in
      let says = kept_row it.0 form.home form.num form.id form.body k it.3 there in
      (form.id, subst (Has (db lra_tree)) (form.is ∙ ap (λ h. lra_row form.id h form.num form.body) (says.0 ∙ sym is.at_home) ∙ ap (λ n. lra_row form.id home n form.body) (says.1 ∙ sym (signed_is k.num says.2) ∙ sym is.numbered) ∙ ap (lra_row form.id home num) (says.3 ∙ sym is.encoded)) r.1)

  pub lra_stands : (home : ℕ) (num : ℤ) (body : List ℕ) → HasLra db home num body ↔ IsRecordOf v view home num body
  lra_stands home num body = (lra_has home num body, has_lra home num body)

  pub ruled : (r : Record) → IsHeld view r → IsRecordUnderAs v view.front r
  ruled r held = let found = find_in (is_of (id_of r)) (records_at view.records r.home) r held in (row_of r found.0).3.is.rules

  pub rows_stand : AreFrontRows db front_rows → StandsAs v me db view
  rows_stand fronts = record {
    formed = formed;
    whole = record { purges = are.fronts.nodes; homes = are.homes; order = are.order; numbers = λ r held. (ruled r held).wide };
    front = front_stands v me db front_rows rows view formed fronts are;
    lra = lra_stands;
  }
