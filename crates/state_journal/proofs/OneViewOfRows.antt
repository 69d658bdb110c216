-- Rows stand for one view of a node.
use Rattle.std.proofs.Common.{◌≡◌, ℕ, ◌+◌, ◌-◌, ◌<◌, ◌++◌, List, [], Option, Some, None, length, get_or, true, refl, sym, ap, subst, ◌∙◌, arith}
use Rattle.std.proofs.lemmas.Bool.Decides.{nat_tests}
use Rattle.std.proofs.lemmas.Grind.{same_number_lists}
use Rattle.sqlite.specs.Order.{Row}
use Rattle.sqlite.specs.Tree.{Trees}
use Rattle.state_ids.specs.Ids.{Id}
use Rattle.state_forest.specs.declared.record.Record.{Record}
use Rattle.state_forest.specs.Forests.{id_of, is_of}
use Rattle.state_forest.proofs.MembersAndStamps.{find_in}
use Rattle.state_forest.proofs.OneListOfRecords.{same_records}
use Rattle.theory_history.specs.Views.{View, record_at, records_at}
use Rattle.theory_history.proofs.OneViewOfASet.{same_homes, same_views}
use Rattle.wire_frames.specs.declared.version.Version.{Version}
use Rattle.wire_frames.specs.declared.version.Version.TheVariants.{One, Two}
use Rattle.wire_frames.specs.OneRecord.{IsRecordUnderAs}
use Rattle.wire_frames.specs.Encoding.{record_text_as}
use Rattle.wire_frames.specs.Versions.{version_mark}
use Rattle.wire_frames.proofs.FrameCodes.{one_record}
use Rattle.state_journal.specs.FrontRows.{AreFronts, IsSaid, SaysOf}
use Rattle.state_journal.specs.Stands.{IsHeld, StandsAs}
use Rattle.state_journal.specs.Tables.{signed, HasLra}

-- ---- the counts

pub one_said : (rows : List Row) (n held purged held' purged' : ℕ) → IsSaid rows n held purged → IsSaid rows n held' purged' → (held ≡ held') × (purged ≡ purged')
one_said rows n held purged held' purged' a b =
    let both = sym a.1 ∙ b.1 in
    let row : a.0 ≡ b.0 = cc in
    let says = subst (λ r. SaysOf r n held purged) row a.2 in
    let first = sym says.first ∙ b.2.first in
    let second = sym says.second ∙ b.2.second in
    (cc, cc)

-- two versions with the same number are the same
pub same_mark : (v w : Version) → version_mark v ≡ version_mark w → v ≡ w
same_mark One One e = refl
same_mark Two Two e = refl
same_mark One Two e = absurd (omega (arith, e))
same_mark Two One e = absurd (omega (arith, e))

-- the first row tells only one version
pub one_version : (v w : Version) (me : ℕ) (rows : List Row) (front purges front' purges' : List ℕ) → AreFronts v me rows front purges → AreFronts w me rows front' purges' → v ≡ w
one_version v w me rows front purges front' purges' left right = same_mark v w (one_said rows 0 me (version_mark v) me (version_mark w) left.own right.own).1

module _ (v w : Version) (me : ℕ) (rows : List Row) (front purges front' purges' : List ℕ) (left : AreFronts v me rows front purges) (right : AreFronts w me rows front' purges') (nodes : length front ≡ length front') where
  one_at : (k : ℕ) → k < length front → (get_or front k 0 ≡ get_or front' k 0) × (get_or purges k 0 ≡ get_or purges' k 0)
  one_at k within =
      let back : k + 1 - 1 ≡ k = omega arith in
      let both = one_said rows (k + 1) _ _ _ _ (left.each (k + 1) (omega arith) (omega (arith, within))) (right.each (k + 1) (omega arith) (omega (arith, within, nodes))) in
      (rw back at both.0, rw back at both.1)

  pub one_front : front ≡ front'
  one_front = same_number_lists front front' nodes (λ k within. (one_at k within).0)

  pub one_purges : purges ≡ purges'
  one_purges = same_number_lists purges purges' (left.nodes ∙ nodes ∙ sym right.nodes) (λ k within. (one_at k (omega (arith, within, left.nodes))).1)

-- ---- the records

abbrev AreUnder : Version → List ℕ → View → Type 0
AreUnder v front view = (r : Record) → IsHeld view r → IsRecordUnderAs v front r

-- a record of one view is one of the other
carried : (v : Version) (me : ℕ) (db : Trees) (front : List ℕ) (a b : View) → StandsAs v me db a → StandsAs v me db b → AreUnder v front a → AreUnder v front b → (r : Record) → IsHeld a r → IsHeld b r
carried v me db front a b left right under_a under_b r held =
    let has : HasLra db r.home (signed r.num) (record_text_as v r) = (left.lra r.home (signed r.num) (record_text_as v r)).1 (record { kept = r; held = held; at_home = refl; numbered = refl; encoded = refl }) in
    let it = (right.lra r.home (signed r.num) (record_text_as v r)).0 has in
    let same = one_record v front r it.kept [] [] (under_a r held) (under_b it.kept it.held) (ap (λ bytes. bytes ++ []) it.encoded) in
    subst (IsHeld b) (sym same.0) it.held

home_is : (l : Id) (r : Record) → is_of l r ≡ true → r.home ≡ l.home
home_is l r is = grind (arith, nat_tests, is)

num_is : (l : Id) (r : Record) → is_of l r ≡ true → r.num ≡ l.num
num_is l r is = grind (arith, nat_tests, is)

id_is : (l : Id) (r : Record) → r.home ≡ l.home → r.num ≡ l.num → id_of r ≡ l
id_is l r home num = ap (λ h. record { home = h; num = r.num }) home ∙ ap (λ (n : ℕ). record { home = l.home; num = n }) num

-- so each LRA that has a record in one view has it in the other
carried_at : (a b : View) → ((r : Record) → IsHeld a r → IsHeld b r) → (l : Id) (r : Record) → record_at a l ≡ Some r → record_at b l ≡ Some r
carried_at a b carries l r found =
    let is = (find_in (is_of l) (records_at a.records l.home) r found).1 in
    let own = id_is l r (home_is l r is) (num_is l r is) in
    subst (λ k. record_at b k ≡ Some r) own (carries r (subst (λ k. record_at a k ≡ Some r) (sym own) found))

same_option : (x y : Option Record) → ((r : Record) → x ≡ Some r → y ≡ Some r) → ((r : Record) → y ≡ Some r → x ≡ Some r) → x ≡ y
same_option None None f g = refl
same_option None (Some r) f g = g r refl
same_option (Some r) y f g = sym (f r refl)

-- rows stand for one view only, if records keep the rules under its front
pub one_view : (v : Version) (me : ℕ) (db : Trees) (a b : View) → a.front ≡ b.front → a.purges ≡ b.purges → StandsAs v me db a → StandsAs v me db b
    → ((r : Record) → IsHeld a r → IsRecordUnderAs v a.front r) → ((r : Record) → IsHeld b r → IsRecordUnderAs v b.front r) → a ≡ b
one_view v me db a b fronts purges left right under_a under_b =
    let under : AreUnder v a.front b = subst (λ front. AreUnder v front b) (sym fronts) under_b in
    let there = carried v me db a.front a b left right under_a under in
    let back = carried v me db a.front b a right left under under_a in
    let long = ap length fronts in
    same_views a b fronts purges (same_homes (length a.front) a.records b.records left.whole.homes (right.whole.homes ∙ sym long) (λ home some high.
    let own = left.whole.order home some high in
    let other = right.whole.order home some (omega (arith, high, long)) in
    same_records home (records_at a.records home) (records_at b.records home) own.homes other.homes own.ascending other.ascending (λ num.
    let l : Id = record { home = home; num = num } in same_option (record_at a l) (record_at b l) (carried_at a b there l) (carried_at b a back l))))
