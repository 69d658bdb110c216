-- Rows stand for at most one view that keeps the rules of a frame, and every view of a lawful
-- history keeps those rules.
use Rattle.std.proofs.Common.{◌≡◌, inl, inr, ℕ, zero, suc, ◌+◌, ◌-◌, ◌<◌, ◌≤◌, ◌^◌, pos, List, [], get_or, length, refl, replicate, sym, subst, ◌∙◌, arith}
use Rattle.std.specs.Int.{w64}
use Rattle.std.proofs.Math.Facts.{to_z_pos}
use Rattle.std.proofs.lemmas.Bool.{cases_lt}
use Rattle.std.proofs.lemmas.Grind.{same_number_lists}
use Rattle.std.proofs.lemmas.List.{get_or_past, length-replicate}
use Rattle.sqlite.specs.Tree.{Trees}
use Rattle.state_ids.specs.Fronts.{IsBelow, count}
use Rattle.state_facts.specs.Lists.{In}
use Rattle.state_forest.specs.declared.record.Record.{Record}
use Rattle.state_forest.specs.Forests.{id_of, is_of}
use Rattle.state_forest.proofs.Bools.{all_in}
use Rattle.state_forest.proofs.MembersAndStamps.{find_in}
use Rattle.theory_history.specs.Histories.{History, IsClosed, IsLawful, facts}
use Rattle.theory_history.specs.Views.{StandsFor, View, records_at}
use Rattle.theory_history.specs.ViewShape.{HasShape}
use Rattle.wire_frames.specs.declared.version.Version.{Version}
use Rattle.wire_frames.specs.declared.version.Version.TheVariants.{One}
use Rattle.wire_frames.specs.Frames.{frame_of}
use Rattle.wire_frames.specs.Versions.{version_mark}
use Rattle.wire_frames.specs.Grammar.{IsOfGrammar}
use Rattle.wire_frames.specs.OneRecord.{IsRecordUnder, KeepsRulesUnder}
use Rattle.wire_frames.specs.Typed.{IsTypedRecord}
use Rattle.state_journal.specs.Ruled.{AreTyped, KeepsRules, KeepsRulesAs}
use Rattle.state_journal.specs.NewStores.{IsRewritten}
use Rattle.state_journal.specs.Stands.{IsHeld, Stands, StandsAs}
use Rattle.state_journal.specs.Tables.{HasFront, signed}
use Rattle.state_journal.proofs.OneViewOfRows.{one_view, same_mark}
use Rattle.state_journal.proofs.ToldViews.{no_count}

-- ---- one version

pos_is : (a b : ℕ) → pos a ≡ pos b → a ≡ b
pos_is a b e = cc

pub rows_of_one_version : (v w : Version) (me : ℕ) (db : Trees) (a b : View) → StandsAs v me db a → StandsAs w me db b → v ≡ w
rows_of_one_version v w me db a b left right =
    let has : HasFront db 0 (pos me) (pos (version_mark v)) = (left.front 0 _ _).1 (refl, refl) in
    same_mark v w (pos_is _ _ ((right.front 0 _ _).0 has).1)

-- ---- one view

signed_is : (n : ℕ) → n < 2 ^ 48 → signed n ≡ pos n
signed_is n low = to_z_pos w64 (omega (arith, low))

one_signed : (m n : ℕ) → m < 2 ^ 48 → n < 2 ^ 48 → signed m ≡ signed n → m ≡ n
one_signed m n low other same = let both : pos m ≡ pos n = sym (signed_is m low) ∙ same ∙ signed_is n other in cc

low_purge : (v : Version) (view : View) → KeepsRulesAs v view → (node : ℕ) → count view.purges node < 2 ^ 48
low_purge v view rules node = let below = rules.shape.purges node in let low = rules.small node in omega (arith, below, low)

record IsCountedIn (a b : View) (i : ℕ) : Type 0 where
  pub high : i < length b.front
  pub held : get_or a.front i 0 ≡ get_or b.front i 0
  pub purged : get_or a.purges i 0 ≡ get_or b.purges i 0

module _ (v : Version) (me : ℕ) (db : Trees) (a b : View) (left : StandsAs v me db a) (right : StandsAs v me db b) (rules : KeepsRulesAs v a) (others : KeepsRulesAs v b) where
  counted_in : (i : ℕ) → i < length a.front → IsCountedIn a b i
  counted_in i within =
      let has : HasFront db (suc i) (signed (count a.front (suc i))) (signed (count a.purges (suc i))) = (left.front (suc i) _ _).1 (omega (arith, within), refl, refl) in
      let is = (right.front (suc i) _ _).0 has in
      let back : suc i - 1 ≡ i = omega arith in
      let held : count a.front (suc i) ≡ count b.front (suc i) = one_signed _ _ (rules.small (suc i)) (others.small (suc i)) is.1 in
      let purged : count a.purges (suc i) ≡ count b.purges (suc i) = one_signed _ _ (low_purge v a rules (suc i)) (low_purge v b others (suc i)) is.2 in
      record { high = omega (arith, is.0); held = rw back at held; purged = rw back at purged }

  no_more : length a.front ≤ length b.front
  no_more = by (length a.front) refl
    where
      by : (n : ℕ) → length a.front ≡ n → n ≤ length b.front
      by zero is = omega arith
      by (suc n) is = let it = counted_in n (omega (arith, is)) in omega (arith, it.high)

pub one_ruled_view : (v : Version) (me : ℕ) (db : Trees) (a b : View) → StandsAs v me db a → StandsAs v me db b → KeepsRulesAs v a → KeepsRulesAs v b → a ≡ b
one_ruled_view v me db a b left right rules others =
    let first = no_more v me db a b left right rules others in
    let second = no_more v me db b a right left others rules in
    let long : length a.front ≡ length b.front = omega (arith, first, second) in
    let fronts = same_number_lists a.front b.front long (λ k within. (counted_in v me db a b left right rules others k within).held) in
    let size = left.whole.purges in
    let purges = same_number_lists a.purges b.purges (size ∙ long ∙ sym right.whole.purges) (λ k within. (counted_in v me db a b left right rules others k (omega (arith, within, size))).purged) in
    one_view v me db a b fronts purges left right rules.records others.records

pub rewritten_stands : (me : ℕ) (old new : Trees) (view : View) → StandsAs One me old view → KeepsRulesAs One view → IsRewritten me old new → Stands me new view
rewritten_stands me old new view stands rules did =
    subst (λ (a : View). Stands me new a) (one_ruled_view One me old did.view view did.before stands did.rules rules) did.after

-- ---- the views of a history

record IsAtHome (view : View) (r : Record) : Type 0 where
  pub some : 1 ≤ r.home
  pub high : r.home ≤ length view.front
  pub there : In r (records_at view.records r.home)

at_home : (S : _) (view : View) → StandsFor S view → (r : Record) → IsHeld view r → IsAtHome view r
at_home S view stands r held =
    let found = find_in (is_of (id_of r)) (records_at view.records r.home) r held in
    elim (cases_lt (r.home - 1) (length view.front)) [
      | inl within ↦
          let back : r.home - 1 + 1 - 1 ≡ r.home - 1 = omega arith in
          let order = (stands.records (r.home - 1 + 1) (omega arith) (omega (arith, within))).order in
          let own : r.home ≡ r.home - 1 + 1 = all_in _ _ order.homes r (subst (λ k. In r (get_or view.records k [])) (sym back) found.0) in
          record { some = omega (arith, own); high = omega (arith, own, within); there = found.0 }
      | inr past ↦
          let none : records_at view.records r.home ≡ [] = get_or_past view.records (r.home - 1) [] (omega (arith, past, stands.homes)) in
          absurd (rw none at found.0)
    ]

module _ (grammar : (h : History) (w base : List ℕ) (view : View) → IsLawful h → IsClosed h w → StandsFor (facts h w) view → length base ≡ length view.front → IsBelow base view.front → IsOfGrammar (frame_of view base))
    (fit : (h : History) (w : List ℕ) (view : View) (home : ℕ) (kept : Record) → IsLawful h → IsClosed h w → StandsFor (facts h w) view → length view.front ≤ 8 → 1 ≤ home → home ≤ length view.front
    → In kept (records_at view.records home) → KeepsRulesUnder view.front kept)
    (typed_rules : (front : List ℕ) (kept : Record) → IsTypedRecord kept → KeepsRulesUnder front kept → IsRecordUnder front kept)
    (shaped : (h : History) (v : List ℕ) (view : View) → IsLawful h → IsClosed h v → StandsFor (facts h v) view → HasShape view) where
  pub history_rules : (h : History) (v : List ℕ) (view : View) → IsLawful h → IsClosed h v → StandsFor (facts h v) view → length view.front ≤ 8 → AreTyped view → KeepsRules view
  history_rules h v view law closed stands few typed =
      let base = replicate (length view.front) 0 in
      let well = grammar h v base view law closed stands (length-replicate (length view.front) 0) (λ node. let none = no_count (length view.front) (node - 1) in omega (arith, none)) in
      record {
        few = few;
        small = well.small;
        records = λ r held.
            let it = at_home (facts h v) view stands r held in
            typed_rules view.front r (typed r held) (fit h v view r.home r law closed stands few it.some it.high it.there);
        shape = shaped h v view law closed stands;
      }
