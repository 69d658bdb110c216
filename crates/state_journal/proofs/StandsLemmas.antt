-- Rows that stand for a view, after a patch was applied to them.
use Rattle.std.proofs.Common.{◌≡◌, ◌≤◌, ◌<◌, ◌^◌, ◌==◌, ◌⊎◌, ◌↔◌, inl, inr, ℕ, zero, suc, ℤ, List, [], ◌∷◌, refl, sym, ap, subst, ◌∙◌, Bool, true, false, cond, arith, Option, Some, None, length, option_map, is_eq, w64}
use Rattle.std.specs.List.{AllByRecursion}
use Rattle.std.proofs.lemmas.Bool.{true≢false}
use Rattle.std.proofs.Math.Facts.{to_z_inj}
use Rattle.sqlite.specs.declared.types.Value.TheVariants.{Int}
use Rattle.sqlite.specs.Order.{value_cmp}
use Rattle.sqlite.specs.Tree.{Trees}
use Rattle.sqlite_rules.specs.Lists.{Has}
use Rattle.state_ids.specs.Ids.{Id, same_id}
use Rattle.state_forest.specs.declared.record.Record.{Record}
use Rattle.state_forest.specs.Forests.{id_of}
use Rattle.state_forest.proofs.NumberedMembers.{same_self}
use Rattle.theory_history.specs.Views.{View, record_at}
use Rattle.theory_history.specs.Changes.{Change, patched, put_at_home, put_each, remove_at_home, remove_each}
use Rattle.theory_history.proofs.Basics.{at_most, equal_from, equal_itself}
use Rattle.wire_frames.specs.declared.version.Version.TheVariants.{Two}
use Rattle.wire_frames.specs.Encoding.{record_text}
use Rattle.state_journal.specs.Tables.{signed, front_row, lra_row, HasFront, HasLra, IsKey, SetsLra, SetsFronts}
use Rattle.state_journal.specs.Turns.{InTurn}
use Rattle.state_journal.specs.Stands.{IsFrontOf, IsRecordOf, Stands, IsPatchOf, RemovesRecord, PutsRecord, Patches}
use Rattle.state_journal.proofs.ChangedViews.{ChangesRecord, held_home, put_changed, remove_changed, same_home, same_num, same_from}
use Rattle.state_journal.proofs.LraDelete.{tied_int, int_tied}

pub signed_same : (a b : ℕ) → a < 2 ^ 64 → b < 2 ^ 64 → signed a ≡ signed b → a ≡ b
signed_same a b fa fb same = to_z_inj {w = w64} (record { fits = fa }) (record { fits = fb }) same

pub key_or_not : (h home : ℕ) (n num : ℤ) → IsKey home num h n ⊎ ¬ IsKey home num h n
key_or_not h home n num = by (h == home) refl (is_eq (value_cmp (Int n) (Int num))) refl
  where
    by : (a : Bool) → (h == home) ≡ a → (b : Bool) → is_eq (value_cmp (Int n) (Int num)) ≡ b → IsKey home num h n ⊎ ¬ IsKey home num h n
    by true e true f = inl (equal_from h home e, tied_int n num f)
    by true e false f = inr (λ k. true≢false (sym (int_tied n num k.1) ∙ f))
    by false e b f = inr (λ k. true≢false (sym (ap (λ a. a == home) k.0 ∙ equal_itself home) ∙ e))

-- one row is set, and one record of the view changes
module _ (me : ℕ) (db next : Trees) (view : View) (l : Id) (value : Option Record) (homes : List (List Record)) (some : 1 ≤ l.home) (small : l.num < 2 ^ 64)
    (stands : Stands me db view) (changes : ChangesRecord l value view homes) (sets : SetsLra l.home (signed l.num) (option_map record_text value) db next) where
  abbrev after : View
  after = record view { records = homes }

  moved : (h k : ℕ) (n m : ℤ) (b c : List ℕ) → h ≡ k → n ≡ m → b ≡ c → HasLra next h n b → HasLra next k m c
  moved h k n m b c p q r has = subst (λ k. HasLra next k m c) p (subst (λ m. HasLra next h m c) q (subst (HasLra next h n) r has))

  here : (h : ℕ) (n : ℤ) (b : List ℕ) → IsKey l.home (signed l.num) h n → (v : Option Record) → value ≡ v → option_map record_text v ≡ Some b → IsRecordOf Two after h n b
  here h n b key None e is = absurd (cc)
  here h n b key (Some r) e is =
      let own : id_of r ≡ l = changes.own r e in
      let at = changes.at (id_of r) (subst (λ (x : Id). 1 ≤ x.home) (sym own) some) in
      let same : same_id l (id_of r) ≡ true = ap (same_id l) own ∙ same_self l in
      record {
        kept = r;
        held = at ∙ ap (λ t. cond t value (record_at view (id_of r))) same ∙ e;
        at_home = key.0 ∙ ap (λ (x : Id). x.home) (sym own);
        numbered = key.1 ∙ ap (λ (x : Id). signed x.num) (sym own);
        encoded = cc;
      }

  elsewhere : (h : ℕ) (n : ℤ) (b : List ℕ) → ¬ IsKey l.home (signed l.num) h n → IsRecordOf Two view h n b → IsRecordOf Two after h n b
  elsewhere h n b other it =
      let x = id_of it.kept in
      let first = (held_home view stands.whole.homes stands.whole.order it.kept it.held).0 in
      let apart : same_id l x ≡ true → ⊥ = λ e. other (it.at_home ∙ sym (same_home l x e), it.numbered ∙ ap signed (sym (same_num l x e))) in
      record { kept = it.kept; held = changes.at x first ∙ by (same_id l x) refl apart ∙ it.held; at_home = it.at_home; numbered = it.numbered; encoded = it.encoded }
    where
      by : (t : Bool) → same_id l (id_of it.kept) ≡ t → (same_id l (id_of it.kept) ≡ true → ⊥) → cond t value (record_at view (id_of it.kept)) ≡ record_at view (id_of it.kept)
      by true e apart = absurd (apart e)
      by false e apart = refl

  row_of : (h : ℕ) (n : ℤ) (b : List ℕ) → HasLra next h n b → IsRecordOf Two after h n b
  row_of h n b has = elim (key_or_not h l.home n (signed l.num)) [
    | inl key ↦ here h n b key value refl ((sets.there b).0 (moved h l.home n (signed l.num) b b key.0 key.1 refl has))
    | inr other ↦ elsewhere h n b other ((stands.lra h n b).0 ((sets.others h n b other).0 has))
  ]

  of_row : (h : ℕ) (n : ℤ) (b : List ℕ) → IsRecordOf Two after h n b → HasLra next h n b
  of_row h n b it =
      let x = id_of it.kept in
      let first = (held_home after changes.whole.homes changes.whole.order it.kept it.held).0 in
      by (same_id l x) refl (sym (changes.at x first) ∙ it.held)
    where
      by : (t : Bool) → same_id l (id_of it.kept) ≡ t → cond t value (record_at view (id_of it.kept)) ≡ Some it.kept → HasLra next h n b
      by true e is =
          let has : HasLra next l.home (signed l.num) (record_text it.kept) = (sets.there (record_text it.kept)).1 (ap (option_map record_text) is) in
          moved l.home h (signed l.num) n (record_text it.kept) b (same_home l (id_of it.kept) e ∙ sym it.at_home) (ap signed (same_num l (id_of it.kept) e) ∙ sym it.numbered) (sym it.encoded) has
      by false e is =
          let other : ¬ IsKey l.home (signed l.num) h n = λ key.
          let home : l.home ≡ it.kept.home = sym key.0 ∙ it.at_home in
          let num : l.num ≡ it.kept.num = signed_same l.num it.kept.num small (stands.whole.numbers it.kept is) (sym key.1 ∙ it.numbered) in
          true≢false (sym (same_from l (id_of it.kept) home num) ∙ e) in
          (sets.others h n b other).1 ((stands.lra h n b).1 (record { kept = it.kept; held = is; at_home = it.at_home; numbered = it.numbered; encoded = it.encoded }))

  same_front : (o : ℕ) (h p : ℤ) → IsFrontOf Two me view o h p ↔ IsFrontOf Two me after o h p
  same_front zero h p = (λ k. k, λ k. k)
  same_front (suc i) h p = (λ k. k, λ k. k)

  pub stands_after : Stands me next after
  stands_after = record {
    formed = sets.formed;
    whole = changes.whole;
    front = λ o h p.
        let was = stands.front o h p in
        (λ has. (same_front o h p).0 (was.0 (subst (λ rows. Has rows (front_row o h p)) sets.front has)), λ is. subst (λ rows. Has rows (front_row o h p)) (sym sets.front) (was.1 ((same_front o h p).1 is)));
    lra = λ h n b. (row_of h n b, of_row h n b);
  }

-- ---- everything that a patch does

removed_stand : (ids : List Id) (me : ℕ) (db next : Trees) (view : View) → Stands me db view → InTurn RemovesRecord ids db next → Stands me next (record view { records = remove_each ids view.records })
removed_stand [] me db next view stands same = subst (λ t. Stands me t view) (sym same) stands
removed_stand (l ∷ ids) me db next view stands h =
    let did = h.1 in
    let changes = remove_changed view l stands.whole did.0 did.1 in
    let mid = stands_after me db h.0 view l None (remove_at_home l view.records) did.0 did.1 stands changes did.2 in
    removed_stand ids me h.0 next (record view { records = remove_at_home l view.records }) mid h.2

put_stand : (records : List Record) (me : ℕ) (db next : Trees) (view : View) → AllByRecursion (λ r. r.home ≤ length view.front) records → Stands me db view → InTurn PutsRecord records db next → Stands me next (record view { records = put_each records view.records })
put_stand [] me db next view homes stands same = subst (λ t. Stands me t view) (sym same) stands
put_stand (r ∷ records) me db next view homes stands h =
    let did = h.1 in
    let changes = put_changed view r stands.whole did.0 homes.0 did.1 in
    let mid = stands_after me db h.0 view (id_of r) (Some r) (put_at_home r view.records) did.0 did.1 stands changes did.2 in
    put_stand records me h.0 next (record view { records = put_at_home r view.records }) homes.1 mid h.2

module _ (me : ℕ) (db next : Trees) (view : View) (front purges : List ℕ) (same_front : length front ≡ length view.front) (same_purges : length purges ≡ length view.front)
    (stands : Stands me db view) (sets : SetsFronts front purges (length front) db next) where
  abbrev with_front : View
  with_front = record { front = front; purges = purges; records = view.records }

  front_of : (o : ℕ) (h p : ℤ) → HasFront next o h p ↔ IsFrontOf Two me with_front o h p
  front_of zero h p =
      let was = stands.front 0 h p in
      let now = sets.others 0 h p (inl refl) in
      (λ has. was.0 (now.0 has), λ is. now.1 (was.1 is))
  front_of (suc i) h p = elim (at_most (suc i) (length front)) [
    | inl within ↦ let now = sets.there (suc i) h p (omega arith) within in (λ has. (within, (now.0 has).0, (now.0 has).1), λ is. now.1 (is.1, is.2))
    | inr past ↦
        let was = stands.front (suc i) h p in
        let now = sets.others (suc i) h p (inr past) in
        (λ has. let is = was.0 (now.0 has) in absurd (omega (arith, past, is.0, same_front)), λ is. absurd (omega (arith, past, is.0)))
  ]

  front_stand : Stands me next with_front
  front_stand = record {
    formed = sets.formed;
    whole = record {
      purges = same_purges ∙ sym same_front;
      homes = stands.whole.homes ∙ sym same_front;
      order = λ home first there. stands.whole.order home first (omega (arith, there, same_front));
      numbers = stands.whole.numbers;
    };
    front = front_of;
    lra = λ h n b.
        let was = stands.lra h n b in (
          λ has. let it = was.0 (subst (λ rows. (id : ℤ) × Has rows (lra_row id h n b)) sets.lra has) in record { kept = it.kept; held = it.held; at_home = it.at_home; numbered = it.numbered; encoded = it.encoded },
          λ it. subst (λ rows. (id : ℤ) × Has rows (lra_row id h n b)) (sym sets.lra) (was.1 (record { kept = it.kept; held = it.held; at_home = it.at_home; numbered = it.numbered; encoded = it.encoded })),
        );
  }

-- rows that stand for a view stand for the patched view after the patch
pub patch_stands : (me : ℕ) (db next : Trees) (view : View) (change : Change) → Stands me db view → IsPatchOf view change → Patches change db next → Stands me next (patched change view)
patch_stands me db next view change stands fits did =
    let without = removed_stand change.removed me db did.without view stands did.removed in
    let with = put_stand change.records me did.without did.with_records (record view { records = remove_each change.removed view.records }) fits.homes without did.put in
    front_stand me did.with_records next (record view { records = put_each change.records (remove_each change.removed view.records) }) change.front change.purges fits.front fits.purges with did.front
