-- Rows of version 1 that are written anew, record by record, and then the version.
use Rattle.std.proofs.Common.{◌≡◌, ◌<◌, ◌+◌, ◌-◌, ◌↔◌, inl, inr, ℕ, zero, suc, ℤ, List, [], ◌∷◌, refl, sym, ap, subst, ◌∙◌, Bool, true, false, cond, arith, Option, Some, Ok, Err, Result, get_or, length}
use Rattle.std.specs.List.{list_any}
use Rattle.std.proofs.lemmas.Bool.{true≢false}
use Rattle.std.specs.Prelude.{IsTrue, OnOk}
use Rattle.sqlite.specs.State.{State, Survives}
use Rattle.sqlite.specs.Tree.{Trees}
use Rattle.sqlite_rules.specs.Lists.{Has}
use Rattle.state_ids.specs.Ids.{Id, same_id}
use Rattle.state_facts.specs.Lists.{In}
use Rattle.state_facts.proofs.Membership.{in_append}
use Rattle.state_forest.specs.declared.record.Record.{Record}
use Rattle.state_forest.specs.Forests.{AreOf, id_of, is_of}
use Rattle.state_forest.proofs.Bools.{all_in}
use Rattle.state_forest.proofs.MembersAndStamps.{find_in}
use Rattle.state_forest.proofs.NumberedMembers.{same_self}
use Rattle.theory_history.specs.Views.{View, record_at, records_at}
use Rattle.theory_history.proofs.Basics.{in_left, in_right}
use Rattle.wire_frames.specs.declared.version.Version.{Version}
use Rattle.wire_frames.specs.declared.version.Version.TheVariants.{One, Two}
use Rattle.wire_frames.specs.Encoding.{record_text, record_text_as}
use Rattle.state_journal.specs.Rewriting.{Rewrites, all_records}
use Rattle.state_journal.specs.Stands.{IsFrontOf, IsHeld, IsRecordOf, IsReplicaView, PutsRecord, Stands, StandsAs}
use Rattle.state_journal.specs.Tables.{signed, front_row, lra_row, HasFront, HasLra, IsFormed, IsJournal, IsKey, SetsLra}
use Rattle.state_journal.specs.Turns.{InTurn}
use Rattle.state_journal.proofs.ChangedViews.{same_home, same_num, same_from}
use Rattle.state_journal.proofs.RowsStand.{found_in}
use Rattle.state_journal.proofs.StandsLemmas.{key_or_not, signed_same}

-- the version of an LRA's row, if the rows of the records in `done` were written anew
abbrev version_at : List Record → Id → Version
version_at done l = cond (list_any (λ (r : Record). same_id (id_of r) l) done) Two One

-- what `lra` says of a record that the view has, in the version of its row
record IsRowIn (done : List Record) (view : View) (home : ℕ) (num : ℤ) (body : List ℕ) : Type 0 where
  kept : Record
  held : IsHeld view kept
  at_home : home ≡ kept.home
  numbered : num ≡ signed kept.num
  encoded : body ≡ record_text_as (version_at done (id_of kept)) kept

-- the rows stand for this view, each in its version, and the first row is still of version 1
record StandsSoFar (me : ℕ) (db : Trees) (view : View) (done : List Record) : Type 0 where
  formed : IsFormed db
  whole : IsReplicaView view
  front : (origin : ℕ) (held purged : ℤ) → HasFront db origin held purged ↔ IsFrontOf One me view origin held purged
  lra : (home : ℕ) (num : ℤ) (body : List ℕ) → HasLra db home num body ↔ IsRowIn done view home num body

-- two records of a view with the same id are the same
one_held : (view : View) (a b : Record) → IsHeld view a → IsHeld view b → same_id (id_of a) (id_of b) ≡ true → b ≡ a
one_held view a b held other same =
    let home = same_home (id_of a) (id_of b) same in
    let num = same_num (id_of a) (id_of b) same in
    let own : id_of a ≡ id_of b = ap (λ (h : ℕ). record { home = h; num = a.num }) home ∙ ap (λ (n : ℕ). record { home = b.home; num = n }) num in
    let both = sym other ∙ sym (ap (record_at view) own) ∙ held in
    cc

-- ---- one record is written anew

module _ (me : ℕ) (db next : Trees) (view : View) (done : List Record) (r : Record) (held : IsHeld view r) (stands : StandsSoFar me db view done) (puts : PutsRecord r db next) where
  sets : SetsLra r.home (signed r.num) (Some (record_text r)) db next
  sets = puts.2

  own : version_at (r ∷ done) (id_of r) ≡ Two
  own = rw (same_self (id_of r)) refl

  other : (x : Id) → same_id (id_of r) x ≡ false → version_at (r ∷ done) x ≡ version_at done x
  other x e = rw e refl

  moved : (h k : ℕ) (n m : ℤ) (b c : List ℕ) → h ≡ k → n ≡ m → b ≡ c → HasLra next h n b → HasLra next k m c
  moved h k n m b c p q e has = subst (λ k. HasLra next k m c) p (subst (λ m. HasLra next h m c) q (subst (HasLra next h n) e has))

  text_is : (b : List ℕ) → ◌≡◌ {A = Option (List ℕ)} (Some (record_text r)) (Some b) → b ≡ record_text r
  text_is b e = cc

  elsewhere : (h : ℕ) (n : ℤ) (kept : Record) → h ≡ kept.home → n ≡ signed kept.num → ¬ IsKey r.home (signed r.num) h n → same_id (id_of r) (id_of kept) ≡ false
  elsewhere h n kept at_home numbered apart = settle (same_id (id_of r) (id_of kept)) refl
    where
      settle : (t : Bool) → same_id (id_of r) (id_of kept) ≡ t → same_id (id_of r) (id_of kept) ≡ false
      settle true e = absurd (apart (at_home ∙ sym (same_home (id_of r) (id_of kept) e), numbered ∙ ap signed (sym (same_num (id_of r) (id_of kept) e))))
      settle false e = e

  row_of : (h : ℕ) (n : ℤ) (b : List ℕ) → HasLra next h n b → IsRowIn (r ∷ done) view h n b
  row_of h n b has = elim (key_or_not h r.home n (signed r.num)) [
    | inl key ↦
        let is = text_is b ((sets.there b).0 (moved h r.home n (signed r.num) b b key.0 key.1 refl has)) in
        record { kept = r; held = held; at_home = key.0; numbered = key.1; encoded = is ∙ ap (λ (v : Version). record_text_as v r) (sym own) }
    | inr apart ↦
        let it = (stands.lra h n b).0 ((sets.others h n b apart).0 has) in
        let same = other (id_of it.kept) (elsewhere h n it.kept it.at_home it.numbered apart) in
        record { kept = it.kept; held = it.held; at_home = it.at_home; numbered = it.numbered; encoded = it.encoded ∙ ap (λ (v : Version). record_text_as v it.kept) (sym same) }
  ]

  of_row : (h : ℕ) (n : ℤ) (b : List ℕ) → IsRowIn (r ∷ done) view h n b → HasLra next h n b
  of_row h n b it = by (same_id (id_of r) (id_of it.kept)) refl
    where
      by : (t : Bool) → same_id (id_of r) (id_of it.kept) ≡ t → HasLra next h n b
      by true e =
          let same : it.kept ≡ r = one_held view r it.kept held it.held e in
          let text : b ≡ record_text r = it.encoded ∙ ap (λ (k : Record). record_text_as (version_at (r ∷ done) (id_of k)) k) same ∙ ap (λ (v : Version). record_text_as v r) own in
          let has : HasLra next r.home (signed r.num) (record_text r) = (sets.there (record_text r)).1 refl in
          moved r.home h (signed r.num) n (record_text r) b (ap (λ (k : Record). k.home) (sym same) ∙ sym it.at_home) (ap (λ (k : Record). signed k.num) (sym same) ∙ sym it.numbered) (sym text) has
      by false e =
          let apart : ¬ IsKey r.home (signed r.num) h n = λ key.
          let home : r.home ≡ it.kept.home = sym key.0 ∙ it.at_home in
          let num : r.num ≡ it.kept.num = signed_same r.num it.kept.num (stands.whole.numbers r held) (stands.whole.numbers it.kept it.held) (sym key.1 ∙ it.numbered) in
          true≢false (sym (same_from (id_of r) (id_of it.kept) home num) ∙ e) in
          let text : b ≡ record_text_as (version_at done (id_of it.kept)) it.kept = it.encoded ∙ ap (λ (v : Version). record_text_as v it.kept) (other (id_of it.kept) e) in
          (sets.others h n b apart).1 ((stands.lra h n b).1 (record { kept = it.kept; held = it.held; at_home = it.at_home; numbered = it.numbered; encoded = text }))

  one_more : StandsSoFar me next view (r ∷ done)
  one_more = record {
    formed = sets.formed;
    whole = stands.whole;
    front = λ o h p.
        let was = stands.front o h p in
        (λ has. was.0 (subst (λ rows. Has rows (front_row o h p)) sets.front has), λ is. subst (λ rows. Has rows (front_row o h p)) (sym sets.front) (was.1 is));
    lra = λ h n b. (row_of h n b, of_row h n b);
  }

  -- a row that was written anew before still is
  still : (x : Id) → version_at done x ≡ Two → version_at (r ∷ done) x ≡ Two
  still x e = by (same_id (id_of r) x) refl
    where
      by : (t : Bool) → same_id (id_of r) x ≡ t → version_at (r ∷ done) x ≡ Two
      by true same = rw same refl
      by false apart = other x apart ∙ e

-- ---- all records are written anew

record AreRewritten (me : ℕ) (db : Trees) (view : View) (before records : List Record) : Type 0 where
  done : List Record
  stands : StandsSoFar me db view done
  each : (r : Record) → In r records → version_at done (id_of r) ≡ Two
  still : (x : Id) → version_at before x ≡ Two → version_at done x ≡ Two

rewritten_all : (me : ℕ) (db next : Trees) (view : View) (done records : List Record) → ((r : Record) → In r records → IsHeld view r) → StandsSoFar me db view done → InTurn PutsRecord records db next → AreRewritten me next view done records
rewritten_all me db next view done [] held stands same =
    record { done = done; stands = subst (λ t. StandsSoFar me t view done) (sym same) stands; each = λ r none. absurd none; still = λ x e. e }
rewritten_all me db next view done (r ∷ records) held stands h =
    let own_held = held r (inl refl) in
    let more = one_more me db h.0 view done r own_held stands h.1 in
    let all = rewritten_all me h.0 next view (r ∷ done) records (λ q has. held q (inr has)) more h.2 in
    let each : (q : Record) → In q (r ∷ records) → version_at all.done (id_of q) ≡ Two = λ q has. elim has [
      | inl same ↦ all.still (id_of q) (subst (λ (k : Record). version_at (r ∷ done) (id_of k) ≡ Two) (sym same) (own me db h.0 view done r own_held stands h.1))
      | inr later ↦ all.each q later
    ] in
    record { done = all.done; stands = all.stands; each = each; still = λ x e. all.still x (still me db h.0 view done r own_held stands h.1 x e) }

-- ---- the records that a view has are those of its lists

in_all : (homes : List (List Record)) (k : ℕ) (r : Record) → In r (get_or homes k []) → In r (all_records homes)
in_all [] k r has = absurd has
in_all (rs ∷ homes) zero r has = in_left rs (all_records homes) r has
in_all (rs ∷ homes) (suc k) r has = in_right rs (all_records homes) r (in_all homes k r has)

record IsOfHome (homes : List (List Record)) (r : Record) : Type 0 where
  place : ℕ
  within : place < length homes
  has : In r (get_or homes place [])

of_all : (homes : List (List Record)) (r : Record) → In r (all_records homes) → IsOfHome homes r
of_all [] r has = absurd has
of_all (rs ∷ homes) r has = elim (in_append rs (all_records homes) r has) [
  | inl here ↦ record { place = 0; within = omega arith; has = here }
  | inr later ↦ let it = of_all homes r later in record { place = suc it.place; within = omega (arith, it.within); has = it.has }
]

held_listed : (view : View) (r : Record) → IsHeld view r → In r (all_records view.records)
held_listed view r held = in_all view.records (r.home - 1) r (find_in (is_of (id_of r)) (records_at view.records r.home) r held).0

listed_held : (view : View) → IsReplicaView view → (r : Record) → In r (all_records view.records) → IsHeld view r
listed_held view whole r has =
    let it = of_all view.records r has in
    let back : it.place + 1 - 1 ≡ it.place = omega arith in
    let there : In r (records_at view.records (it.place + 1)) = subst (λ k. In r (get_or view.records k [])) (sym back) it.has in
    let order : AreOf (it.place + 1) (records_at view.records (it.place + 1)) = whole.order (it.place + 1) (omega arith) (omega (arith, it.within, whole.homes)) in
    let own : r.home ≡ it.place + 1 = all_in (λ (q : Record). q.home ≡ it.place + 1) (records_at view.records (it.place + 1)) order.homes r there in
    found_in r.home (records_at view.records r.home) r (subst (λ h. AreOf h (records_at view.records h)) (sym own) order) (subst (λ h. In r (records_at view.records h)) (sym own) there)

-- ---- the version of all rows

module _ (me : ℕ) (db next : Trees) (view : View) (stands : StandsAs One me db view) (did : Rewrites me view.records db next) where
  so_far : StandsSoFar me db view []
  so_far = record {
    formed = stands.formed;
    whole = stands.whole;
    front = stands.front;
    lra = λ h n b.
        let was = stands.lra h n b in (
          λ has. let it = was.0 has in record { kept = it.kept; held = it.held; at_home = it.at_home; numbered = it.numbered; encoded = it.encoded },
          λ it. was.1 (record { kept = it.kept; held = it.held; at_home = it.at_home; numbered = it.numbered; encoded = it.encoded }),
        );
  }

  all : AreRewritten me did.mid view [] (all_records view.records)
  all = rewritten_all me db did.mid view [] (all_records view.records) (listed_held view stands.whole) so_far did.records

  version_is : (r : Record) → IsHeld view r → version_at all.done (id_of r) ≡ Two
  version_is r held = all.each r (held_listed view r held)

  front_of : (o : ℕ) (h p : ℤ) → HasFront next o h p ↔ IsFrontOf Two me view o h p
  front_of zero h p = did.version.there h p
  front_of (suc i) h p =
      let same = did.version.others (suc i) h p (λ e. omega (arith, e)) in
      let was = all.stands.front (suc i) h p in
      (λ has. was.0 (same.0 has), λ is. same.1 (was.1 is))

  row_text : (h : ℕ) (n : ℤ) (b : List ℕ) → IsRowIn all.done view h n b → IsRecordOf Two view h n b
  row_text h n b it = record {
    kept = it.kept;
    held = it.held;
    at_home = it.at_home;
    numbered = it.numbered;
    encoded = it.encoded ∙ ap (λ (v : Version). record_text_as v it.kept) (version_is it.kept it.held);
  }

  text_row : (h : ℕ) (n : ℤ) (b : List ℕ) → IsRecordOf Two view h n b → IsRowIn all.done view h n b
  text_row h n b it = record {
    kept = it.kept;
    held = it.held;
    at_home = it.at_home;
    numbered = it.numbered;
    encoded = it.encoded ∙ ap (λ (v : Version). record_text_as v it.kept) (sym (version_is it.kept it.held));
  }

  pub rewritten : Stands me next view
  rewritten = record {
    formed = did.version.formed;
    whole = stands.whole;
    front = front_of;
    lra = λ h n b.
        let was = all.stands.lra h n b in (
          λ has. row_text h n b (was.0 (subst (λ rows. (id : ℤ) × Has rows (lra_row id h n b)) did.version.lra has)),
          λ it. subst (λ rows. (id : ℤ) × Has rows (lra_row id h n b)) (sym did.version.lra) (was.1 (text_row h n b it)),
        );
  }

-- so the rows stand for the view after a transaction that did that
pub rewritten_ok : {A E : Type 0} (me : ℕ) (old new : State) (view : View) (result : Result A E) → StandsAs One me old.now.trees view
    → OnOk result (IsJournal new × Rewrites me view.records old.now.trees new.now.trees) → OnOk result (IsJournal new × Stands me new.now.trees view)
rewritten_ok me old new view (Ok done) stands did = (did.0, rewritten me old.now.trees new.now.trees view stands did.1)
rewritten_ok me old new view (Err e) stands did = tt

-- and what a stop may leave, in addition to what it left before
pub rewritten_crash : (me : ℕ) (old new : State) (view : View) → Survives old new (λ _. IsTrue old.is_open)
    → Survives old new (λ db. IsJournal old → Rewrites me view.records old.now.trees db)
    → Survives old new (λ db. IsTrue old.is_open × (IsJournal old → StandsAs One me old.now.trees view → Stands me db view))
rewritten_crash me old new view opens writes = record {
  clean = writes.clean;
  shield = writes.shield;
  counts = writes.counts;
  limit = writes.limit;
  closes = writes.closes;
  crash = λ clean db may. elim (opens.crash clean db may) [
    | inl before ↦ inl before
    | inr on ↦ elim (writes.crash clean db may) [
      | inl before ↦ inl before
      | inr did ↦ inr (on, λ was stands. rewritten me old.now.trees db view stands (did was))
    ]
  ];
}
