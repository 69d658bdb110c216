-- What is known of a journal that was read.
use Rattle.std.proofs.Common.{◌≡◌, ◌⊎◌, inl, inr, ℕ, ◌≤◌, List, Ok, Err, Result, arith, length, sym, ap, subst, ◌∙◌}
use Rattle.std.specs.Prelude.{IfErr, IfOk, IsTrue, OnErr, OnOk}
use Rattle.sqlite_disk.specs.Disk.{MoreFaults}
use Rattle.state_facts.specs.declared.refusal.Refusal.{Refusal}
use Rattle.state_facts.specs.declared.refusal.Refusal.TheVariants.{BadFrame, JournalFailed, NoMemory}
use Rattle.sqlite.specs.Order.{Row}
use Rattle.sqlite.specs.Effect.{Database}
use Rattle.sqlite.specs.State.{State, HasCleanDisk, Survives}
use Rattle.sqlite.proofs.StateLemmas.{survives_then}
use Rattle.theory_history.specs.ViewShape.{HasShape}
use Rattle.theory_history.specs.Views.{View}
use Rattle.wire_frames.specs.declared.version.Version.{Version}
use Rattle.state_journal.specs.Broken.{IsBrokenAt}
use Rattle.wire_frames.specs.declared.version.Version.TheVariants.{One}
use Rattle.state_journal.specs.Keeping.{IsOwn}
use Rattle.state_journal.specs.NewStores.{IsNew, MayLeaveNew, MayLeaveOpened}
use Rattle.state_journal.specs.Tables.{IsFormed, IsJournal}
use Rattle.state_journal.specs.Listings.{AreFrontRows, AreLraRows}
use Rattle.state_journal.specs.Reads.{AreRowsOf, BreaksAt}
use Rattle.state_journal.specs.Rewriting.{IsUnwritable, RefusesRewriting}
use Rattle.state_journal.specs.Ruled.{KeepsRules, KeepsRulesAs}
use Rattle.state_journal.specs.Schema.{journal_schema}
use Rattle.state_journal.specs.Stands.{KeepsView, Stands, StandsAs}
use Rattle.state_journal.proofs.KeptRules.{keeps_rules, rules_of_two}
use Rattle.state_journal.proofs.StatementsFail.{more_since, more_until}
use Rattle.state_journal.proofs.RowsStand.{rows_stand}

module _ (old mid : State) (me : ℕ) (front_rows lra_rows : List Row) (journal : IsJournal old) (same : mid.now ≡ old.now)
    (fronts : mid.now.schema ≡ journal_schema → AreFrontRows mid.now.trees front_rows) (lras : mid.now.schema ≡ journal_schema → AreLraRows mid.now.trees lra_rows) where
  has : mid.now.schema ≡ journal_schema
  has = ap (λ (d : Database). d.schema) same ∙ journal.schema

  front_listed : AreFrontRows old.now.trees front_rows
  front_listed = subst (λ (d : Database). AreFrontRows d.trees front_rows) same (fronts has)

  lra_listed : AreLraRows old.now.trees lra_rows
  lra_listed = subst (λ (d : Database). AreLraRows d.trees lra_rows) same (lras has)

  pub read_back : (v : Version) (view : View) → AreRowsOf v me front_rows lra_rows view → StandsAs v me old.now.trees view
  read_back v view are = rows_stand v me old.now.trees front_rows lra_rows view journal.formed lra_listed are front_listed

  pub ruled_there : (v : Version) (view : View) → AreRowsOf v me front_rows lra_rows view → length view.front ≤ 8 → HasShape view → KeepsRulesAs v view
  ruled_there v view are few shape = keeps_rules v me old.now.trees front_rows lra_rows view journal.formed lra_listed are few shape

  pub broken_there : (nodes place : ℕ) → BreaksAt me nodes front_rows lra_rows place → IsBrokenAt me nodes old.now.trees place
  broken_there nodes place breaks = record { front_rows = front_rows; lra_rows = lra_rows; fronts = front_listed; lras = lra_listed; breaks = breaks }

-- after two calls that leave everything, it is as it was
pub left_then : (old mid new : State) → old.now ≡ old.committed → (mid.now ≡ old.now) × (mid.committed ≡ old.committed) → (mid.now ≡ mid.committed → (new.now ≡ mid.now) × (new.committed ≡ mid.committed))
    → (new.now ≡ old.now) × (new.committed ≡ old.committed)
left_then old mid new settled left same = let then_same = same (left.0 ∙ settled ∙ sym left.1) in (then_same.0 ∙ left.0, then_same.1 ∙ left.1)

pub place_is : (a : Refusal) (k : ℕ) (P : ℕ → Type 0) → (a ≡ NoMemory) ⊎ ((place : ℕ) × (a ≡ BadFrame place) × P place) → a ≡ BadFrame k → P k
place_is a k P (inl memory) is = absurd (let both = sym memory ∙ is in cc)
place_is a k P (inr it) is = let both = sym it.1 ∙ is in let same : it.0 ≡ k = cc in subst P same it.2

-- ---- rows that are written anew

pub journal_still : (old mid : State) → IsJournal old → IsTrue mid.is_open → (mid.now ≡ old.now) × (mid.committed ≡ old.committed) → IsJournal mid
journal_still old mid was still same = record {
  is_open = still;
  settled = same.0 ∙ was.settled ∙ sym same.1;
  schema = ap (λ (d : Database). d.schema) same.0 ∙ was.schema;
  formed = subst (λ (d : Database). IsFormed d.trees) (sym same.0) was.formed;
}

-- what was read of a connection, whose state was `old` before and `mid` after
pub record IsRead (old mid : State) (me : ℕ) (version : Version) (view : View) : Type 0 where
  pub not_new : HasCleanDisk mid → IsNew old → ⊥
  pub reads : HasCleanDisk mid → IsJournal old → StandsAs version me old.now.trees view
  pub rules : HasCleanDisk mid → IsJournal old → KeepsRulesAs version view
  pub same : HasCleanDisk mid → IsJournal old → IsTrue mid.is_open → (mid.now ≡ old.now) × (mid.committed ≡ old.committed)

module _ (old mid new : State) (me nodes : ℕ) (version : Version) (view : View) (read : IsRead old mid me version view) where
  stands_mid : HasCleanDisk mid → IsJournal old → IsTrue mid.is_open → StandsAs version me mid.now.trees view
  stands_mid clean was still = subst (λ (d : Database). StandsAs version me d.trees view) (sym (read.same clean was still).0) (read.reads clean was)

  pub renewed_crash : Survives old mid (MayLeaveNew old me nodes)
      → Survives mid new (λ db. (version ≡ One) × IsTrue mid.is_open × (IsJournal mid → StandsAs One me mid.now.trees view → Stands me db view))
      → Survives old new (MayLeaveOpened old me nodes)
  renewed_crash one two =
      survives_then old mid new _ _ _ (λ _ db may. (may.1, λ was. absurd (may.0 was))) (λ clean db it.
      let before : HasCleanDisk mid = omega (arith, two.clean, clean) in (
        λ fresh. absurd (read.not_new before fresh),
        λ was. record {
          view = view;
          before = subst (λ (v : Version). StandsAs v me old.now.trees view) it.0 (read.reads before was);
          rules = subst (λ (v : Version). KeepsRulesAs v view) it.0 (read.rules before was);
          after = it.2 (journal_still old mid was it.1 (read.same before was it.1)) (subst (λ (v : Version). StandsAs v me mid.now.trees view) it.0 (stands_mid before was it.1));
        },
      )) one two

  pub renewed_keeps : {A E : Type 0} (result : Result A E) → (HasCleanDisk new → HasCleanDisk mid) → (HasCleanDisk new → IsTrue new.is_open → IsTrue mid.is_open)
      → (HasCleanDisk new → IsJournal mid → IsTrue new.is_open → StandsAs version me mid.now.trees view → OnOk result (IsJournal new × Stands me new.now.trees view))
      → OnOk result (IsOwn old → KeepsView me new view)
  renewed_keeps (Err e) cleaner opens stands = tt
  renewed_keeps (Ok x) cleaner opens stands = λ own clean still.
      let before = cleaner clean in
      let on = opens clean still in
      elim own [
        | inl fresh ↦ absurd (read.not_new before fresh)
        | inr was ↦ stands clean (journal_still old mid was on (read.same before was on)) still (stands_mid before was on)
      ]

  -- the view keeps the rules of version 2 too
  pub renewed_ruled : {A E : Type 0} (result : Result A E) → HasCleanDisk mid → IsOwn old → OnOk result (KeepsRules view)
  renewed_ruled (Err e) clean own = tt
  renewed_ruled (Ok x) clean own = elim own [ inl fresh ↦ absurd (read.not_new clean fresh) | inr was ↦ rules_of_two version view (read.rules clean was) ]

  -- why rows that were read could not be written anew
  pub renewed_failed : {A : Type 0} (result : Result A Refusal) → Survives old mid (MayLeaveNew old me nodes)
      → Survives mid new (λ db. (version ≡ One) × IsTrue mid.is_open × (IsJournal mid → StandsAs One me mid.now.trees view → Stands me db view))
      → HasCleanDisk new → IsJournal old → OnErr result (version ≡ One)
      → (IsJournal mid → IfErr result (λ refusal. refusal ≡ JournalFailed → MoreFaults mid.faults new.faults ⊎ RefusesRewriting me view.records mid.now.trees))
      → IfErr result (λ refusal. refusal ≡ JournalFailed → MoreFaults old.faults new.faults ⊎ IsUnwritable me old.now.trees)
  renewed_failed (Ok x) one two clean was first failed = tt
  renewed_failed (Err e) one two clean was first failed = λ is.
      let before : HasCleanDisk mid = omega (arith, two.clean, clean) in
      elim (one.closes before was.is_open) [
        | inl still ↦
            let same = read.same before was still in
            elim (failed (journal_still old mid was still same) is) [
              | inl more ↦ inl (more_since old.faults mid.faults new.faults one.counts more)
              | inr refused ↦ inr (record {
                view = view;
                before = subst (λ (v : Version). StandsAs v me old.now.trees view) first (read.reads before was);
                rules = subst (λ (v : Version). KeepsRulesAs v view) first (read.rules before was);
                refused = subst (λ (d : Database). RefusesRewriting me view.records d.trees) same.0 refused;
              })
            ]
        | inr more ↦ inl (more_until old.faults mid.faults new.faults two.counts more)
      ]

-- a result that is a given value has the properties of that value
pub of_same : {A E : Type 0} (P : A → Type 0) (r : Result A E) (x : A) → IfOk r (λ y. y ≡ x) → OnOk r (P x) → IfOk r P
of_same P (Ok y) x same holds = subst P (sym same) holds
of_same P (Err e) x same holds = tt
