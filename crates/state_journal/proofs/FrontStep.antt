-- What a transaction shows after the upsert on `front`.
use Rattle.std.proofs.Common.{◌≡◌, inl, inr, ℕ, ℤ, pos, [], ◌∷◌, Option, Some, None, Ok, refl, sym, ap, subst, ◌∙◌}
use Rattle.sqlite.specs.declared.types.Value.TheVariants.{Null, Int}
use Rattle.sqlite.specs.Order.{Row}
use Rattle.sqlite.specs.Tree.{Trees}
use Rattle.sqlite.specs.Edit.{with_rowid}
use Rattle.sqlite.specs.Cast.{cast_row}
use Rattle.sqlite.specs.Rowids.TheVariants.{Chosen}
use Rattle.sqlite.specs.Does.{Tally, Does}
use Rattle.sqlite.specs.Rows.{Task, Written, Tries, TriesEach, InsertsOr, Upserts, Judged, nothing, count_of}
use Rattle.sqlite.specs.Source.TheVariants.{Values}
use Rattle.sqlite.specs.Effect.{Database}
use Rattle.sqlite.specs.State.{State, mode_of, Executes}
use Rattle.sqlite.specs.Listing.{understood}
use Rattle.sqlite_tied.specs.Compute.{everything}
use Rattle.sqlite.proofs.Callers.{IsPlain, statement_of, runs_as}
use Rattle.sqlite_schema.specs.declared.command.Conflict.TheVariants.{Abort}
use Rattle.sqlite_schema.specs.declared.schema.Keys.TheVariants.{Enforced}
use Rattle.sqlite_rules.specs.declared.error.Refusal.{Refusal}
use Rattle.state_journal.specs.Schema.{front_table, journal_schema}
use Rattle.state_journal.specs.Tables.{front_row, IsFormed, SetsFront}
use Rattle.state_journal.specs.Statements.{put_front}
use Rattle.state_journal.proofs.Texts.{put_front_is, front_upsert, front_terms}
use Rattle.state_journal.proofs.Upserts.{went, same_value}
use Rattle.state_journal.proofs.FrontPut.{clause, upserted, three, cast_front}

put_plain : IsPlain (understood journal_schema put_front)
unfolding understood everything
put_plain = (refl, refl)

abbrev at : Option ℕ → ℕ → ℤ → ℤ → Task
at limit origin held purged = record { limit = limit; keys = Enforced; schema = journal_schema; table = front_table; params = three origin held purged }

abbrev source : ℕ → ℤ → ℤ → Row
source origin held purged = Int (pos origin) ∷ Null ∷ Int held ∷ Int purged ∷ []

module _ (limit : Option ℕ) (db : Trees) (origin : ℕ) (held purged : ℤ) (one : Written) where
  judged : (verdict : Option Refusal) → Judged (at limit origin held purged) Abort (clause ∷ []) (front_row origin held purged) db verdict (Ok one) → Upserts (at limit origin held purged) Abort (front_row origin held purged) db (clause ∷ []) (Ok one)
  judged None h = h
  judged (Some why) h = absurd (let e = h in cc)

  tried : Tries (at limit origin held purged) Abort (clause ∷ []) (front_row origin held purged) db (Ok one) → Upserts (at limit origin held purged) Abort (front_row origin held purged) db (clause ∷ []) (Ok one)
  tried (inl refused) = absurd (let e = refused.1 in cc)
  tried (inr went) = judged went.0 went.2

  source_is : with_rowid Chosen (db 0) (cast_row front_table (source origin held purged)) ≡ front_row origin held purged
  source_is = ap (with_rowid Chosen (db 0)) (cast_front origin held purged)

module _ (limit : Option ℕ) (db : Trees) (origin : ℕ) (held purged : ℤ) (formed : IsFormed db) where
  wrote : (top : ℤ) (out : Written × ℤ) → TriesEach (at limit origin held purged) Abort (clause ∷ []) (source origin held purged ∷ []) top (nothing db) (Ok out) → SetsFront origin held purged db out.0.trees
  wrote top out h =
      let step = went h in
      let did = subst (λ r. Tries (at limit origin held purged) Abort (clause ∷ []) r db (Ok step.0)) (source_is limit db origin held purged step.0) step.1 in
      let put = upserted limit Enforced db origin held purged formed step.0 (tried limit db origin held purged step.0 did) in
      subst (SetsFront origin held purged db) (sym (ap (λ (p : Written × ℤ). p.0.trees) (same_value step.2))) put

  inserts : (done : Written) → InsertsOr (at limit origin held purged) Abort (clause ∷ []) (Values front_terms 4) db (Ok done) → SetsFront origin held purged db done.trees
  inserts done h =
      let given = went h in
      let counted = went given.2 in
      let tries = went counted.2 in
      let end = went tries.2 in
      let top = count_of counted.0 in
      let put = wrote top tries.0 (subst (λ l. TriesEach (at limit origin held purged) Abort (clause ∷ []) l top (nothing db) (Ok tries.0)) given.1.1 tries.1) in
      let trees : done.trees ≡ tries.0.0.trees = ap (λ (it : Written). it.trees) (same_value end.2) ∙ same_value end.1 in
      subst (SetsFront origin held purged db) (sym trees) put

pub front_step : (old new : State) (origin : ℕ) (held purged : ℤ) (count : ℕ) → old.now.schema ≡ journal_schema → IsFormed old.now.trees
    → Executes put_front (three origin held purged) old new (Ok count) → (new.now.schema ≡ journal_schema) × SetsFront origin held purged old.now.trees new.now.trees
front_step old new origin held purged count has formed h =
    let params = three origin held purged in
    let w = runs_as put_front params old new journal_schema has front_upsert put_front_is put_plain count h in
    let text = statement_of put_front (understood journal_schema put_front) in
    let done = went (subst (λ s. Does old.step_limit (mode_of old) params (record old.now { schema = s }) text None front_upsert (Ok (w.tally, new.now))) has w.changed) in
    let now = ap (λ (p : Tally × Database). p.1) (same_value (went (went done.2).2).2) in
    let put = inserts old.step_limit old.now.trees origin held purged formed done.0 done.1 in
    (ap (λ (d : Database). d.schema) now, subst (SetsFront origin held purged old.now.trees) (sym (ap (λ (d : Database). d.trees) now)) put)
