-- What a transaction shows after the upsert.
use Rattle.std.proofs.Common.{◌≡◌, inl, inr, ℕ, ℤ, pos, List, [], ◌∷◌, Option, Some, None, Ok, refl, sym, ap, subst, ◌∙◌}
use Rattle.sqlite.specs.declared.types.Value.TheVariants.{Null, Int, Blob}
use Rattle.sqlite.specs.Tree.{Trees}
use Rattle.sqlite.specs.Edit.{next_rowid, with_rowid}
use Rattle.sqlite.specs.Cast.{cast_row}
use Rattle.sqlite.specs.Rowids.TheVariants.{Chosen}
use Rattle.sqlite.specs.Does.{Tally, Does}
use Rattle.sqlite.specs.Rows.{Task, Written, Tries, TriesEach, InsertsOr, Upserts, nothing, count_of}
use Rattle.sqlite.specs.Source.TheVariants.{Values}
use Rattle.sqlite.specs.Effect.{Database}
use Rattle.sqlite.specs.State.{State, mode_of, Executes}
use Rattle.sqlite.specs.Listing.{understood}
use Rattle.sqlite_tied.specs.Compute.{everything}
use Rattle.sqlite.proofs.Callers.{IsPlain, statement_of, runs_as}
use Rattle.sqlite_schema.specs.declared.command.Conflict.TheVariants.{Abort}
use Rattle.sqlite_schema.specs.declared.schema.Keys.TheVariants.{Enforced}
use Rattle.sqlite_rules.specs.declared.error.Refusal.{Refusal}
use Rattle.sqlite.specs.Rows.{Judged}
use Rattle.state_journal.specs.Schema.{lra_table, journal_schema}
use Rattle.state_journal.specs.Tables.{lra_row, IsFormed, SetsLra}
use Rattle.state_journal.specs.Statements.{put_lra}
use Rattle.state_journal.proofs.Texts.{put_lra_is, lra_upsert, lra_terms}
use Rattle.state_journal.proofs.Upserts.{went, same_value, cast_null, cast_int}
use Rattle.state_journal.proofs.LraPut.{clause, upserted, three}

put_plain : IsPlain (understood journal_schema put_lra)
unfolding understood everything
put_plain = (refl, refl)

abbrev at : Option ℕ → ℕ → ℤ → List ℕ → Task
at limit home num body = record { limit = limit; keys = Enforced; schema = journal_schema; table = lra_table; params = three home num body }

module _ (limit : Option ℕ) (db : Trees) (home : ℕ) (num : ℤ) (body : List ℕ) (one : Written) where
  judged : (id : ℤ) (verdict : Option Refusal) → Judged (at limit home num body) Abort (clause ∷ []) (lra_row id home num body) db verdict (Ok one) → Upserts (at limit home num body) Abort (lra_row id home num body) db (clause ∷ []) (Ok one)
  judged id None h = h
  judged id (Some why) h = absurd (let e = h in cc)

  tried : (id : ℤ) → Tries (at limit home num body) Abort (clause ∷ []) (lra_row id home num body) db (Ok one) → Upserts (at limit home num body) Abort (lra_row id home num body) db (clause ∷ []) (Ok one)
  tried id (inl refused) = absurd (let e = refused.1 in cc)
  tried id (inr went) = judged id went.0 went.2

  source_is : with_rowid Chosen (db 1) (cast_row lra_table (Null ∷ Int (pos home) ∷ Int num ∷ Blob body ∷ [])) ≡ lra_row (next_rowid (db 1)) home num body
  source_is = rw (cast_null, cast_int (pos home), cast_int num) refl

module _ (limit : Option ℕ) (db : Trees) (home : ℕ) (num : ℤ) (body : List ℕ) (formed : IsFormed db) where
  wrote : (top : ℤ) (out : Written × ℤ) → TriesEach (at limit home num body) Abort (clause ∷ []) ((Null ∷ three home num body) ∷ []) top (nothing db) (Ok out) → SetsLra home num (Some body) db out.0.trees
  wrote top out h =
      let step = went h in
      let did = subst (λ r. Tries (at limit home num body) Abort (clause ∷ []) r db (Ok step.0)) (source_is limit db home num body step.0) step.1 in
      let put = upserted limit Enforced db home num body formed step.0 (next_rowid (db 1)) (tried limit db home num body step.0 (next_rowid (db 1)) did) in
      subst (SetsLra home num (Some body) db) (sym (ap (λ (p : Written × ℤ). p.0.trees) (same_value step.2))) put

  inserts : (done : Written) → InsertsOr (at limit home num body) Abort (clause ∷ []) (Values lra_terms 4) db (Ok done) → SetsLra home num (Some body) db done.trees
  inserts done h =
      let given = went h in
      let counted = went given.2 in
      let tries = went counted.2 in
      let end = went tries.2 in
      let top = count_of counted.0 in
      let put = wrote top tries.0 (subst (λ l. TriesEach (at limit home num body) Abort (clause ∷ []) l top (nothing db) (Ok tries.0)) given.1.1 tries.1) in
      let trees : done.trees ≡ tries.0.0.trees = ap (λ (it : Written). it.trees) (same_value end.2) ∙ same_value end.1 in
      subst (SetsLra home num (Some body) db) (sym trees) put

pub put_step : (old new : State) (home : ℕ) (num : ℤ) (body : List ℕ) (count : ℕ) → old.now.schema ≡ journal_schema → IsFormed old.now.trees
    → Executes put_lra (three home num body) old new (Ok count) → (new.now.schema ≡ journal_schema) × SetsLra home num (Some body) old.now.trees new.now.trees
put_step old new home num body count has formed h =
    let params = three home num body in
    let w = runs_as put_lra params old new journal_schema has lra_upsert put_lra_is put_plain count h in
    let text = statement_of put_lra (understood journal_schema put_lra) in
    let done = went (subst (λ s. Does old.step_limit (mode_of old) params (record old.now { schema = s }) text None lra_upsert (Ok (w.tally, new.now))) has w.changed) in
    let now = ap (λ (p : Tally × Database). p.1) (same_value (went (went done.2).2).2) in
    let put = inserts old.step_limit old.now.trees home num body formed done.0 done.1 in
    (ap (λ (d : Database). d.schema) now, subst (SetsLra home num (Some body) old.now.trees) (sym (ap (λ (d : Database). d.trees) now)) put)
