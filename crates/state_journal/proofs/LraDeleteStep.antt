-- What a transaction shows after the DELETE.
use Rattle.std.proofs.Common.{◌≡◌, ℕ, ℤ, pos, [], ◌∷◌, None, Ok, refl, sym, ap, subst, ◌∙◌, arith}
use Rattle.sqlite.specs.declared.types.Value.TheVariants.{Int}
use Rattle.sqlite.specs.Command.TheVariants.{Delete}
use Rattle.sqlite.specs.Edit.{edit_of}
use Rattle.sqlite.specs.Rowids.TheVariants.{Given}
use Rattle.sqlite.specs.Does.{Tally, Does}
use Rattle.sqlite.specs.Rows.{Written}
use Rattle.sqlite.specs.Effect.{Database}
use Rattle.sqlite.specs.State.{State, mode_of, Executes}
use Rattle.sqlite.specs.Listing.{understood}
use Rattle.sqlite_tied.specs.Compute.{everything}
use Rattle.sqlite.proofs.Callers.{IsPlain, statement_of, runs_as, one_step}
use Rattle.sqlite_rules.specs.Calls.{ids_of}
use Rattle.state_journal.specs.Schema.{lra_table, journal_schema}
use Rattle.state_journal.specs.Tables.{IsFormed, SetsLra}
use Rattle.state_journal.proofs.Texts.{program, delete_lra, delete_lra_is, lra_delete}
use Rattle.state_journal.proofs.Upserts.{went, same_value}
use Rattle.state_journal.proofs.LraDelete.{deletes}

delete_plain : IsPlain (understood journal_schema delete_lra)
unfolding understood everything
delete_plain = (refl, refl)

pub delete_step : (old new : State) (home : ℕ) (num : ℤ) (count : ℕ) → old.now.schema ≡ journal_schema → IsFormed old.now.trees
    → Executes delete_lra (Int (pos home) ∷ Int num ∷ []) old new (Ok count)
    → (new.now.schema ≡ journal_schema) × SetsLra home num None old.now.trees new.now.trees
delete_step old new home num count has formed h =
    let params = Int (pos home) ∷ Int num ∷ [] in
    let db = old.now.trees in
    let command = Delete 1 (program lra_delete) in
    let w = runs_as delete_lra params old new journal_schema has command delete_lra_is delete_plain count h in
    let text = statement_of delete_lra (understood journal_schema delete_lra) in
    let done = went (subst (λ s. Does old.step_limit (mode_of old) params (record old.now { schema = s }) text None command (Ok (w.tally, new.now))) has w.changed) in
    let now = ap (λ (p : Tally × Database). p.1) (same_value (went (went done.2).2).2) in
    let got = went done.1 in
    let wrote = went got.2 in
    let trees : done.0.trees ≡ wrote.0 = ap (λ (it : Written). it.trees) (same_value wrote.2) in
    let edit = edit_of db lra_table (ids_of got.0) Given 0 [] in
    let done_is = one_step journal_schema _ db wrote.0 edit refl wrote.1 in
    let after : new.now.trees ≡ wrote.0 = ap (λ (d : Database). d.trees) now ∙ trees in
    (ap (λ (d : Database). d.schema) now, subst (SetsLra home num None db) (sym after) (deletes db wrote.0 home num got.0 formed (done_is.tables.0 (omega arith)) done_is.rows got.1))
