use Rattle.std.proofs.Common.{refl, sym, ap, subst, ◌∙◌, arith, append-nil, append_assoc, ◌++◌, [], ◌∷◌, List}
use Rattle.sqlite.specs.Held.{state}
use Rattle.std.proofs.lemmas.Result.{err_from_is_err_and}
use Rattle.sqlite.proofs.StateLemmas.{survives_then}
use Rattle.state_forest.specs.declared.record.Record.{Record}
use Rattle.state_journal.specs.Rewriting.{MakesRow, RefusesOneOf, RefusesRow}
use Rattle.state_journal.specs.Tables.{GoesOn}
use Rattle.state_journal.specs.Stands.{PutsRecord}
use Rattle.state_journal.specs.Turns.{InTurn}
use Rattle.state_journal.proofs.Chain.{stays, kept_same, kept_then, begun, goes_then, turns_more}
use Rattle.state_journal.proofs.StatementsFail.{failed_since}
use Rattle.state_journal.proofs.rewriting.put_records.Goals as goal

pub records-init : goal.records-init
records-init g c =
    let is = c.into_iter-kept-iterator.ensures.into_iter_gives in
    (refl, stays _, λ _. kept_same _, λ _ writing. record { done = []; split = is; goes = begun (InTurn PutsRecord []) _ writing refl; made = λ _. refl })

pub returns-in_err-put_record-clause-same_reference : goal.returns-in_err-put_record-clause-same_reference
returns-in_err-put_record-clause-same_reference g c = c.put_record.ensures.same_reference ∙ c.records.invariant.0

pub returns-in_err-put_record-clause-survives : goal.returns-in_err-put_record-clause-survives
returns-in_err-put_record-clause-survives g c = survives_then _ _ _ _ _ _ (λ _ db none. none) (λ _ db none. none) c.records.invariant.1 c.put_record.ensures.survives

pub returns-in_err-put_record-clause-kept : goal.returns-in_err-put_record-clause-kept
returns-in_err-put_record-clause-kept g c clean =
    kept_then _ _ _ (c.records.invariant.2 (omega (arith, c.put_record.ensures.survives.clean, clean))) (c.put_record.ensures.kept clean)

pub records-preserved : goal.records-preserved
records-preserved g c = (
  c.put_record.ensures.same_reference ∙ c.records.invariant.0,
  survives_then _ _ _ _ _ _ (λ _ db none. none) (λ _ db none. none) c.records.invariant.1 c.put_record.ensures.survives,
  λ clean. kept_then _ _ _ (c.records.invariant.2 (omega (arith, c.put_record.ensures.survives.clean, clean))) (c.put_record.ensures.kept clean),
  λ clean writing.
      let item = c.in-Some.kept.now in
      let rest = c.next.new.self in
      let was = c.records.invariant.3 (omega (arith, c.put_record.ensures.survives.clean, clean)) writing in
      let did = c.in_ok-put_record.ensures.ok clean was.goes.writing in
      record {
        done = was.done ++ item ∷ [];
        split = append_assoc was.done (item ∷ []) rest ∙ ap (λ (rs : List Record). was.done ++ rs) (sym c.in-Some.ensures.steps) ∙ was.split;
        goes = goes_then (InTurn PutsRecord was.done) (PutsRecord item) (InTurn PutsRecord (was.done ++ item ∷ [])) _ _ _ (turns_more PutsRecord was.done item _ _ _) was.goes did;
        made = λ free. turns_more MakesRow was.done item _ _ _ (was.made free) (c.in_ok-put_record.ensures.made clean was.goes.writing (c.records.invariant.1.limit ∙ free));
      },
)

pub returns-clause-same_reference : goal.returns-clause-same_reference
returns-clause-same_reference g c = c.records.invariant.0

pub returns-clause-survives : goal.returns-clause-survives
returns-clause-survives g c = c.records.invariant.1

pub returns-clause-kept : goal.returns-clause-kept
returns-clause-kept g c = c.records.invariant.2

pub returns-clause-ok : goal.returns-clause-ok
returns-clause-ok g c clean writing =
    let was = c.records.invariant.3 clean writing in
    let all = sym (append-nil was.done) ∙ ap (λ (rs : List Record). was.done ++ rs) (sym c.in-None.ensures.steps.0) ∙ was.split in
    subst (λ (rs : List Record). GoesOn (InTurn PutsRecord rs) (state g.S.Store c.args.tx.now.conn.now) (state g.S.Store c.records.tx.conn.now)) all was.goes

pub returns-clause-made : goal.returns-clause-made
returns-clause-made g c clean writing free =
    let was = c.records.invariant.3 clean writing in
    let all = sym (append-nil was.done) ∙ ap (λ (rs : List Record). was.done ++ rs) (sym c.in-None.ensures.steps.0) ∙ was.split in
    subst (λ (rs : List Record). InTurn MakesRow rs (state g.S.Store c.args.tx.now.conn.now).now.trees (state g.S.Store c.records.tx.conn.now).now.trees) all (was.made free)

pub returns-in_err-put_record-clause-failed : goal.returns-in_err-put_record-clause-failed
returns-in_err-put_record-clause-failed g c clean writing free =
    let item = c.in-Some.kept.now in
    let rest = c.next.new.self in
    let old = state g.S.Store c.args.tx.now.conn.now in
    let mid = state g.S.Store c.records.tx.conn.now in
    let was = c.records.invariant.3 (omega (arith, c.put_record.ensures.survives.clean, clean)) writing in
    let stops : RefusesRow item mid.now.trees → RefusesOneOf c.args.records old.now.trees = λ refused. record {
      done = was.done;
      next = item;
      left = rest;
      split = ap (λ (rs : List Record). was.done ++ rs) (sym c.in-Some.ensures.steps) ∙ was.split;
      mid = mid.now.trees;
      made = was.made free;
      refused = refused;
    } in
    let why = failed_since _ _ _ _ _ _ c.records.invariant.1.counts stops (c.in_err-put_record.ensures.failed clean was.goes.writing (c.records.invariant.1.limit ∙ free)) in
    let told = err_from_is_err_and c.from_residual.result c.from_residual.ensures.1 in
    rw (told.1, told.2) why
