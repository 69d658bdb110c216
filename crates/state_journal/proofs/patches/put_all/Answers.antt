use Rattle.std.proofs.Common.{◌≡◌, refl, sym, ap, subst, ◌∙◌, arith, take, take_all, ◌+◌, ◌++◌, [], ◌∷◌}
use Rattle.std.proofs.lemmas.List.{take_more}
use Rattle.sqlite.specs.Held.{state}
use Rattle.sqlite.proofs.StateLemmas.{survives_then}
use Rattle.state_journal.specs.Tables.{GoesOn}
use Rattle.state_journal.specs.Stands.{PutsRecord}
use Rattle.state_journal.specs.Turns.{InTurn}
use Rattle.state_journal.proofs.Chain.{stays, kept_same, kept_then, begun, goes_then, turns_more}
use Rattle.state_journal.proofs.patches.put_all.Goals as goal

pub records-init : goal.records-init
records-init g c = (refl, stays _, λ _. kept_same _, λ _ writing. begun (InTurn PutsRecord []) _ writing refl)

pub returns-in_err-put_record-clause-same_reference : goal.returns-in_err-put_record-clause-same_reference
returns-in_err-put_record-clause-same_reference g c = c.put_record.ensures.same_reference ∙ c.records.invariant.0

pub returns-in_err-put_record-clause-survives : goal.returns-in_err-put_record-clause-survives
returns-in_err-put_record-clause-survives g c = survives_then _ _ _ _ _ _ (λ _ db none. none) (λ _ db none. none) c.records.invariant.1 c.put_record.ensures.survives

pub returns-in_err-put_record-clause-kept : goal.returns-in_err-put_record-clause-kept
returns-in_err-put_record-clause-kept g c clean =
    kept_then _ _ _ (c.records.invariant.2 (omega (arith, c.put_record.ensures.survives.clean, clean))) (c.put_record.ensures.kept clean)

pub records-preserved : goal.records-preserved
records-preserved g c = (
  c.put_record.ensures.same_reference ∙ c.records.invariant.0,
  survives_then _ _ _ _ _ _ (λ _ db none. none) (λ _ db none. none) c.records.invariant.1 c.put_record.ensures.survives,
  λ clean. kept_then _ _ _ (c.records.invariant.2 (omega (arith, c.put_record.ensures.survives.clean, clean))) (c.put_record.ensures.kept clean),
  λ clean writing.
      let all = c.args.records.now in
      let i = c.records.kept-index in
      let item = c.kept-item.result in
      let was = c.records.invariant.3 (omega (arith, c.put_record.ensures.survives.clean, clean)) writing in
      let did = c.in_ok-put_record.ensures.ok clean was.writing in
      let more = goes_then (InTurn PutsRecord (take i all)) (PutsRecord item) (InTurn PutsRecord (take i all ++ item ∷ [])) _ _ _ (turns_more PutsRecord (take i all) item _ _ _) was did in
      let next : take (i + 1) all ≡ take i all ++ item ∷ [] = take_more all i item c.records-test.true ∙ ap (λ r. take i all ++ r ∷ []) (sym c.kept-item.is) in
      subst (λ l. GoesOn (InTurn PutsRecord l) (state g.S.Store c.args.tx.now.conn.now) (state g.S.Store c.put_record.new.tx.conn.now)) (sym next) more,
)

pub returns-clause-same_reference : goal.returns-clause-same_reference
returns-clause-same_reference g c = c.records.invariant.0

pub returns-clause-survives : goal.returns-clause-survives
returns-clause-survives g c = c.records.invariant.1

pub returns-clause-kept : goal.returns-clause-kept
returns-clause-kept g c = c.records.invariant.2

pub returns-clause-ok : goal.returns-clause-ok
returns-clause-ok g c clean writing =
    subst (λ l. GoesOn (InTurn PutsRecord l) (state g.S.Store c.args.tx.now.conn.now) (state g.S.Store c.records.tx.conn.now)) (take_all c.records.kept-index c.args.records.now c.records-test.false) (c.records.invariant.3 clean writing)
