use Rattle.std.proofs.Common.{◌≡◌, refl, sym, ap, subst, ◌∙◌, arith, take, take_all, ◌+◌, ◌++◌, [], ◌∷◌, List}
use Rattle.std.proofs.lemmas.List.{take_more}
use Rattle.sqlite.specs.Held.{state}
use Rattle.std.proofs.lemmas.Result.{err_from_is_err_and}
use Rattle.sqlite.specs.State.{HasCleanDisk}
use Rattle.sqlite.proofs.StateLemmas.{survives_then}
use Rattle.state_forest.specs.declared.record.Record.{Record}
use Rattle.state_forest.specs.Forests.{HomeRecords}
use Rattle.state_journal.specs.Rewriting.{MakesRow, RefusesOneOf, all_records}
use Rattle.state_journal.specs.Tables.{GoesOn}
use Rattle.state_journal.specs.Stands.{PutsRecord}
use Rattle.state_journal.specs.Turns.{InTurn}
use Rattle.state_journal.proofs.Chain.{stays, kept_same, kept_then, begun, goes_then}
use Rattle.state_replica.specs.Replicas.{records_in}
use Rattle.state_journal.proofs.RewriteSteps.{all_of_homes, one_home_more, records_of, refused_within, turns_append}
use Rattle.state_journal.proofs.StatementsFail.{failed_since}
use Rattle.state_journal.proofs.rewriting.put_homes.Goals as goal

pub homes-init : goal.homes-init
homes-init g c = (refl, stays _, λ _. kept_same _, λ _ writing. begun (InTurn PutsRecord []) _ writing refl, λ _ _ _. refl)

pub returns-in_err-put_records-clause-same_reference : goal.returns-in_err-put_records-clause-same_reference
returns-in_err-put_records-clause-same_reference g c = c.put_records.ensures.same_reference ∙ c.homes.invariant.0

pub returns-in_err-put_records-clause-survives : goal.returns-in_err-put_records-clause-survives
returns-in_err-put_records-clause-survives g c = survives_then _ _ _ _ _ _ (λ _ db none. none) (λ _ db none. none) c.homes.invariant.1 c.put_records.ensures.survives

pub returns-in_err-put_records-clause-kept : goal.returns-in_err-put_records-clause-kept
returns-in_err-put_records-clause-kept g c clean =
    kept_then _ _ _ (c.homes.invariant.2 (omega (arith, c.put_records.ensures.survives.clean, clean))) (c.put_records.ensures.kept clean)

pub homes-preserved : goal.homes-preserved
homes-preserved g c = (
  c.put_records.ensures.same_reference ∙ c.homes.invariant.0,
  survives_then _ _ _ _ _ _ (λ _ db none. none) (λ _ db none. none) c.homes.invariant.1 c.put_records.ensures.survives,
  λ clean. kept_then _ _ _ (c.homes.invariant.2 (omega (arith, c.put_records.ensures.survives.clean, clean))) (c.put_records.ensures.kept clean),
  λ clean writing.
      let all = c.args.homes.now in
      let i = c.homes.home-index in
      let item = c.home-item.result in
      let old = state g.S.Store c.args.tx.now.conn.now in
      let new = state g.S.Store c.put_records.new.tx.conn.now in
      let was = c.homes.invariant.3 (omega (arith, c.put_records.ensures.survives.clean, clean)) writing in
      let did = subst (λ (rs : List Record). GoesOn (InTurn PutsRecord rs) (state g.S.Store c.homes.tx.conn.now) new) c.records.ensures.records (c.in_ok-put_records.ensures.ok clean was.writing) in
      let more = goes_then (InTurn PutsRecord (records_of (take i all))) (InTurn PutsRecord item.records) (InTurn PutsRecord (records_of (take i all) ++ item.records)) _ _ _
      (turns_append PutsRecord (records_of (take i all)) item.records _ _ _) was did in
      let next : take (i + 1) all ≡ take i all ++ item ∷ [] = take_more all i item c.homes-test.true ∙ ap (λ (h : HomeRecords). take i all ++ h ∷ []) (sym c.home-item.is) in
      subst (λ (hs : List HomeRecords). GoesOn (InTurn PutsRecord (records_of hs)) old new) (sym next)
      (subst (λ (rs : List Record). GoesOn (InTurn PutsRecord rs) old new) (sym (one_home_more (take i all) item)) more),
  λ clean writing free.
      let all = c.args.homes.now in
      let i = c.homes.home-index in
      let item = c.home-item.result in
      let old = state g.S.Store c.args.tx.now.conn.now in
      let mid = state g.S.Store c.homes.tx.conn.now in
      let new = state g.S.Store c.put_records.new.tx.conn.now in
      let before : HasCleanDisk mid = omega (arith, c.put_records.ensures.survives.clean, clean) in
      let was = c.homes.invariant.3 before writing in
      let own = subst (λ (rs : List Record). InTurn MakesRow rs mid.now.trees new.now.trees) c.records.ensures.records (c.in_ok-put_records.ensures.made clean was.writing (c.homes.invariant.1.limit ∙ free)) in
      let more = turns_append MakesRow (records_of (take i all)) item.records _ _ _ (c.homes.invariant.4 before writing free) own in
      let next : take (i + 1) all ≡ take i all ++ item ∷ [] = take_more all i item c.homes-test.true ∙ ap (λ (h : HomeRecords). take i all ++ h ∷ []) (sym c.home-item.is) in
      subst (λ (hs : List HomeRecords). InTurn MakesRow (records_of hs) old.now.trees new.now.trees) (sym next)
      (subst (λ (rs : List Record). InTurn MakesRow rs old.now.trees new.now.trees) (sym (one_home_more (take i all) item)) more),
)

pub returns-clause-same_reference : goal.returns-clause-same_reference
returns-clause-same_reference g c = c.homes.invariant.0

pub returns-clause-survives : goal.returns-clause-survives
returns-clause-survives g c = c.homes.invariant.1

pub returns-clause-kept : goal.returns-clause-kept
returns-clause-kept g c = c.homes.invariant.2

pub returns-clause-ok : goal.returns-clause-ok
returns-clause-ok g c clean writing =
    let old = state g.S.Store c.args.tx.now.conn.now in
    let new = state g.S.Store c.homes.tx.conn.now in
    subst (λ (rs : List Record). GoesOn (InTurn PutsRecord rs) old new) (ap records_of (take_all c.homes.home-index c.args.homes.now c.homes-test.false) ∙ all_of_homes c.args.homes.now) (c.homes.invariant.3 clean writing)

pub returns-clause-made : goal.returns-clause-made
returns-clause-made g c clean writing free =
    let old = state g.S.Store c.args.tx.now.conn.now in
    let new = state g.S.Store c.homes.tx.conn.now in
    subst (λ (rs : List Record). InTurn MakesRow rs old.now.trees new.now.trees) (ap records_of (take_all c.homes.home-index c.args.homes.now c.homes-test.false) ∙ all_of_homes c.args.homes.now) (c.homes.invariant.4 clean writing free)

pub returns-in_err-put_records-clause-failed : goal.returns-in_err-put_records-clause-failed
returns-in_err-put_records-clause-failed g c clean writing free =
    let all = c.args.homes.now in
    let i = c.homes.home-index in
    let item = c.home-item.result in
    let old = state g.S.Store c.args.tx.now.conn.now in
    let mid = state g.S.Store c.homes.tx.conn.now in
    let before : HasCleanDisk mid = omega (arith, c.put_records.ensures.survives.clean, clean) in
    let was = c.homes.invariant.3 before writing in
    let next : take (i + 1) all ≡ take i all ++ item ∷ [] = take_more all i item c.homes-test.true ∙ ap (λ (h : HomeRecords). take i all ++ h ∷ []) (sym c.home-item.is) in
    let stops : RefusesOneOf c.records.result mid.now.trees → RefusesOneOf (all_records (records_in all)) old.now.trees = λ refused.
    refused_within all i item old.now.trees mid.now.trees next (c.homes.invariant.4 before writing free) (subst (λ (rs : List Record). RefusesOneOf rs mid.now.trees) c.records.ensures.records refused) in
    let why = failed_since _ _ _ _ _ _ c.homes.invariant.1.counts stops (c.in_err-put_records.ensures.failed clean was.writing (c.homes.invariant.1.limit ∙ free)) in
    let told = err_from_is_err_and c.from_residual.result c.from_residual.ensures.1 in
    rw (told.1, told.2) why
