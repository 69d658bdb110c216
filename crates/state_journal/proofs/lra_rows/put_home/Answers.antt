use Rattle.std.proofs.Common.{◌≤◌, ◌<◌, ◌-◌, ◌∙◌, ℕ, ap, subst, arith}
use Rattle.std.specs.List.{AllByRecursion}
use Rattle.state_forest.specs.declared.record.Record.{Record}
use Rattle.state_journal.proofs.RowLoop.{home_there, if_ok, put_there, there_is, told_is}
use Rattle.state_journal.proofs.lra_rows.put_home.Goals as goal

pub put_last-requires : goal.put_last-requires
put_last-requires c =
    let place = ap (λ (n : ℕ). n - 1) (c.from-place.ensures ∙ c.number.ensures.value) in
    let some : 1 ≤ c.args.kept.home = omega (arith, c.number.ensures.range, c.number.ensures.value) in
    let here = there_is c.args.homes.now.items c.index_mut.result.now c.from-place.result c.args.kept.home place some c.requires.there c.index_mut.ensures.value in
    omega (arith, some, home_there 1 c.args.homes.now.items (c.args.kept.home - 1) c.index_mut.result.now c.requires.told here)

pub returns-clause-put : goal.returns-clause-put
returns-clause-put c =
    let place = ap (λ (n : ℕ). n - 1) (c.from-place.ensures ∙ c.number.ensures.value) in
    let some : 1 ≤ c.args.kept.home = omega (arith, c.number.ensures.range, c.number.ensures.value) in
    let here = there_is c.args.homes.now.items c.index_mut.result.now c.from-place.result c.args.kept.home place some c.requires.there c.index_mut.ensures.value in
    rw place (if_ok c.put_last.result _ _ (λ put last is. put_there c.args.kept c.args.homes.now.items c.index_mut.result.now c.put_last.new.told some c.requires.told here (last is)) c.put_last.ensures.put)

pub returns-clause-not_put : goal.returns-clause-not_put
returns-clause-not_put c =
    let place = ap (λ (n : ℕ). n - 1) (c.from-place.ensures ∙ c.number.ensures.value) in
    let some : 1 ≤ c.args.kept.home = omega (arith, c.number.ensures.range, c.number.ensures.value) in
    let here = there_is c.args.homes.now.items c.index_mut.result.now c.from-place.result c.args.kept.home place some c.requires.there c.index_mut.ensures.value in
    if_ok c.put_last.result _ _ (λ put not is all. not is (subst (AllByRecursion (λ (q : Record). q.num < c.args.kept.num)) (told_is c.args.homes.now.items c.args.kept.home c.index_mut.result.now here) all)) c.put_last.ensures.not_put
