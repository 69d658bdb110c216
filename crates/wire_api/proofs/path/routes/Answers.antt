use Rattle.std.proofs.Common.{refl, codes, [], drop}
use Rattle.std.proofs.lemmas.Result.{err_from_is_err_and}
use Rattle.matchit.proofs.OnLiterals.{matchit_on_literals}
use Rattle.wire_api.specs.Paths.{of_lra, of_member, paths}
use Rattle.wire_api.proofs.Routes.{only_memory}
use Rattle.wire_api.proofs.path.routes.Goals as goal

pub returns-clause-ok : goal.returns-clause-ok
unfolding matchit_on_literals
returns-clause-ok c =
    rw (c.in_ok-insert-8.ensures.1, c.in_ok-insert-7.ensures.1, c.in_ok-insert-6.ensures.1, c.in_ok-insert-5.ensures.1, c.in_ok-insert-4.ensures.1, c.in_ok-insert-3.ensures.1, c.in_ok-insert-2.ensures.1, c.in_ok-insert.ensures.1, c.new-router.ensures) at c.in_ok-insert-9.ensures.1

pub returns-in_err-insert-clause-err : goal.returns-in_err-insert-clause-err
unfolding matchit_on_literals
returns-in_err-insert-clause-err c =
    let p = err_from_is_err_and c.from_residual.result c.from_residual.ensures.1 in
    rw (p.1, p.2) (only_memory (codes "/peer/pull") (drop 9 paths) _ refl (rw (c.new-router.ensures) at c.in_err-insert.ensures.1))

pub returns-in_err-insert-2-clause-err : goal.returns-in_err-insert-2-clause-err
unfolding matchit_on_literals
returns-in_err-insert-2-clause-err c =
    let p = err_from_is_err_and c.from_residual-in_err-insert-2.result c.from_residual-in_err-insert-2.ensures.1 in
    rw (p.1, p.2) (only_memory (codes "/lra") (drop 8 paths) _ refl (rw (c.in_ok-insert.ensures.1, c.new-router.ensures) at c.in_err-insert-2.ensures.1))

pub returns-in_err-insert-3-clause-err : goal.returns-in_err-insert-3-clause-err
unfolding matchit_on_literals
returns-in_err-insert-3-clause-err c =
    let p = err_from_is_err_and c.from_residual-in_err-insert-3.result c.from_residual-in_err-insert-3.ensures.1 in
    rw (p.1, p.2) (only_memory (of_lra []) (drop 7 paths) _ refl (rw (c.in_ok-insert-2.ensures.1, c.in_ok-insert.ensures.1, c.new-router.ensures) at c.in_err-insert-3.ensures.1))

pub returns-in_err-insert-4-clause-err : goal.returns-in_err-insert-4-clause-err
unfolding matchit_on_literals
returns-in_err-insert-4-clause-err c =
    let p = err_from_is_err_and c.from_residual-in_err-insert-4.result c.from_residual-in_err-insert-4.ensures.1 in
    rw (p.1, p.2) (only_memory (of_member []) (drop 6 paths) _ refl (rw (c.in_ok-insert-3.ensures.1, c.in_ok-insert-2.ensures.1, c.in_ok-insert.ensures.1, c.new-router.ensures) at c.in_err-insert-4.ensures.1))

pub returns-in_err-insert-5-clause-err : goal.returns-in_err-insert-5-clause-err
unfolding matchit_on_literals
returns-in_err-insert-5-clause-err c =
    let p = err_from_is_err_and c.from_residual-in_err-insert-5.result c.from_residual-in_err-insert-5.ensures.1 in
    rw (p.1, p.2) (only_memory (of_member (codes "/report")) (drop 5 paths) _ refl (rw (c.in_ok-insert-4.ensures.1, c.in_ok-insert-3.ensures.1, c.in_ok-insert-2.ensures.1, c.in_ok-insert.ensures.1, c.new-router.ensures) at c.in_err-insert-5.ensures.1))

pub returns-in_err-insert-6-clause-err : goal.returns-in_err-insert-6-clause-err
unfolding matchit_on_literals
returns-in_err-insert-6-clause-err c =
    let p = err_from_is_err_and c.from_residual-in_err-insert-6.result c.from_residual-in_err-insert-6.ensures.1 in
    rw (p.1, p.2) (only_memory (of_member (codes "/leave")) (drop 4 paths) _ refl (rw (c.in_ok-insert-5.ensures.1, c.in_ok-insert-4.ensures.1, c.in_ok-insert-3.ensures.1, c.in_ok-insert-2.ensures.1, c.in_ok-insert.ensures.1, c.new-router.ensures) at c.in_err-insert-6.ensures.1))

pub returns-in_err-insert-7-clause-err : goal.returns-in_err-insert-7-clause-err
unfolding matchit_on_literals
returns-in_err-insert-7-clause-err c =
    let p = err_from_is_err_and c.from_residual-in_err-insert-7.result c.from_residual-in_err-insert-7.ensures.1 in
    rw (p.1, p.2) (only_memory (of_lra (codes "/join")) (drop 3 paths) _ refl (rw (c.in_ok-insert-6.ensures.1, c.in_ok-insert-5.ensures.1, c.in_ok-insert-4.ensures.1, c.in_ok-insert-3.ensures.1, c.in_ok-insert-2.ensures.1, c.in_ok-insert.ensures.1, c.new-router.ensures) at c.in_err-insert-7.ensures.1))

pub returns-in_err-insert-8-clause-err : goal.returns-in_err-insert-8-clause-err
unfolding matchit_on_literals
returns-in_err-insert-8-clause-err c =
    let p = err_from_is_err_and c.from_residual-in_err-insert-8.result c.from_residual-in_err-insert-8.ensures.1 in
    rw (p.1, p.2) (only_memory (of_lra (codes "/close")) (drop 2 paths) _ refl (rw (c.in_ok-insert-7.ensures.1, c.in_ok-insert-6.ensures.1, c.in_ok-insert-5.ensures.1, c.in_ok-insert-4.ensures.1, c.in_ok-insert-3.ensures.1, c.in_ok-insert-2.ensures.1, c.in_ok-insert.ensures.1, c.new-router.ensures) at c.in_err-insert-8.ensures.1))

pub returns-in_err-insert-9-clause-err : goal.returns-in_err-insert-9-clause-err
unfolding matchit_on_literals
returns-in_err-insert-9-clause-err c =
    let p = err_from_is_err_and c.from_residual-in_err-insert-9.result c.from_residual-in_err-insert-9.ensures.1 in
    rw (p.1, p.2) (only_memory (of_lra (codes "/cancel")) (drop 1 paths) _ refl (rw (c.in_ok-insert-8.ensures.1, c.in_ok-insert-7.ensures.1, c.in_ok-insert-6.ensures.1, c.in_ok-insert-5.ensures.1, c.in_ok-insert-4.ensures.1, c.in_ok-insert-3.ensures.1, c.in_ok-insert-2.ensures.1, c.in_ok-insert.ensures.1, c.new-router.ensures) at c.in_err-insert-9.ensures.1))
