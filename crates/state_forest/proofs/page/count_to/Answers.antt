use Rattle.std.proofs.Common.{◌≡◌, ◌+◌, ◌∙◌, ap, arith, true, false, drop, is_some, slice_get}
use Rattle.state_forest.specs.Places.{count_below, with_number}
use Rattle.state_forest.proofs.RecordsReplaced.{rest_after, rest_beyond}
use Rattle.state_forest.proofs.Places.{place_length}
use Rattle.state_forest.proofs.page.count_to.Goals as goal

pub returns-then-stands_at-clause-rest : goal.returns-then-stands_at-clause-rest
returns-then-stands_at-clause-rest c =
    let there : is_some (with_number c.args.num (slice_get c.args.records.now (count_below c.args.num c.args.records.now))) ≡ true = cc in
    ap (λ k. drop (k + 1) c.args.records.now) c.place_of-place.ensures ∙ rest_after c.args.num c.args.records.now c.requires there

pub returns-else-stands_at-clause-within : goal.returns-else-stands_at-clause-within
returns-else-stands_at-clause-within c = omega (arith, c.place_of-place.ensures, place_length c.args.num c.args.records.now)

pub returns-else-stands_at-clause-rest : goal.returns-else-stands_at-clause-rest
returns-else-stands_at-clause-rest c =
    let none : is_some (with_number c.args.num (slice_get c.args.records.now (count_below c.args.num c.args.records.now))) ≡ false = cc in
    ap (λ k. drop k c.args.records.now) c.place_of-place.ensures ∙ rest_beyond c.args.num c.args.records.now c.requires none
