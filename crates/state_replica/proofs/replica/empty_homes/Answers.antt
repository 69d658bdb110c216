use Rattle.std.proofs.Common.{refl, ◌≡◌, ◌++◌, ◌∷◌, [], arith, subst, List, ◌∙◌, sym, rules, ◌+◌, ℕ}
use Rattle.state_forest.specs.Forests.{HomeRecords}
use Rattle.state_replica.specs.Replicas.{AreEmptyHomes}
use Rattle.state_replica.proofs.EmptyHomes.{one_more_home}
use Rattle.state_replica.proofs.replica.empty_homes.Goals as goal

pub loop-place-init : goal.loop-place-init
loop-place-init c = let none = c.new-homes.ensures.items in rw none (record { count = refl; numbered = tt; empty = refl })

pub loop-place-preserved : goal.loop-place-preserved
loop-place-preserved c =
    let items : c.push.new.self.items ≡ c.loop-place.homes.items ++ c.new-in-loop-place.result ∷ [] = search rules in
    subst (λ (homes : List HomeRecords). AreEmptyHomes (c.loop-place.place + 1) homes) (sym items)
    (one_more_home c.loop-place.place c.loop-place.homes.items c.new-in-loop-place.result c.loop-place.invariant
    (c.new-in-loop-place.ensures.home ∙ c.in-Ok.ensures.value) c.new-in-loop-place.ensures.records)

pub returns : goal.returns
returns c = let end : c.loop-place.place ≡ c.args.nodes = omega (arith, c.loop-place.auto.place-end, c.loop-place-test.false) in subst (λ (n : ℕ). AreEmptyHomes n c.loop-place.homes.items) end c.loop-place.invariant
