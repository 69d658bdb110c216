use Rattle.std.proofs.Common.{◌≡◌, ◌<◌, ◌+◌, ◌∙◌, List, length, sym, ap, subst, arith, refl}
use Rattle.state_forest.specs.Forests.{HomeRecords}
use Rattle.state_replica.specs.Replicas.{ReplicaState, records_in}
use Rattle.state_replica.proofs.SameHomes.{AreSameTo, same_more, same_all, same_here}
use Rattle.state_replica.proofs.replica.Replica.same_records.Goals as goal

pub loop-place-preserved : goal.loop-place-preserved
loop-place-preserved c =
    let homes : c.self.inside.homes.items ≡ c.args.self.now.homes = ap (λ (k : ReplicaState). k.homes) c.self.view_is in
    let others : c.other.inside.homes.items ≡ c.args.other.now.homes = ap (λ (k : ReplicaState). k.homes) c.other.view_is in
    let front : length c.self.inside.front ≡ length c.args.self.now.front = ap (λ (k : ReplicaState). length k.front) c.self.view_is in
    let fronts : length c.other.inside.front ≡ length c.args.other.now.front = ap (λ (k : ReplicaState). length k.front) c.other.view_is in
    let within : c.loop-place.place < length c.self.inside.homes.items = omega (arith, c.loop-place-test.true, c.len-place-end.ensures, c.self.inside.homes.ok) in
    let inside : c.loop-place.place < length c.other.inside.homes.items = omega (arith, within, c.requires, front, fronts, c.self.invariant.homes, c.other.invariant.homes) in
    subst (λ (hs : List HomeRecords). AreSameTo (c.loop-place.place + 1) hs c.args.other.now.homes) homes
    (subst (λ (hs : List HomeRecords). AreSameTo (c.loop-place.place + 1) c.self.inside.homes.items hs) others
    (same_more c.self.inside.homes.items c.other.inside.homes.items c.loop-place.place c.index.result.now c.index-in-loop-place.result.now within inside
    c.index.ensures c.index-in-loop-place.ensures (c.same.ensures.0 c.if-not-same.false).1
    (subst (λ (hs : List HomeRecords). AreSameTo c.loop-place.place hs c.other.inside.homes.items) (sym homes)
    (subst (λ (hs : List HomeRecords). AreSameTo c.loop-place.place c.args.self.now.homes hs) (sym others) c.loop-place.invariant))))

pub returns-then-not-same : goal.returns-then-not-same
returns-then-not-same c =
    let homes : c.self.inside.homes.items ≡ c.args.self.now.homes = ap (λ (k : ReplicaState). k.homes) c.self.view_is in
    let others : c.other.inside.homes.items ≡ c.args.other.now.homes = ap (λ (k : ReplicaState). k.homes) c.other.view_is in
    let front : length c.self.inside.front ≡ length c.args.self.now.front = ap (λ (k : ReplicaState). length k.front) c.self.view_is in
    let fronts : length c.other.inside.front ≡ length c.args.other.now.front = ap (λ (k : ReplicaState). length k.front) c.other.view_is in
    let within : c.loop-place.place < length c.self.inside.homes.items = omega (arith, c.loop-place-test.true, c.len-place-end.ensures, c.self.inside.homes.ok) in
    let inside : c.loop-place.place < length c.other.inside.homes.items = omega (arith, within, c.requires, front, fronts, c.self.invariant.homes, c.other.invariant.homes) in (
      λ told. absurd cc,
      λ same. sym c.if-not-same.true ∙ c.same.ensures.1 (same_here c.self.inside.homes.items c.other.inside.homes.items c.loop-place.place c.index.result.now c.index-in-loop-place.result.now within inside
          c.index.ensures c.index-in-loop-place.ensures c.self.invariant.numbered c.other.invariant.numbered (ap records_in homes ∙ same ∙ ap records_in (sym others))),
    )

pub returns : goal.returns
returns c =
    let homes : c.self.inside.homes.items ≡ c.args.self.now.homes = ap (λ (k : ReplicaState). k.homes) c.self.view_is in
    let others : c.other.inside.homes.items ≡ c.args.other.now.homes = ap (λ (k : ReplicaState). k.homes) c.other.view_is in
    let front : length c.self.inside.front ≡ length c.args.self.now.front = ap (λ (k : ReplicaState). length k.front) c.self.view_is in
    let fronts : length c.other.inside.front ≡ length c.args.other.now.front = ap (λ (k : ReplicaState). length k.front) c.other.view_is in
    let own = ap (λ (hs : List HomeRecords). length hs) homes in
    let of_other = ap (λ (hs : List HomeRecords). length hs) others in (
      λ told. same_all c.args.self.now.homes c.args.other.now.homes c.loop-place.place
          (omega (arith, c.loop-place-test.false, c.len-place-end.ensures, c.self.inside.homes.ok, own))
          (omega (arith, c.loop-place-test.false, c.len-place-end.ensures, c.self.inside.homes.ok, of_other, c.requires, front, fronts, c.self.invariant.homes, c.other.invariant.homes))
          c.loop-place.invariant,
      λ same. refl,
    )
