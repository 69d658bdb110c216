use Rattle.std.proofs.Common.{◌≡◌, ◌≤◌, ◌<◌, ◌-◌, ◌∙◌, ℕ, List, Ok, length, sym, ap, arith, get_or, is_some, map, find}
use Rattle.state_forest.specs.declared.record.Record.{Record}
use Rattle.state_forest.specs.Forests.{HomeRecords, id_of, is_of}
use Rattle.state_forest.specs.Places.{put_record}
use Rattle.state_forest.specs.Said.{shown_at}
use Rattle.state_forest.specs.Shape.{found_at}
use Rattle.state_replica.specs.Replicas.{ReplicaState}
use Rattle.theory_history.specs.Views.{records_at}
use Rattle.state_replica.proofs.Rooms.{home_numbered, records_of}
use Rattle.state_replica.proofs.replica.Replica.shown_with.Goals as goal

place_is : (c : goal.After-index_mut) → c.from-place.result - 1 ≡ c.args.next.home - 1
place_is c = ap (λ (n : ℕ). n - 1) (c.from-place.ensures ∙ c.number.ensures.value)

some : (c : goal.After-index_mut) → 1 ≤ c.args.next.home
some c = omega (arith, c.number.ensures.range, c.number.ensures.value)

within : (c : goal.After-index_mut) → c.args.next.home - 1 < length c.self.inside.homes.items
within c =
    let fronts : length c.self.inside.front ≡ length c.args.self.now.front = ap (λ (k : ReplicaState). length k.front) c.self.view_is in
    omega (arith, c.requires, fronts, some c, c.self.invariant.homes)

is_home : (c : goal.After-index_mut) → c.index_mut.result.now ≡ get_or c.self.inside.homes.items (c.args.next.home - 1) c.index_mut.result.now
is_home c = c.index_mut.ensures.value ∙ ap (λ (i : ℕ). get_or c.self.inside.homes.items i c.index_mut.result.now) (place_is c)

at_home : (c : goal.After-index_mut) → c.index_mut.result.now.home ≡ c.args.next.home
at_home c = omega (arith, some c, ap (λ (h : HomeRecords). h.home) (is_home c), home_numbered 1 c.self.inside.homes.items (c.args.next.home - 1) c.index_mut.result.now (within c) c.self.invariant.numbered)

pub status_with-requires : goal.status_with-requires
status_with-requires c = sym (at_home c)

pub returns-clause-says : goal.returns-clause-says
returns-clause-says c some =
    let at = c.before.before in
    let homes : c.self.inside.homes.items ≡ c.args.self.now.homes = ap (λ (k : ReplicaState). k.homes) c.self.view_is in
    let records : c.index_mut.result.now.records ≡ records_at (map (λ (h : HomeRecords). h.records) c.args.self.now.homes) c.args.next.home =
    ap (λ (h : HomeRecords). h.records) (is_home at) ∙ sym (records_of c.self.inside.homes.items (c.args.next.home - 1) c.index_mut.result.now (within at))
    ∙ ap (λ (hs : List HomeRecords). records_at (map (λ (h : HomeRecords). h.records) hs) c.args.next.home) homes in
    c.status_with.ensures.says (ap (λ (rs : List Record). is_some (find (is_of (id_of c.args.next)) rs)) records ∙ some)
    ∙ ap (λ (h : ℕ). Ok (shown_at (found_at h (put_record c.args.next c.index_mut.result.now.records)) c.args.next.num)) (at_home at)
    ∙ ap (λ (rs : List Record). Ok (shown_at (found_at c.args.next.home (put_record c.args.next rs)) c.args.next.num)) records
