use Rattle.std.proofs.Common.{◌≡◌, ◌∙◌, sym, ap, true}
use Rattle.state_replica.specs.Replicas.{ReplicaState}
use Rattle.theory_history.specs.Views.{View}
use Rattle.state_replica.proofs.SameHomes.{front_told, same_view}
use Rattle.state_replica.proofs.replica.Replica.same.Goals as goal
use Rattle.state_replica.proofs.replica.Replica.same.Goals.{Joined-eq, then-eq, else-eq}

-- whether the fronts and the last purges are the same
fronts : (c : Joined-eq) → (c.if-eq.value ≡ true → (c.args.self.now.front ≡ c.args.other.now.front) × (c.args.self.now.purges ≡ c.args.other.now.purges)) × ((c.args.self.now.front ≡ c.args.other.now.front) × (c.args.self.now.purges ≡ c.args.other.now.purges) → c.if-eq.value ≡ true)
fronts c =
    let front = front_told c.self.inside.front c.other.inside.front c.args.self.now.front c.args.other.now.front c.eq.result
    (ap (λ (k : ReplicaState). k.front) c.self.view_is) (ap (λ (k : ReplicaState). k.front) c.other.view_is) c.eq.ensures in
    elim c.if-eq.branch [
      | then-eq w ↦
          let purges = front_told c.self.inside.purges c.other.inside.purges c.args.self.now.purges c.args.other.now.purges w.eq-then-eq.result
          (ap (λ (k : ReplicaState). k.purges) c.self.view_is) (ap (λ (k : ReplicaState). k.purges) c.other.view_is) w.eq-then-eq.ensures in
          (λ told. (front.0 w.if-eq.true, purges.0 (sym w.value-is ∙ told)), λ same. w.value-is ∙ purges.1 same.1)
      | else-eq w ↦ (λ told. let no_ = w.value-is in let other_ = w.if-eq.false in absurd cc, λ same. let front_ = front.1 same.0 in let no_ = w.if-eq.false in absurd cc)
    ]

pub returns-then-eq-2 : goal.returns-then-eq-2
returns-then-eq-2 c =
    let same = (fronts c.before.before).0 c.if-eq-2.true in (
      λ told. same_view c.args.self.now c.args.other.now same.0 same.1 (c.same_records.ensures.0 told),
      λ same. c.same_records.ensures.1 (ap (λ (v : View). v.records) same),
    )

pub returns-else-eq-2 : goal.returns-else-eq-2
returns-else-eq-2 c = (
  λ told. let no_ = c.if-eq-2.false in absurd cc,
  λ same. (fronts c.before).1 (ap (λ (v : View). v.front) same, ap (λ (v : View). v.purges) same),
)
