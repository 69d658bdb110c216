use Rattle.std.proofs.Common.{◌≡◌, ◌∙◌, None, ap, refl, subst, sym}
use Rattle.state_ids.specs.Ids.{Id}
use Rattle.state_stamps.specs.Indexes.{AreIndexesOf, with_stamps}
use Rattle.state_stamps.proofs.OneIndex.{by_each}
use Rattle.state_replica.specs.Replicas.{records_in, stamps_in}
use Rattle.state_replica.proofs.replica.Replica.remove.Goals as goal

pub invariant_of-self : goal.invariant_of-self
invariant_of-self c =
    let old = stamps_in (records_in c.self.inside.homes.items) in
    let removed = c.remove_among-was.ensures in
    let id : Id = record { home = c.home.result; num = c.num.result } in
    let same : id ≡ c.args.id = rw (c.home.ensures.value, c.num.ensures.value) refl in
    let without : AreIndexesOf c.reindex.new.self.origins (with_stamps id None old) = c.reindex.ensures.entries old c.self.invariant.indexed (ap old same ∙ sym removed.was) in
    record {
      purges = c.self.invariant.purges;
      homes = removed.count ∙ c.self.invariant.homes;
      numbered = removed.numbered;
      ordered = removed.ordered;
      origins = c.reindex.ensures.nodes ∙ c.self.invariant.origins;
      indexed = by_each c.reindex.new.self.origins (with_stamps c.args.id None old) (stamps_in (records_in c.remove_among-was.new.homes.items)) removed.indexed
          (subst (λ (l : Id). AreIndexesOf c.reindex.new.self.origins (with_stamps l None old)) same without);
    }
