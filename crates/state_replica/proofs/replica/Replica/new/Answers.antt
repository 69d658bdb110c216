use Rattle.std.proofs.Common.{◌≡◌, ◌∙◌, ℕ, List, [], length, sym, ap}
use Rattle.std.proofs.lemmas.List.{length-replicate}
use Rattle.state_replica.specs.Replicas.{AreEmptyHomes}
use Rattle.state_stamps.specs.declared.stamp_entry.StampEntry.{StampEntry}
use Rattle.state_replica.proofs.EmptyHomes.{empty_indexed, empty_ordered}
use Rattle.state_replica.proofs.replica.Replica.new.Goals as goal

pub invariant_of-result : goal.invariant_of-result
invariant_of-result c =
    let homes = c.in_ok-empty_homes.field-0.items in
    let empty : AreEmptyHomes c.args.nodes homes = c.in_ok-empty_homes.ensures in
    let counts : length c.zero.result ≡ c.args.nodes = ap (λ (v : List ℕ). length v) c.zero.ensures ∙ length-replicate c.args.nodes 0 in
    let purges : length c.zero-2.result ≡ c.args.nodes = ap (λ (v : List ℕ). length v) c.zero-2.ensures ∙ length-replicate c.args.nodes 0 in
    record {
      purges = purges ∙ sym counts;
      homes = empty.count ∙ sym counts;
      numbered = empty.numbered;
      ordered = empty_ordered c.args.nodes homes empty.empty;
      origins = ap (λ (os : List (List StampEntry)). length os) c.in_ok-new.ensures.origins ∙ length-replicate {A = List StampEntry} 8 [];
      indexed = empty_indexed c.args.nodes homes c.in_ok-new.field-0.origins empty.empty c.in_ok-new.ensures.empty;
    }
