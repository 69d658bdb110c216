use Rattle.std.proofs.Common.{[], ◌∙◌, sym}
use Rattle.wire_frames.proofs.ToldLists.{as_many, same_count}
use Rattle.wire_frames.proofs.frame_fields.body_of.Goals as goal

pub new-requires-clause-homes : goal.new-requires-clause-homes
new-requires-clause-homes g c =
    let homes = c.in_ok-homes.homes.items in
    let put = c.in_ok-records_of.ensures.2 in
    record {
      purges = c.in_ok-purges.ensures.nodes ∙ sym c.in_ok-front.ensures.nodes;
      homes = same_count c.records_of.new.homes.items homes put.held ∙ as_many c.in_ok-nodes.nodes homes [] c.in_ok-homes.ensures.empty.none ∙ sym c.in_ok-front.ensures.nodes;
      numbered = put.told;
    }
