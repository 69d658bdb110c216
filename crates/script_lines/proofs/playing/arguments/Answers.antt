use Rattle.std.proofs.Common.{rules}
use Rattle.std.proofs.lemmas.Iterator.{items_from_collect}
use Rattle.std.proofs.lemmas.Iterator.Adapters.{YieldsList-from_skip, YieldsList-from_vec}
use Rattle.std.specs.Vec.Iter.{into_iter_items}
use Rattle.script_lines.proofs.playing.arguments.Goals as goal

pub returns : goal.returns
returns c =
    let all = YieldsList-from_vec {s = c.skip.result.iter} (into_iter_items c.args.given) (search rules) (search rules) in
    items_from_collect c.collect.result c.collect.ensures.ran (YieldsList-from_skip _ all c.skip.ensures.count)
