use Rattle.std.proofs.Common.{rules}
use Rattle.wire_narayana.proofs.GivenLinks.{end_of_end, given_in_end}
use Rattle.wire_narayana.proofs.given_link.listed.Goals as goal

pub loop-turn-preserved : goal.loop-turn-preserved
loop-turn-preserved c =
    let text = c.args.text.now in
    let rest = c.loop-turn.rest.now in (
      end_of_end text rest c.in-Some.after.now c.loop-turn.invariant.0 c.in-Some.ensures.1,
      c.in_ok-add.ensures text (given_in_end text rest c.in-Some.url.now c.loop-turn.invariant.0 c.in-Some.ensures.0) c.loop-turn.invariant.1,
      search rules,
    )
