use Rattle.std.proofs.Common.{Vec, Global, Ok}
use Rattle.state_forest.specs.declared.record.Member.{Member}
use Rattle.wire_frames.specs.Rules.{next_nested}
use Rattle.wire_frames.specs.Reading.{member_at}
use Rattle.std.proofs.lemmas.Result.{err_from_is_err_and}
use Rattle.wire_frames.proofs.Loop.{goes_on, ends, is_done, reads_length}
use Rattle.wire_frames.proofs.record_fields.each_member.Goals as goal

pub returns-in_err-member : goal.returns-in_err-member
returns-in_err-member g c =
    let seen = g.I.Input.seen in
    let p = err_from_is_err_and c.from_residual-in_err-member.result c.from_residual-in_err-member.ensures.1 in
    rw (p.1, p.2) (record { count = tt; gives = ends (member_at c.args.version c.args.stamp) next_nested c.args.count c.args.num (seen c.args.input.now) c.members.list.items c.members.counter c.members.last (seen c.members.input) (seen c.member_of.new.input) c.in_err-member.field-0.0 c.members-test.true c.members.invariant c.in_err-member.ensures })

pub members-preserved : goal.members-preserved
members-preserved g c =
    let seen = g.I.Input.seen in
    rw (c.in_ok-push.ensures.items, c.next_nested-last.ensures) (goes_on (member_at c.args.version c.args.stamp) next_nested c.args.count c.args.num (seen c.args.input.now) c.members.list.items c.members.counter c.members.last (seen c.members.input) (seen c.member_of.new.input) (λ x. x) c.in_ok-member.member c.members-test.true c.members.invariant c.in_ok-member.ensures)

pub returns : goal.returns
returns g c =
    let seen = g.I.Input.seen in
    let done = is_done (member_at c.args.version c.args.stamp) next_nested c.args.count c.args.num (seen c.args.input.now) c.members.counter c.members.last (seen c.members.input) (λ (x : Vec Member Global). x.items) c.members.list c.members-test.false c.members.invariant in
    record {
      gives = done;
      count = reads_length (member_at c.args.version c.args.stamp) next_nested c.args.count c.args.num (seen c.args.input.now) (seen c.members.input) (λ (x : Vec Member Global). x.items) (Ok c.members.list) done;
    }
