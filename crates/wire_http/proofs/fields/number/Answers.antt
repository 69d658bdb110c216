use Rattle.std.proofs.Common.{sym}
use Rattle.wire_http.proofs.Values.{number_more, number_whole, digits_of_number}
use Rattle.wire_http.proofs.fields.number.Goals as goal

pub loop-b-preserved : goal.loop-b-preserved
loop-b-preserved c = number_more c.args.text.now c.loop-b.b-index c.loop-b.n c.min-n.result c.args.most c.from.result c.loop-b-test.true
    (digits_of_number c.args.text.now (sym c.if-not-is_digits.ensures)) c.loop-b.invariant c.from.ensures c.min-n.ensures

pub returns : goal.returns
returns c = number_whole c.args.text.now c.loop-b.b-index c.loop-b.n c.args.most c.loop-b-test.false (sym c.if-not-is_digits.ensures) c.loop-b.invariant
