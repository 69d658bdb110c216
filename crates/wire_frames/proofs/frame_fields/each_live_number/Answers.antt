use Rattle.std.proofs.Common.{ℕ, Vec, Global}
use Rattle.std.specs.Int.{w64}
use Rattle.wire_frames.specs.FrameFields.{Rest, Read, number_at}
use Rattle.wire_frames.specs.Rules.{is_live_number}
use Rattle.std.proofs.lemmas.Result.{err_from_is_err_and}
use Rattle.wire_frames.proofs.Loop.{goes_on, ends, is_done}
use Rattle.wire_frames.proofs.frame_fields.each_live_number.Goals as goal

abbrev item : ℕ → ℕ → Rest → Read ℕ
item top last = number_at w64 (is_live_number top last)

pub returns-in_err-num : goal.returns-in_err-num
returns-in_err-num g c =
    let seen = g.I.Input.seen in
    let p = err_from_is_err_and c.from_residual.result c.from_residual.ensures.1 in
    rw (p.1, p.2) (ends (item c.args.top) (λ (last n : ℕ). n) c.args.count 0 (seen c.args.input.now) c.numbers.list.items c.numbers.counter c.numbers.last (seen c.numbers.input) (seen c.live_number_of.new.input) c.in_err-num.field-0.0 c.numbers-test.true c.numbers.invariant c.in_err-num.ensures)

pub numbers-preserved : goal.numbers-preserved
numbers-preserved g c =
    let seen = g.I.Input.seen in
    rw c.in_ok-push.ensures.items (goes_on (item c.args.top) (λ (last n : ℕ). n) c.args.count 0 (seen c.args.input.now) c.numbers.list.items c.numbers.counter c.numbers.last (seen c.numbers.input) (seen c.live_number_of.new.input) (λ x. x) c.in_ok-num.num c.numbers-test.true c.numbers.invariant c.in_ok-num.ensures)

pub returns : goal.returns
returns g c =
    let seen = g.I.Input.seen in
    is_done (item c.args.top) (λ (last n : ℕ). n) c.args.count 0 (seen c.args.input.now) c.numbers.counter c.numbers.last (seen c.numbers.input) (λ (x : Vec ℕ Global). x.items) c.numbers.list c.numbers-test.false c.numbers.invariant
