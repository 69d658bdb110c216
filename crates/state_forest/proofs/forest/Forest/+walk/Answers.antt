use Rattle.std.proofs.Common.{◌≡◌, ◌<◌, ◌-◌, ◌+◌, refl, sym, ap, ◌∙◌, arith, length, suc}
use Rattle.state_forest.specs.Shape.{found_at}
use Rattle.state_forest.specs.Walks.{last_of, pending_within}
use Rattle.state_forest.proofs.LastInAWalk.{at_last, found_behind, within_pending, within_left, within_none, within_bottom, within_nested, within_settled}
use Rattle.state_forest.proofs.forest.Forest.+walk.Goals as goal

pub last_pending-returns-in-Some : goal.last_pending-returns-in-Some
last_pending-returns-in-Some t c =
    let found = pending_within c.args.levels (found_at c.args.self.now.home c.args.self.now.records) c.args.number in
    let xs = c.as_slice-members.result.now in
    let less : c.down.left - 1 < length xs = omega (arith, c.down-test.true, c.down.invariant.0) in
    let number : c.down.left ≡ c.down.left - 1 + 1 = omega (arith, c.down-test.true) in
    let last = at_last found xs (c.down.left - 1) c.down.left (c.down.left + 1) c.index-members-left.result less c.index-members-left.is number refl c.down.invariant.1 in
    let here = last ∙ ap (λ k. found k c.index-members-left.result) number ∙ sym c.in-Some.ensures in
    sym (found_behind found c.in-Some.found (c.down.left - 1) 1 c.down.left xs number here) ∙ ap (last_of found 1) c.as_slice-members.ensures.members

pub pending_in-returns-in_default : goal.pending_in-returns-in_default
pending_in-returns-in_default t c =
    sym (within_none c.args.levels (found_at c.args.self.now.home c.args.self.now.records) c.args.number c.args.slot c.in-Nested.child (sym c.in_default.ensures))
    ∙ ap (pending_within c.args.levels (found_at c.args.self.now.home c.args.self.now.records) c.args.number c.args.slot) (sym c.in-Nested.is)

pub pending_in-returns-then-levels-eq0 : goal.pending_in-returns-then-levels-eq0
pending_in-returns-then-levels-eq0 t c =
    rw (c.if-levels-eq0.true, c.in-Nested.is) (sym (within_bottom (found_at c.args.self.now.home c.args.self.now.records) c.args.number c.args.slot c.in-Nested.child))

pub pending_in-returns-else-levels-eq0 : goal.pending_in-returns-else-levels-eq0
pending_in-returns-else-levels-eq0 t c =
    let less : c.args.levels ≡ suc (c.args.levels - 1) = omega (arith, c.if-levels-eq0.false) in
    c.last_pending.ensures
    ∙ sym (within_nested c.args.levels (c.args.levels - 1) (found_at c.args.self.now.home c.args.self.now.records) c.args.number c.args.slot c.in-Nested.child c.in-Some.record.now less (sym c.in-Some.ensures))
    ∙ ap (pending_within c.args.levels (found_at c.args.self.now.home c.args.self.now.records) c.args.number c.args.slot) (sym c.in-Nested.is)

pub pending_in-returns-then-has_to_compensate : goal.pending_in-returns-then-has_to_compensate
pending_in-returns-then-has_to_compensate t c =
    sym (within_pending c.args.levels (found_at c.args.self.now.home c.args.self.now.records) c.args.number c.args.slot c.in-Participant.participant (sym c.has_to_compensate.ensures ∙ c.if-has_to_compensate.true))
    ∙ ap (pending_within c.args.levels (found_at c.args.self.now.home c.args.self.now.records) c.args.number c.args.slot) (sym c.in-Participant.is)

pub pending_in-returns-else-has_to_compensate : goal.pending_in-returns-else-has_to_compensate
pending_in-returns-else-has_to_compensate t c =
    sym (within_settled c.args.levels (found_at c.args.self.now.home c.args.self.now.records) c.args.number c.args.slot c.in-Participant.participant (sym c.has_to_compensate.ensures ∙ c.if-has_to_compensate.false))
    ∙ ap (pending_within c.args.levels (found_at c.args.self.now.home c.args.self.now.records) c.args.number c.args.slot) (sym c.in-Participant.is)

pub pending_in-returns-in-Left : goal.pending_in-returns-in-Left
pending_in-returns-in-Left t c =
    sym (within_left c.args.levels (found_at c.args.self.now.home c.args.self.now.records) c.args.number c.args.slot)
    ∙ ap (pending_within c.args.levels (found_at c.args.self.now.home c.args.self.now.records) c.args.number c.args.slot) (sym c.in-Left.is)
