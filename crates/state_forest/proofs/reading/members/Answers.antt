use Rattle.std.proofs.Common.{sym, ap, arith, length, length-append, ◌∷◌, [], List}
use Rattle.state_forest.specs.declared.record.Member.{Member}
use Rattle.state_forest.proofs.MembersAndStamps.{members_step, members_done, members_start}
use Rattle.state_forest.proofs.reading.members.Goals as goal

pub places-init : goal.places-init
places-init c = record {
  counted = ap (λ (ms : List Member). length ms) c.new-members.ensures;
  rest = λ kept. members_start c.args.facts.now c.args.id c.new-members.result c.requires.numbered c.new-members.ensures;
}

pub returns-in_default : goal.returns-in_default
returns-in_default c kept =
    members_done c.args.facts.now c.args.id c.places.after c.places.members (sym c.in_default.ensures) (c.places.invariant.rest kept)

pub places-preserved : goal.places-preserved
places-preserved c = record {
  counted = omega (arith, ap (λ (ms : List Member). length ms) c.in_ok-push.ensures.ok, length-append c.places.members (c.in_ok-member.field-0 ∷ []), c.places.invariant.counted);
  rest = λ kept. members_step c.args.facts.now c.args.id c.places.after c.in-Some.fact.now c.places.members c.push.new.self c.in_ok-member.field-0 kept (sym c.in-Some.ensures) c.in_ok-member.ensures c.in_ok-push.ensures.ok (c.places.invariant.rest kept);
}
