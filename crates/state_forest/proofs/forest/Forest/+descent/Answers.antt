use Rattle.std.proofs.Common.{◌<◌, ◌-◌, sym, ap, ◌∙◌, arith, List, Option}
use Rattle.state_ids.specs.declared.outcome.Verdict.{Verdict}
use Rattle.state_forest.specs.Wants.{over}
use Rattle.std.specs.List.{list_any}
use Rattle.state_ids.specs.declared.status.MemberStatus.{MemberStatus}
use Rattle.state_forest.specs.declared.record.Member.{Member}
use Rattle.state_forest.specs.Shape.{found_at}
use Rattle.state_forest.specs.Statuses.{seen_by, shows_within}
use Rattle.state_forest.proofs.SeenMembers.{within_participant, within_left, within_none, within_bottom, within_nested}
use Rattle.state_forest.proofs.forest.Forest.+descent.Goals as goal

pub seen_in-returns-in_default : goal.seen_in-returns-in_default
seen_in-returns-in_default t c =
    within_none c.args.levels (found_at c.args.self.now.home c.args.self.now.records) c.args.num c.args.want c.in-Nested.child (sym c.in_default.ensures)
    ∙ ap (λ (m : Member). seen_by (λ test. shows_within c.args.levels test (found_at c.args.self.now.home c.args.self.now.records) c.args.num c.args.want m)) (sym c.in-Nested.is)

pub seen_in-returns-then-levels-eq0 : goal.seen_in-returns-then-levels-eq0
seen_in-returns-then-levels-eq0 t c =
    rw (c.if-levels-eq0.true, c.in-Nested.is) (within_bottom (found_at c.args.self.now.home c.args.self.now.records) c.args.num c.args.want c.in-Nested.child)

pub seen_in-returns-else-levels-eq0 : goal.seen_in-returns-else-levels-eq0
seen_in-returns-else-levels-eq0 t c =
    let some : 0 < c.args.levels = omega (arith, c.if-levels-eq0.false) in
    c.seen.ensures
    ∙ ap (λ (w : Option Verdict). seen_by (λ test. list_any (shows_within (c.args.levels - 1) test (found_at c.args.self.now.home c.args.self.now.records) c.in-Nested.child w) c.as_slice-members.result.now)) c.over.ensures
    ∙ ap (λ (ms : List Member). seen_by (λ test. list_any (shows_within (c.args.levels - 1) test (found_at c.args.self.now.home c.args.self.now.records) c.in-Nested.child (over c.in-Some.record.now.decision c.args.want)) ms)) c.as_slice-members.ensures.members
    ∙ within_nested c.args.levels (found_at c.args.self.now.home c.args.self.now.records) c.args.num c.args.want c.in-Nested.child c.in-Some.record.now some (sym c.in-Some.ensures)
    ∙ ap (λ (m : Member). seen_by (λ test. shows_within c.args.levels test (found_at c.args.self.now.home c.args.self.now.records) c.args.num c.args.want m)) (sym c.in-Nested.is)

pub seen_in-returns-in-Participant : goal.seen_in-returns-in-Participant
seen_in-returns-in-Participant t c =
    c.of.ensures
    ∙ ap (λ (s : MemberStatus). seen_by (λ test. test s)) c.status_of.ensures
    ∙ within_participant c.args.levels (found_at c.args.self.now.home c.args.self.now.records) c.args.num c.args.want c.in-Participant.participant
    ∙ ap (λ (m : Member). seen_by (λ test. shows_within c.args.levels test (found_at c.args.self.now.home c.args.self.now.records) c.args.num c.args.want m)) (sym c.in-Participant.is)

pub seen_in-returns-in-Left : goal.seen_in-returns-in-Left
seen_in-returns-in-Left t c =
    within_left c.args.levels (found_at c.args.self.now.home c.args.self.now.records) c.args.num c.args.want
    ∙ ap (λ (m : Member). seen_by (λ test. shows_within c.args.levels test (found_at c.args.self.now.home c.args.self.now.records) c.args.num c.args.want m)) (sym c.in-Left.is)
