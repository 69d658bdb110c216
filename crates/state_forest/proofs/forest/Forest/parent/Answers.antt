use Rattle.std.proofs.Common.{sym, ap, ◌∙◌, None, Some}
use Rattle.state_forest.proofs.ParticipantAnswers.{parent_known, parent_lost}
use Rattle.state_forest.proofs.Overdue.{at, held_number, id_made}
use Rattle.state_forest.proofs.RecordsOfASet.{found_parent, found_root, held_if_found, held_parent, not_held}
use Rattle.state_forest.proofs.forest.Forest.parent.Goals as goal

pub returns-in_default-clause-settled : goal.returns-in_default-clause-settled
returns-in_default-clause-settled c nodes S whole numbered stands =
    parent_lost S c.args.id (not_held nodes S c.args.self.now.records c.args.id stands (sym c.in_default.ensures.found))

pub returns-in_default-parent-clause-settled : goal.returns-in_default-parent-clause-settled
returns-in_default-parent-clause-settled c nodes S whole numbered stands =
    let found = sym c.in-Some.ensures.found in
    let held = held_if_found nodes S c.args.self.now.records c.args.id c.in-Some.record.now stands found in
    parent_known S c.args.id None held (sym (found_root nodes S c.args.self.now.records c.args.id c.in-Some.record.now stands held found c.in_default-parent.is))

pub returns-clause-settled : goal.returns-clause-settled
returns-clause-settled c nodes S whole numbered stands =
    let found = sym c.in-Some.ensures.found in
    let held = held_if_found nodes S c.args.self.now.records c.args.id c.in-Some.record.now stands found in
    let up = found_parent nodes S c.args.self.now.records c.args.id c.in-Some.record.now c.in-Some-parent.place whole stands held found c.in-Some-parent.is in
    let number = held_number S (at c.args.id.home c.in-Some-parent.place.number) numbered (held_parent S c.args.id (at c.args.id.home c.in-Some-parent.place.number) whole held up) in
    let made = id_made c.new.result c.home.result c.in-Some-parent.place.number c.new.ensures.value c.new.ensures.exact number in
    let home = c.home.ensures ∙ sym c.in-Some.ensures.home in
    parent_known S c.args.id c.ok.result held (c.ok.ensures.value ∙ made ∙ ap (λ h. Some (at h c.in-Some-parent.place.number)) home ∙ sym up)
