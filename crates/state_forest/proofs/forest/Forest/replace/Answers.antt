use Rattle.std.proofs.Common.{◌≡◌, sym, ap, subst, ◌∙◌, true, is_some, slice_get}
use Rattle.state_forest.specs.Forests.{AreOf, HomeRecords}
use Rattle.state_forest.specs.Places.{count_below, with_number}
use Rattle.state_forest.proofs.RecordsReplaced.{found_at}
use Rattle.state_forest.proofs.Puts.{put_are_of}
use Rattle.state_forest.proofs.Removals.{room_for}
use Rattle.state_forest.proofs.forest.Forest.replace.Goals as goal

pub replace-requires-clause-room : goal.replace-requires-clause-room
replace-requires-clause-room c =
    room_for c.self.inside.home c.self.inside.records.items _ c.args.self.now c.args.added c.self.view_is c.self.invariant c.requires.home c.requires.room

pub invariant_of-self : goal.invariant_of-self
invariant_of-self c =
    subst (AreOf c.self.inside.home) (sym c.replace.ensures.items)
    (put_are_of c.self.inside.home c.args.added c.self.inside.records.items (c.requires.home ∙ sym (ap (λ (h : HomeRecords). h.home) c.self.view_is)) c.self.invariant)

pub returns-clause-replaced : goal.returns-clause-replaced
returns-clause-replaced c there =
    let found = found_at c.self.inside.home c.self.inside.records.items _ c.args.self.now c.args.added c.self.view_is c.self.invariant c.requires.home in
    let place : is_some (with_number c.args.added.num (slice_get c.self.inside.records.items (count_below c.args.added.num c.self.inside.records.items))) ≡ true = sym (ap is_some found) ∙ there in
    c.replace.ensures.replaced place ∙ ap (λ (h : HomeRecords). h.spare) c.self.view_is

pub returns-clause-was : goal.returns-clause-was
returns-clause-was c =
    c.replace.ensures.was
    ∙ sym (found_at c.self.inside.home c.self.inside.records.items _ c.args.self.now c.args.added c.self.view_is c.self.invariant c.requires.home)
