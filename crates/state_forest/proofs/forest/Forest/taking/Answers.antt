use Rattle.std.proofs.Common.{◌≡◌, ◌∙◌, ◌&&◌, ℕ, ap, sym, List, Bool, is_none, nat_le, subst}
use Rattle.state_ids.specs.Ids.{Id}
use Rattle.state_forest.specs.declared.record.Record.{Record}
use Rattle.state_forest.specs.RecordMerges.{held_numbers, is_gone}
use Rattle.state_forest.specs.OnlyChanges.{AreOnlyChanges, ids_lost}
use Rattle.state_forest.specs.Shape.{found_at}
use Rattle.state_forest.proofs.ChangedRecords.{changes_are_of}
use Rattle.state_forest.proofs.OnlyWhatChanges.{only_changes}
use Rattle.state_forest.proofs.TakenRecords.{AreGone, ids_are_gone, takes}
use Rattle.state_forest.proofs.forest.Forest.taking.Goals as goal

gone_is : (c : goal.Joined-other-3) → c.in_ok-removed.removed.items ≡ ids_lost c.args.self.now.home c.args.told (held_numbers c.args.other.held) c.args.other.records.records c.args.self.now.records
gone_is c =
    let held = held_numbers c.args.other.held in
    let other = c.args.other.records.records in
    c.in_ok-removed.ensures
    ∙ ap (λ (rs : List Record). ids_lost c.args.other.records.home c.args.told held other rs) c.records-own.ensures.records
    ∙ ap (λ (h : ℕ). ids_lost h c.args.told held other c.args.self.now.records) c.requires

only_is : (c : goal.Joined-other-3) → AreOnlyChanges c.args.self.now.home c.args.self.now.records c.in_ok-removed.removed.items c.in_ok-records.records.records
only_is c =
    only_changes c.args.self.now.home c.args.told c.args.mine (held_numbers c.args.other.held) c.args.self.now.records c.args.other.records.records c.in_ok-records.records.records c.in_ok-removed.removed.items
    c.records-own.ensures.order c.in_ok-records.ensures.order c.in_ok-records.ensures.put (gone_is c)

pub returns-clause-only : goal.returns-clause-only
returns-clause-only c = only_is c

pub returns-clause-order : goal.returns-clause-order
returns-clause-order c =
    changes_are_of c.args.self.now.home c.in_ok-removed.removed.items c.in_ok-records.records.records c.args.self.now.records c.in_ok-records.ensures.order c.records-own.ensures.order

pub returns-clause-taken : goal.returns-clause-taken
returns-clause-taken c = λ num.
    let home = c.args.self.now.home in
    let own = c.args.self.now.records in
    let other = c.args.other.records.records in
    let held = held_numbers c.args.other.held in
    let removed = c.in_ok-removed.removed.items in
    let test : ℕ → Bool = λ n. is_none (found_at home other n) && is_gone c.args.told held n in
    let gone = subst (λ (ls : List Id). AreGone test home own ls) (sym (gone_is c)) (ids_are_gone test home own c.records-own.ensures.order.homes) in
    takes home c.args.told (nat_le num c.args.mine) held removed c.in_ok-records.records.records own other num c.in_ok-records.ensures.order c.records-own.ensures.order (only_is c).homes gone (c.in_ok-records.ensures.put num)
