use Rattle.std.proofs.Common.{drop, length, subst, sym, ◌++◌}
use Rattle.std.proofs.lemmas.List.Elements.{All-append, All-drop, All-map, All-nil, All-take}
use Rattle.node_schedule.specs.Named.{AllDue, AllKept, AllNamed, AllWaiting, IsKept, Passes}
use Rattle.node_schedule.specs.Turns.{Turns, recalled}
use Rattle.node_schedule.proofs.schedule.Schedule.recall.Goals as goal

pub returns-clause-named : goal.returns-clause-named
returns-clause-named c = λ test all added.
    let inside = subst (AllNamed test) (sym c.self.view_is) all in
    let slips = c.recall_each.new.slips in
    let kept = c.recall_each.ensures.kept test (subst (AllKept test) (sym c.deref_mut.ensures.value) inside.kept) in
    let rest = All-drop (IsKept test) (length slips) c.self.inside.slips.items inside.kept in
    record {
      waiting = subst (λ (now : Turns). AllWaiting test now.hosts) (sym c.recall.ensures)
          (All-map (AllDue test) recalled c.self.inside.hosts.hosts (λ k d e. All-nil (Passes test)));
      kept = All-take (IsKept test) c.self.inside.slips.len (slips ++ drop (length slips) c.self.inside.slips.items)
          (All-append (IsKept test) slips (drop (length slips) c.self.inside.slips.items) kept rest);
    }
