use Rattle.std.proofs.Common.{subst, sym}
use Rattle.std.proofs.lemmas.List.Elements.{All-filter}
use Rattle.node_schedule.specs.Named.{AllDue, AllNamed, AllWaiting}
use Rattle.node_schedule.specs.Turns.{Turns, is_kept}
use Rattle.node_schedule.proofs.schedule.Schedule.forget_others.Goals as goal

pub returns-clause-named : goal.returns-clause-named
returns-clause-named c = λ test all added.
    let inside = subst (AllNamed test) (sym c.self.view_is) all in
    record {
      waiting = subst (λ (now : Turns). AllWaiting test now.hosts) (sym c.forget.ensures)
          (All-filter is_kept (AllDue test) c.self.inside.hosts.hosts inside.waiting);
      kept = c.forget_unlisted.ensures.kept test inside.kept;
    }
