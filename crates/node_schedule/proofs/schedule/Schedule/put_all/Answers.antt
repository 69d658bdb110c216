use Rattle.std.proofs.Common.{subst, sym, ◌≡◌, ◌<◌}
use Rattle.std.proofs.lemmas.List.Elements.{All-nil}
use Rattle.node_schedule.specs.Calling.{Calling}
use Rattle.node_schedule.specs.Listing.{PutsSome}
use Rattle.node_schedule.specs.Named.{AllNamed, Passes}
use Rattle.node_schedule.specs.Once.{HasEachOnce, calls_of, current_of, dues_of, duties_for, slips_of}
use Rattle.node_schedule.proofs.Named.{recalled_names}
use Rattle.node_schedule.proofs.Lists.{Lists, lists_called, lists_current, lists_forgotten, lists_once, lists_put}
use Rattle.node_schedule.proofs.schedule.Schedule.put_all.Goals as goal

lists : (c : goal.After-forget_others) → Lists c.args.now c.args.duties.items c.args.self.now c.put_each-is_whole.new.self c.put_each-is_whole.result
lists c = record {
  puts = λ who. subst (λ (old : Calling). PutsSome c.args.now who (duties_for who c.args.duties.items) 0 old c.put_each-is_whole.new.self c.put_each-is_whole.result) c.recall.ensures.exact
      (c.put_each-is_whole.ensures.puts who);
}

pub returns-clause-named : goal.returns-clause-named
returns-clause-named c = λ test all added.
    c.forget_others.ensures.named test
    (c.put_each-is_whole.ensures.named test (c.recall.ensures.named test all (All-nil (Passes test))) added) (All-nil (Passes test))

pub returns-clause-once : goal.returns-clause-once
returns-clause-once c = λ single once.
    subst HasEachOnce (sym c.forget_others.ensures.exact) (lists_once c.args.now c.args.duties.items c.args.self.now c.put_each-is_whole.new.self c.put_each-is_whole.result (lists c) single once)

pub returns-clause-called : goal.returns-clause-called
returns-clause-called c = λ who.
    subst (λ (new : Calling). calls_of who new.slips ≡ calls_of who c.args.self.now.slips) (sym c.forget_others.ensures.exact)
    (lists_called c.args.now c.args.duties.items c.args.self.now c.put_each-is_whole.new.self c.put_each-is_whole.result (lists c) who)

pub returns-clause-put : goal.returns-clause-put
returns-clause-put c = λ whole single who named may.
    subst (λ (new : Calling). 0 < dues_of who new.now.hosts) (sym c.forget_others.ensures.exact)
    (lists_put c.args.now c.args.duties.items c.args.self.now c.put_each-is_whole.new.self c.put_each-is_whole.result (lists c) whole single who named may)

pub returns-clause-forgotten : goal.returns-clause-forgotten
returns-clause-forgotten c = λ who none free.
    subst (λ (new : Calling). slips_of who new.slips ≡ 0) (sym c.forget_others.ensures.exact)
    (lists_forgotten c.args.now c.args.duties.items c.args.self.now c.put_each-is_whole.new.self c.put_each-is_whole.result (lists c) who none free)

pub returns-clause-only : goal.returns-clause-only
returns-clause-only c = λ test added.
    c.forget_others.ensures.named test
    (c.put_each-is_whole.ensures.named test (subst (AllNamed test) (sym c.recall.ensures.exact) (recalled_names test c.args.self.now)) added) (All-nil (Passes test))

pub returns-clause-outdated : goal.returns-clause-outdated
returns-clause-outdated c = λ who.
    subst (λ (new : Calling). current_of who new.slips ≡ 0) (sym c.forget_others.ensures.exact)
    (lists_current c.args.now c.args.duties.items c.args.self.now c.put_each-is_whole.new.self c.put_each-is_whole.result (lists c) who)
