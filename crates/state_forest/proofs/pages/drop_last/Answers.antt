use Rattle.state_forest.proofs.PageHalves.{dropped}
use Rattle.state_forest.proofs.pages.drop_last.Goals as goal

pub returns-clause-items : goal.returns-clause-items
returns-clause-items c = (dropped c.args.pages.now.items c.pop.new.self.items c.in-Some.field-0 c.in-Some.ensures.items c.requires.last c.requires.empty).same

pub returns-clause-last : goal.returns-clause-last
returns-clause-last c = (dropped c.args.pages.now.items c.pop.new.self.items c.in-Some.field-0 c.in-Some.ensures.items c.requires.last c.requires.empty).last

pub returns-clause-spare : goal.returns-clause-spare
returns-clause-spare c = (dropped c.args.pages.now.items c.pop.new.self.items c.in-Some.field-0 c.in-Some.ensures.items c.requires.last c.requires.empty).spare
