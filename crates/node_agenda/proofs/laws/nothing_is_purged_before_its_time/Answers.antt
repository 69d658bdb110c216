use Rattle.std.proofs.lemmas.List.Elements.{All-nil}
use Rattle.std.proofs.Common.{[]}
use Rattle.node_agenda.specs.Sweeps.{IsSince}
use Rattle.node_agenda.proofs.Keeping.{lists_since, noted_call_since, purged_since, purges_kept, seen_is_since, turned_since}
use Rattle.node_agenda.proofs.laws.nothing_is_purged_before_its_time.Goals as goal

pub returns-clause-none : goal.returns-clause-none
returns-clause-none c = All-nil (IsSince [])

pub returns-clause-seen : goal.returns-clause-seen
returns-clause-seen c = seen_is_since

pub returns-clause-turned : goal.returns-clause-turned
returns-clause-turned c = turned_since

pub returns-clause-purged : goal.returns-clause-purged
returns-clause-purged c = purged_since

pub returns-clause-noted : goal.returns-clause-noted
returns-clause-noted c = noted_call_since

pub returns-clause-lists : goal.returns-clause-lists
returns-clause-lists c = lists_since

pub returns-clause-purges : goal.returns-clause-purges
returns-clause-purges c = purges_kept
