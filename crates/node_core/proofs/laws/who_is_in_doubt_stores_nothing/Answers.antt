use Rattle.node_core.proofs.Barred.{heard, looked, refused, told}
use Rattle.node_core.proofs.laws.who_is_in_doubt_stores_nothing.Goals as goal

pub returns-clause-told : goal.returns-clause-told
returns-clause-told c = told

pub returns-clause-refused : goal.returns-clause-refused
returns-clause-refused c = refused

pub returns-clause-looked : goal.returns-clause-looked
returns-clause-looked c = looked

pub returns-clause-heard : goal.returns-clause-heard
returns-clause-heard c = heard
