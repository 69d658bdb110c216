use Rattle.std.proofs.Common.{◌≤◌, ◌<◌, ◌∙◌, sym, ap, subst, Some, List, inl, inr}
use Rattle.std.specs.List.{AllByRecursion}
use Rattle.state_forest.specs.declared.record.Record.{Record}
use Rattle.state_forest.specs.Forests.{AreOf}
use Rattle.state_forest.specs.Shape.{found_at}
use Rattle.state_forest.proofs.TakenRecords.{IsPushed, none_has, pushed}
use Rattle.state_forest.proofs.forest.Forest.add_lacking.Goals as goal
use Rattle.state_forest.proofs.forest.Forest.add_lacking.Goals.{In_ok-copied}

is_pushed : (c : In_ok-copied) → IsPushed c.args.self.now.home c.args.heard.now.num c.in_ok-copied.field-0 c.args.news.now.records
is_pushed c =
    pushed c.args.self.now.home c.args.heard.now.num c.in_ok-copied.field-0 c.args.news.now.records
    (ap (λ (r : Record). r.home) c.in_ok-copied.ensures ∙ c.requires.heard) (ap (λ (r : Record). r.num) c.in_ok-copied.ensures) c.requires.order c.requires.last

-- the record changes nothing, and is not told
pub returns-then-knows-clause-told : goal.returns-then-knows-clause-told
returns-then-knows-clause-told c =
    inr (none_has c.args.self.now.home c.args.heard.now.num c.args.news.now.records c.requires.last, c.knows.ensures c.if-knows.true)

pub push_last-requires-clause-last : goal.push_last-requires-clause-last
push_last-requires-clause-last c =
    subst (λ n. AllByRecursion (λ (q : Record). q.num < n) c.args.news.now.records) (sym (ap (λ (r : Record). r.num) (c.in_ok-copied.ensures))) c.requires.last

pub returns-clause-order : goal.returns-clause-order
returns-clause-order c =
    subst (AreOf c.args.self.now.home) (sym c.in_ok-push_last.ensures.ok) (is_pushed (goal.at.returns-clause-order c).In_ok-copied).order

pub returns-clause-last : goal.returns-clause-last
returns-clause-last c = subst (AllByRecursion (λ (q : Record). q.num ≤ c.args.heard.now.num)) (sym c.in_ok-push_last.ensures.ok) (is_pushed (goal.at.returns-clause-last c).In_ok-copied).last

pub returns-clause-told : goal.returns-clause-told
returns-clause-told c =
    inl (ap (λ (rs : List Record). found_at c.args.self.now.home rs c.args.heard.now.num) c.in_ok-push_last.ensures.ok
    ∙ (is_pushed (goal.at.returns-clause-told c).In_ok-copied).found ∙ ap Some c.in_ok-copied.ensures)

pub returns-clause-others : goal.returns-clause-others
returns-clause-others c = λ num other.
    ap (λ (rs : List Record). found_at c.args.self.now.home rs num) c.in_ok-push_last.ensures.ok ∙ (is_pushed (goal.at.returns-clause-others c).In_ok-copied).others num other
