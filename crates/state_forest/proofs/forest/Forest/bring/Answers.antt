use Rattle.std.proofs.Common.{◌≡◌, ◌≤◌, ◌<◌, ◌∙◌, sym, ap, subst, nat_le, Some, List}
use Rattle.std.specs.List.{AllByRecursion}
use Rattle.state_forest.specs.declared.record.Record.{Record}
use Rattle.state_forest.specs.Forests.{AreOf}
use Rattle.state_forest.specs.RecordMerges.{brought}
use Rattle.state_forest.specs.OnlyChanges.{IsPut}
use Rattle.state_forest.specs.Shape.{found_at}
use Rattle.state_forest.proofs.TakenRecords.{IsNews, IsPushed, news_of, pushed}
use Rattle.state_forest.proofs.forest.Forest.bring.Goals as goal

news_is : (c : goal.After-push_last-arg-1) → IsNews c.args.self.now.home c.args.self.now.records (nat_le c.args.heard.num c.args.mine) c.args.heard (Some c.in-Some.next)
news_is c = subst (IsNews c.args.self.now.home c.args.self.now.records (nat_le c.args.heard.num c.args.mine) c.args.heard) c.in-Some.is c.in_ok-next.ensures

own_is : (c : goal.After-push_last-arg-1) → (c.in-Some.next.home ≡ c.args.self.now.home) × (c.in-Some.next.num ≡ c.args.heard.num)
own_is c = news_of c.args.self.now.home c.args.self.now.records (nat_le c.args.heard.num c.args.mine) c.args.heard c.in-Some.next c.requires.heard (news_is c)

is_pushed : (c : goal.After-push_last-arg-1) → IsPushed c.args.self.now.home c.args.heard.num c.in-Some.next c.args.records.now.records
is_pushed c = pushed c.args.self.now.home c.args.heard.num c.in-Some.next c.args.records.now.records (own_is c).0 (own_is c).1 c.requires.order c.requires.last

pub push_last-requires-clause-home : goal.push_last-requires-clause-home
push_last-requires-clause-home c = (own_is c).0 ∙ sym c.requires.home

pub push_last-requires-clause-last : goal.push_last-requires-clause-last
push_last-requires-clause-last c = subst (λ n. AllByRecursion (λ (q : Record). q.num < n) c.args.records.now.records) (sym (own_is c).1) c.requires.last

pub returns-in_ok-push_last-clause-order : goal.returns-in_ok-push_last-clause-order
returns-in_ok-push_last-clause-order c =
    subst (AreOf c.args.self.now.home) (sym c.in_ok-push_last.ensures.ok) (is_pushed c.before.before.before).order

pub returns-in_ok-push_last-clause-last : goal.returns-in_ok-push_last-clause-last
returns-in_ok-push_last-clause-last c =
    subst (AllByRecursion (λ (q : Record). q.num ≤ c.args.heard.num)) (sym c.in_ok-push_last.ensures.ok) (is_pushed c.before.before.before).last

pub returns-in_ok-push_last-clause-put : goal.returns-in_ok-push_last-clause-put
returns-in_ok-push_last-clause-put c =
    let home = c.args.self.now.home in
    let own = found_at home c.args.self.now.records c.args.heard.num in
    let found : found_at home c.push_last.new.self.records c.args.heard.num ≡ Some c.in-Some.next =
    ap (λ (rs : List Record). found_at home rs c.args.heard.num) c.in_ok-push_last.ensures.ok ∙ (is_pushed c.before.before.before).found in
    subst (IsPut own (brought (nat_le c.args.heard.num c.args.mine) own (Some c.args.heard))) (sym found) (news_is c.before.before.before)

pub returns-in_ok-push_last-clause-others : goal.returns-in_ok-push_last-clause-others
returns-in_ok-push_last-clause-others c = λ num other.
    ap (λ (rs : List Record). found_at c.args.self.now.home rs num) c.in_ok-push_last.ensures.ok ∙ (is_pushed c.before.before.before).others num other
