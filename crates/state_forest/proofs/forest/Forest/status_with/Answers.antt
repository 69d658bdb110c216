use Rattle.std.proofs.Common.{ℕ, List, Option, ap, subst, ◌∙◌, is_some}
use Rattle.state_forest.specs.declared.record.Record.{Record}
use Rattle.state_forest.specs.Forests.{AreOf, HomeRecords}
use Rattle.state_forest.specs.Places.{put_record}
use Rattle.state_forest.specs.Said.{shown_at}
use Rattle.state_forest.specs.Shape.{found_at}
use Rattle.state_forest.specs.Standing.{answered}
use Rattle.state_forest.proofs.RecordsReplaced.{exchanged, same_forest}
use Rattle.state_forest.proofs.RecordsSayTheSet.{put_found}
use Rattle.state_forest.proofs.forest.Forest.status_with.Goals as goal

pub exchange-next-requires-clause-home : goal.exchange-next-requires-clause-home
exchange-next-requires-clause-home c =
    let order = subst (λ (f : HomeRecords). AreOf f.home f.records) c.self.view_is c.self.invariant in
    let known = exchanged c.args.self.now c.exchange-kept.new.self c.args.next c.exchange-kept.result order c.requires c.exchange-kept.ensures.home c.exchange-kept.ensures.records c.exchange-kept.ensures.back in
    known.own

pub exchange-next-requires-clause-there : goal.exchange-next-requires-clause-there
exchange-next-requires-clause-there c =
    let order = subst (λ (f : HomeRecords). AreOf f.home f.records) c.self.view_is c.self.invariant in
    let known = exchanged c.args.self.now c.exchange-kept.new.self c.args.next c.exchange-kept.result order c.requires c.exchange-kept.ensures.home c.exchange-kept.ensures.records c.exchange-kept.ensures.back in
    ap is_some known.there

pub returns-clause-unchanged : goal.returns-clause-unchanged
returns-clause-unchanged c =
    let order = subst (λ (f : HomeRecords). AreOf f.home f.records) c.self.view_is c.self.invariant in
    let known = exchanged c.args.self.now c.exchange-kept.new.self c.args.next c.exchange-kept.result order c.requires c.exchange-kept.ensures.home c.exchange-kept.ensures.records c.exchange-kept.ensures.back in
    same_forest c.exchange-next.new.self c.args.self.now (c.exchange-next.ensures.home ∙ c.exchange-kept.ensures.home) (c.exchange-next.ensures.records ∙ known.back)
    (c.exchange-next.ensures.spare ∙ c.exchange-kept.ensures.spare)

pub returns-clause-back : goal.returns-clause-back
returns-clause-back c =
    let order = subst (λ (f : HomeRecords). AreOf f.home f.records) c.self.view_is c.self.invariant in
    let known = exchanged c.args.self.now c.exchange-kept.new.self c.args.next c.exchange-kept.result order c.requires c.exchange-kept.ensures.home c.exchange-kept.ensures.records c.exchange-kept.ensures.back in
    let there = known.there in
    let read = c.exchange-next.ensures.back in
    cc

pub returns-clause-says : goal.returns-clause-says
returns-clause-says c some =
    let home = c.exchange-kept.ensures.home in
    let records = c.exchange-kept.ensures.records in
    let next = c.args.next in
    let found = put_found c.args.self.now.home next c.args.self.now.records c.requires in
    c.status_at-status.ensures
    ∙ ap (λ (h : ℕ). let at = found_at h c.exchange-kept.new.self.records in answered (is_some (at next.num)) (shown_at at next.num)) home
    ∙ ap (λ (rs : List Record). let at = found_at c.args.self.now.home rs in answered (is_some (at next.num)) (shown_at at next.num)) records
    ∙ ap (λ (o : Option Record). answered (is_some o) (shown_at (found_at c.args.self.now.home (put_record next c.args.self.now.records)) next.num)) found
