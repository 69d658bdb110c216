use Rattle.std.proofs.Common.{◌≡◌, ◌+◌, sym, ap, subst, ◌∙◌, take, List, ◌++◌, ◌∷◌, []}
use Rattle.std.specs.List.{AllByRecursion}
use Rattle.std.proofs.lemmas.List.{take_more}
use Rattle.state_facts.proofs.Chains.{drop_at}
use Rattle.state_facts.specs.declared.fact.Fact.{Fact}
use Rattle.state_facts.specs.Sets.{IsNumbered}
use Rattle.state_forest.specs.Forests.{HomeRecords}
use Rattle.state_forest.specs.Places.{put_record}
use Rattle.state_forest.proofs.RecordsSoFar.{IsMade, begun_home, made_put, made_skip}
use Rattle.state_forest.proofs.forest.Forest.of_facts.Goals as goal
use Rattle.state_forest.proofs.forest.Forest.of_facts.Goals.{in-Some+in_ok-made+in_ok-reserve, in_default}

pub put-requires-clause-home : goal.put-requires-clause-home
put-requires-clause-home c =
    c.in_ok-made.ensures.home
    ∙ begun_home c.args.home c.args.facts.now c.fact-item.result c.in-Some.id c.in-Some.ensures
    ∙ sym c.loop-fact.invariant.made.own
    ∙ sym c.reserve.ensures.home

pub loop-fact-preserved : goal.loop-fact-preserved
loop-fact-preserved c = record {
  made =
      let one_more : take (c.loop-fact.fact-index + 1) c.args.facts.now ≡ take c.loop-fact.fact-index c.args.facts.now ++ c.fact-item.result ∷ [] = take_more c.args.facts.now c.loop-fact.fact-index c.fact-item.result c.loop-fact-test.true ∙ ap (λ (f : Fact). take c.loop-fact.fact-index c.args.facts.now ++ f ∷ []) (sym c.fact-item.is) in
      subst (λ (done : List Fact). IsMade c.args.nodes c.args.home c.args.facts.now done c.match-held_begin.forest) (sym one_more)
      (elim c.match-held_begin.branch [
        | in-Some+in_ok-made+in_ok-reserve w ↦
            made_put c.args.nodes c.args.home c.args.facts.now (take c.loop-fact.fact-index c.args.facts.now) c.fact-item.result c.loop-fact.forest c.match-held_begin.forest w.in_ok-made.made w.in-Some.id
            c.loop-fact.invariant.made w.in-Some.ensures w.in_ok-made.ensures.home w.in_ok-made.ensures.entry (ap (λ (h : HomeRecords). h.home) w.forest-is ∙ w.put.ensures.home ∙ w.reserve.ensures.home)
            (ap (λ (h : HomeRecords). h.records) w.forest-is ∙ w.put.ensures.records ∙ ap (put_record w.in_ok-made.made) w.reserve.ensures.records)
        | in_default w ↦
            subst (IsMade c.args.nodes c.args.home c.args.facts.now (take c.loop-fact.fact-index c.args.facts.now ++ c.fact-item.result ∷ [])) (sym w.forest-is)
            (made_skip c.args.nodes c.args.home c.args.facts.now (take c.loop-fact.fact-index c.args.facts.now) c.fact-item.result c.loop-fact.forest c.loop-fact.invariant.made w.in_default.ensures)
      ]);
  numbered =
      let read = drop_at c.args.facts.now c.loop-fact.fact-index c.fact-item.result c.loop-fact-test.true c.fact-item.is in
      (subst (AllByRecursion IsNumbered) read c.loop-fact.invariant.numbered).1;
}
