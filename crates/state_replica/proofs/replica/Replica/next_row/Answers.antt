use Rattle.std.proofs.Common.{◌≡◌, ◌∙◌, Bool, true, Ok, Err, Result, ap, sym}
use Rattle.state_ids.specs.Ids.{is_fact_number}
use Rattle.state_ids.specs.declared.status.LraStatus.{LraStatus}
use Rattle.state_facts.specs.declared.refusal.Refusal.{Refusal}
use Rattle.state_forest.specs.Standing.{answered}
use Rattle.state_forest.proofs.Bools.{and_right}
use Rattle.theory_history.specs.Readings.{by_view}
use Rattle.state_replica.specs.Replicas.{view_of}
use Rattle.state_replica.proofs.replica.Replica.next_row.Goals as goal

pub returns-in-Ok : goal.returns-in-Ok
returns-in-Ok c =
    let t = by_view (view_of c.args.self.now) in
    let l = c.in-Some.id in
    let held : t.held l ≡ true = and_right (is_fact_number l.num) (t.held l) c.in-Some.ensures.0 in
    let told : Ok c.in-Ok.status ≡ answered true (t.shows l) = sym c.in-Ok.is ∙ c.shown.ensures ∙ ap (λ (b : Bool). answered b (t.shows l)) held in
    (c.in-Some.ensures, ok_same told)
  where
    ok_same : {a b : LraStatus} → ◌≡◌ {A = Result LraStatus Refusal} (Ok a) (Ok b) → a ≡ b
    ok_same e = cc

pub returns-in-Err : goal.returns-in-Err
returns-in-Err c =
    let t = by_view (view_of c.args.self.now) in
    let l = c.in-Some.id in
    let held : t.held l ≡ true = and_right (is_fact_number l.num) (t.held l) c.in-Some.ensures.0 in
    let told : Err c.in-Err.field-0 ≡ answered true (t.shows l) = sym c.in-Err.is ∙ c.shown.ensures ∙ ap (λ (b : Bool). answered b (t.shows l)) held in
    absurd cc
