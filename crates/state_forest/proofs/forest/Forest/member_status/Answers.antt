use Rattle.std.proofs.Common.{◌≡◌, ◌∙◌, Bool, true, false, cond, Err, Option, is_some, ap, refl, rules}
use Rattle.state_ids.specs.declared.status.MemberStatus.{MemberStatus}
use Rattle.state_facts.specs.declared.refusal.Refusal.TheVariants.{NotHeld}
use Rattle.state_facts.specs.Sets.{is_held, member_status}
use Rattle.state_forest.specs.Said.{member_shown_at}
use Rattle.state_forest.specs.Shape.{found_at}
use Rattle.state_forest.specs.Statuses.{known}
use Rattle.state_forest.proofs.RecordsSayTheSet.{member_shown_said, there_said}
use Rattle.state_forest.proofs.forest.Forest.member_status.Goals as goal

held_alike : (b : Bool) (x y : Option MemberStatus) → (b ≡ true → x ≡ y) → cond b (known x) (Err NotHeld) ≡ cond b (known y) (Err NotHeld)
held_alike true x y e = ap known (e refl)
held_alike false x y e = refl

pub returns-clause-answer : goal.returns-clause-answer
returns-clause-answer c nodes S whole nest seated stands =
    let l = c.args.id in
    let records = c.args.self.now.records in
    let at = found_at l.home records in
    let shown = member_shown_at at l.num c.args.member in
    let said : c.participant_status.result ≡ cond (is_some (at l.num)) (known shown) (Err NotHeld) = search rules in
    said
    ∙ ap (λ (b : Bool). cond b (known shown) (Err NotHeld)) (there_said nodes S records l stands)
    ∙ held_alike (is_held S l) shown (member_status S l c.args.member) (λ held. member_shown_said nodes S records l c.args.member whole nest seated stands held)
