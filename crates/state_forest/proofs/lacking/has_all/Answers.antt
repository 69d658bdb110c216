use Rattle.std.proofs.Common.{◌≡◌, ◌∙◌, sym, true, nat_le, arith}
use Rattle.std.proofs.lemmas.Bool.Decides.{nat_tests}
use Rattle.state_forest.specs.RecordMerges.{home_stamp}
use Rattle.state_forest.proofs.EqualRecords.{front_same}
use Rattle.state_forest.proofs.MemberMerges.{record_stays}
use Rattle.state_forest.proofs.lacking.has_all.Goals.{then-home_stamp, else-home_stamp}
use Rattle.state_forest.proofs.lacking.has_all.Goals as goal

pub returns-then-eq : goal.returns-then-eq
returns-then-eq c = λ yes. elim c.if-home_stamp.branch [
  | then-home_stamp w ↦
      let first : nat_le (home_stamp c.args.heard.now) (home_stamp c.args.own.now) ≡ true = grind (arith, nat_tests, w.if-home_stamp, c.home_stamp.ensures, c.home_stamp-2.ensures) in
      record_stays c.args.own.now c.args.heard.now first (sym w.join.ensures.value ∙ front_same w.join.result c.args.own.now.stamps (sym w.eq.ensures ∙ sym w.value-is ∙ c.if-eq.true)) (c.all_stay.ensures yes)
  | else-home_stamp w ↦ absurd (let no : true ≡ nat_le c.home_stamp.result c.home_stamp-2.result = sym c.if-eq.true ∙ w.value-is in grind (arith, nat_tests, no, w.if-home_stamp.false))
]
