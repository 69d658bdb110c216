use Rattle.std.proofs.Common.{◌≡◌, Bool, refl, sym, true, false}
use Rattle.std.specs.Bool.{Decides}
use Rattle.std.specs.Prelude.{◌↔◌, IsTrue}
use Rattle.state_forest.proofs.EqualRecords.{records_decide}
use Rattle.wire_frames.proofs.sameness.same_forest.Goals as goal

-- two tests of the same property give the same answer
one_answer : {P : Type 0} (a b : Bool) → (IsTrue a ↔ P) → Decides b P → a ≡ b
one_answer true b own other = sym (other.1 (own.0 refl))
one_answer false true own other = own.1 (other.0 refl)
one_answer false false own other = refl

pub returns : goal.returns
returns c = one_answer c.same_records.result _ c.same_records.ensures (records_decide c.args.a.now.records c.args.b.now.records)
