use Rattle.std.proofs.Common.{◌≡◌, drop, map}
use Rattle.state_forest.specs.declared.merging.Told.{Told}
use Rattle.wire_frames.specs.SameFrames.{same_records}
use Rattle.wire_frames.proofs.sameness.same_records.Given as goal

-- the lists are the same exactly if what is left is
abbrev pub invariant-loop-place : goal.invariant-loop-place
invariant-loop-place l =
    same_records (map (λ (told : Told). told.records.records) (drop l.place l.a)) (map (λ (told : Told). told.records.records) (drop l.place l.b))
    ≡ same_records (map (λ (told : Told). told.records.records) l.a) (map (λ (told : Told). told.records.records) l.b)
