use Rattle.std.proofs.Common.{◌≡◌, drop, map}
use Rattle.state_forest.specs.declared.merging.Told.{Told}
use Rattle.state_forest.specs.RecordMerges.{held_numbers}
use Rattle.wire_frames.specs.SameFrames.{same_lives}
use Rattle.wire_frames.proofs.sameness.same_lives.Given as goal

-- the lists are the same exactly if what is left is
abbrev pub invariant-loop-place : goal.invariant-loop-place
invariant-loop-place l =
    same_lives (map (λ (told : Told). held_numbers told.held) (drop l.place l.a)) (map (λ (told : Told). held_numbers told.held) (drop l.place l.b))
    ≡ same_lives (map (λ (told : Told). held_numbers told.held) l.a) (map (λ (told : Told). held_numbers told.held) l.b)
