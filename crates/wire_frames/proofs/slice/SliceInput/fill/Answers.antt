use Rattle.std.proofs.Common.{◌≡◌, ◌+◌, ◌≤◌, ℕ, List, length, take, drop, Ok, refl, arith, length-take, length-drop, take-add}
use Rattle.wire_frames.specs.FrameFields.{cells_at}
use Rattle.wire_frames.specs.Seen.{Begins, GoesWell, rest_in, of_slice}
use Rattle.wire_frames.proofs.Grown.{filled}
use Rattle.wire_frames.proofs.slice.SliceInput.fill.Goals as goal

filled_slice : (all got : List ℕ) (first place limit width : ℕ) → got ≡ take width (drop place all) → place + width ≤ limit → limit ≤ length all
    → (whole : List ℕ) → Begins (take (place + width) all) whole → Begins (take place all) whole × (cells_at first width (rest_in whole (of_slice all place limit)) ≡ Ok (got, rest_in whole (of_slice all (place + width) limit)))
filled_slice all got first place limit width is fits there =
    filled (of_slice all place limit) (of_slice all (place + width) limit) got first width refl refl (rw is (take-add place width all))
    (rw is (omega (arith, length-take width (drop place all), length-drop place all)))
    (omega (arith, length-take place all))

pub returns-clause-gives : goal.returns-clause-gives
unfolding GoesWell
returns-clause-gives c =
    let s = c.args.self.now in (
      refl,
      tt,
      filled_slice s.all.now c.copy_from_slice.new.self c.args.first s.place s.limit (length c.args.buffer.now) (search (c.copy_from_slice.ensures, arith))
          (omega (arith, c.if-self-width.false, s.within)) s.there,
      λ well. well,
    )
