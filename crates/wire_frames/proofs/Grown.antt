-- taking bytes of an input, and what is left of the whole afterwards
use Rattle.std.proofs.Common.{◌≡◌, ℕ, ◌+◌, ◌≤◌, ◌<◌, true, false, ltb, List, ◌++◌, length, take, drop, Ok, Err, refl, ap, ◌∙◌, append_assoc, arith}
use Rattle.std.proofs.lemmas.Bool.{le-ltb, lt-ltb}
use Rattle.std.proofs.lemmas.List.{take_at, drop_at, length-append}
use Rattle.wire_frames.specs.declared.input.Stop.{Stop}
use Rattle.wire_frames.specs.declared.input.Stop.TheVariants.{Fault, Cut, ReadFault, Memory}
use Rattle.wire_frames.specs.FrameFields.{Short, Stops, cells_at}
use Rattle.wire_frames.specs.Seen.{Begins, MayBe, Seen, rest_in}
use Rattle.wire_frames.specs.Sources.{IsEnd}

pub begins_before : (taken got whole : List ℕ) → Begins (taken ++ got) whole → Begins taken whole
unfolding Begins
begins_before taken got whole f = (got ++ f.0, f.1 ∙ append_assoc taken got f.0)

-- this many bytes were got, all within the frame
pub taking : (taken got whole : List ℕ) (first limit width : ℕ) → length got ≡ width → length taken + width ≤ limit → Begins (taken ++ got) whole
    → cells_at first width (record { place = length taken; limit = limit; ahead = drop (length taken) whole }) ≡ Ok (got, record { place = length (taken ++ got); limit = limit; ahead = drop (length (taken ++ got)) whole })
unfolding Begins
taking taken got whole first limit width len fits f =
    let here : drop (length taken) whole ≡ got ++ f.0 = rw (f.1, append_assoc taken got f.0) (drop_at taken (got ++ f.0) (length taken) refl) in
    let there : drop (length (taken ++ got)) whole ≡ f.0 = rw f.1 (drop_at (taken ++ got) f.0 (length (taken ++ got)) refl) in
    let one : ltb limit (length taken + width) ≡ false = le-ltb _ _ fits in
    let two : ltb (length (got ++ f.0)) width ≡ false = le-ltb _ _ (omega (arith, length-append got f.0, len)) in
    let value : take width (got ++ f.0) ≡ got = take_at got f.0 width len in
    let after : drop width (got ++ f.0) ≡ f.0 = drop_at got f.0 width len in
    let place : length taken + width ≡ length (taken ++ got) = omega (arith, length-append taken got, len) in
    rw (here, one, two, value, after, there) (ap (λ (n : ℕ). Ok (got, record { place = n; limit = limit; ahead = f.0 })) place)

part_only : (taken got whole : List ℕ) (first limit width : ℕ) → whole ≡ taken ++ got → length got < width → length taken + width ≤ limit
    → Begins taken whole × (cells_at first width (record { place = length taken; limit = limit; ahead = drop (length taken) whole }) ≡ Err Short)
unfolding Begins
part_only taken got whole first limit width is short fits =
    let here : drop (length taken) whole ≡ got = rw is (drop_at taken got (length taken) refl) in
    let one : ltb limit (length taken + width) ≡ false = le-ltb _ _ fits in
    let two : ltb (length got) width ≡ true = lt-ltb _ _ short in
    ((got, is), rw (here, one, two) refl)

-- a field was got whole
pub filled : (old new : Seen) (got : List ℕ) (first width : ℕ) → new.first ≡ old.first → new.limit ≡ old.limit → new.taken ≡ old.taken ++ got → length got ≡ width → length old.taken + width ≤ old.limit
    → (whole : List ℕ) → Begins new.taken whole → Begins old.taken whole × (cells_at first width (rest_in whole old) ≡ Ok (got, rest_in whole new))
filled old new got first width start limit text len fits whole f =
    let g : Begins (old.taken ++ got) whole = rw text at f in
    (begins_before old.taken got whole g, rw (text, limit) (taking old.taken got whole first old.limit width len fits g))

-- only a part of a field came
pub cut_short : (old new : Seen) (got : List ℕ) (first width : ℕ) (e : Stop) → IsEnd e → new.taken ≡ old.taken ++ got → length got < width → length old.taken + width ≤ old.limit
    → (whole : List ℕ) → MayBe e new whole → Begins old.taken whole × Stops (length new.taken) e (cells_at first width (rest_in whole old))
cut_short old new got first width (Fault place) end text short fits whole f = absurd end
cut_short old new got first width Memory end text short fits whole f = absurd end
cut_short old new got first width Cut end text short fits whole f = part_only old.taken got whole first old.limit width (f ∙ text) short fits
cut_short old new got first width ReadFault end text short fits whole f = part_only old.taken got whole first old.limit width (f ∙ text) short fits
