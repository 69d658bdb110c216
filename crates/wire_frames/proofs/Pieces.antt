-- a source that gave some more bytes
use Rattle.std.proofs.Common.{◌≡◌, ℕ, zero, suc, refl, ◌+◌, ◌≤◌, ◌<◌, List, [], ◌∷◌, ◌++◌, length, take, ap, ◌∙◌, sym, append_assoc, arith, length-take, subst}
use Rattle.std.proofs.Math.Seq.{take-append-add}
use Rattle.std.proofs.lemmas.List.{length-append}
use borrow.Rule.Slice.PartMut.{post_of, put_mid}
use lib.Seq.{take-append-le}
use Rattle.wire_http.specs.Streams.{Calls, GivenBytes, too_many_interrupted}
use Rattle.wire_frames.specs.Seen.{GoesWell, Standing}
use Rattle.wire_frames.specs.Sources.{Stands, most_calls}
use Rattle.wire_frames.specs.declared.stream.Progress.{Progress}
use Rattle.wire_frames.specs.declared.stream.Progress.TheVariants.{Going, Ended, Failed}
use Rattle.wire_frames.proofs.Codes.{IsBytes}

pub goes_on_well : (first old new : Standing) → new.calls.failed ≡ old.calls.failed → new.counted < too_many_interrupted → GoesWell first old → GoesWell first new
unfolding GoesWell
goes_on_well first old new same few well = (same ∙ well.0, few)

pub grown_twice : (start old new taken more all : List ℕ) → old ≡ start ++ taken → new ≡ old ++ more → all ≡ taken ++ more → new ≡ start ++ all
grown_twice start old new taken more all p q e = rw (q, p, e) (append_assoc start taken more)

pub both_bytes : (xs ys : List ℕ) → IsBytes xs → IsBytes ys → IsBytes (xs ++ ys)
both_bytes [] ys f g i = g i
both_bytes (x ∷ xs) ys f g zero = f 0
both_bytes (x ∷ xs) ys f g (suc i) = both_bytes xs ys (λ j. f (suc j)) g i

-- a write to a part of a buffer leaves what stands before the end of what was written
pub part_before : (a k n : ℕ) (xs ys : List ℕ) → a ≤ length xs → n ≤ length ys → take (a + n) (put_mid a k xs ys) ≡ take a xs ++ take n ys
part_before a k n xs ys within fits =
    let here : length (take a xs) ≡ a = omega (arith, length-take a xs) in
    let after = post_of a k xs in
    let split : take (length (take a xs) + n) (take a xs ++ (ys ++ after)) ≡ take a xs ++ take n (ys ++ after) = take-append-add (take a xs) (ys ++ after) n in
    subst (λ (i : ℕ). take (i + n) (take a xs ++ (ys ++ after)) ≡ take a xs ++ take n (ys ++ after)) here split ∙ ap (λ (l : List ℕ). take a xs ++ l) (take-append-le n ys after fits)

pub part_within : (a k n : ℕ) (xs ys : List ℕ) → a ≤ length xs → n ≤ length ys → a + n ≤ length (put_mid a k xs ys)
part_within a k n xs ys within fits =
    let after = post_of a k xs in
    omega (arith, length-take a xs, length-append (take a xs) (ys ++ after), length-append ys after, within, fits)

pub filled_more : (taken mid new : List ℕ) (a k n : ℕ) (xs ys : List ℕ) → a ≤ length xs → n ≤ length ys → mid ≡ taken ++ take a xs → new ≡ mid ++ take n ys → new ≡ taken ++ take (a + n) (put_mid a k xs ys)
filled_more taken mid new a k n xs ys within fits p q =
    q ∙ ap (λ (l : List ℕ). l ++ take n ys) p ∙ append_assoc taken (take a xs) (take n ys) ∙ ap (λ (l : List ℕ). taken ++ l) (sym (part_before a k n xs ys within fits))

-- the stream goes on

pub still_stands : (progress : Progress) (before after : GivenBytes) (start old new : Calls) (first now : ℕ) → progress ≡ Going → Stands progress before start old first → new.failed ≡ old.failed → now < too_many_interrupted
    → Stands progress after start new now
still_stands Going before after start old new first now is stands same few = (same ∙ stands.0, few)
still_stands Ended before after start old new first now is stands same few = absurd cc
still_stands Failed before after start old new first now is stands same few = absurd cc

pub going_calls : (progress : Progress) (place : ℕ) → progress ≡ Going → most_calls progress place ≡ place
going_calls Going place is = refl
going_calls Ended place is = absurd cc
going_calls Failed place is = absurd cc
