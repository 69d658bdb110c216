-- what was read of a slice is what reading all of it gives
use Rattle.std.proofs.Common.{◌≡◌, ℕ, ◌≤◌, List, [], length, take, drop, Option, Some, Result, Ok, Err, sym, ap, ◌∙◌, arith, inl, inr}
use Rattle.std.specs.Prelude.{IfErr}
use Rattle.std.proofs.lemmas.List.{take-append-drop}
use Rattle.wire_http.specs.Streams.{HasCause, no_calls}
use Rattle.wire_frames.specs.declared.input.Stop.{Stop}
use Rattle.wire_frames.specs.declared.input.Stop.TheVariants.{Fault, Cut, ReadFault, Memory}
use Rattle.wire_frames.specs.FrameFields.{Gives, Halt, Read, Rest, told_of, value_of}
use Rattle.wire_frames.specs.Sources.{Says}
use Rattle.wire_frames.specs.Seen.{Seen, Start, Answers, Whole, HasReason, Begins, Standing, of_slice, telling}

abbrev some : List ℕ → Option (List ℕ)
some xs = Some xs

slice_begins : (bytes : List ℕ) (place : ℕ) → Begins (take place bytes) bytes
unfolding Begins
slice_begins bytes place = (drop place bytes, sym (take-append-drop place bytes))

slice_whole : {X : Type 0} (result : Result X Stop) (bytes : List ℕ) (place limit : ℕ) → limit ≤ length bytes → place ≤ limit → IfErr result (λ e. HasReason e (of_slice bytes place limit)) → Whole result (of_slice bytes place limit) bytes
slice_whole (Ok x) bytes place limit le within reason = slice_begins bytes place
slice_whole (Err (Fault n)) bytes place limit le within reason = slice_begins bytes place
slice_whole (Err Cut) bytes place limit le within reason = absurd (no_end reason.1.0)
  where
    no_end : ◌≡◌ {A = ℕ} 0 1 → ⊥
    no_end e = omega (arith, e)
slice_whole (Err ReadFault) bytes place limit le within reason = absurd (no_fault reason)
  where
    no_fault : HasCause 0 no_calls no_calls → ⊥
    no_fault (inl f) = omega (arith, f.0)
    no_fault (inr f) = omega (arith, f.1)
slice_whole (Err Memory) bytes place limit le within reason = slice_begins bytes place

pub says_told : {X : Type 0} (taken : ℕ) (result : Result X Stop) (read : Result X Halt) → Gives taken (λ (x : X). x) result read → Says result (told_of read)
says_told taken (Ok x) read e = ap told_of e
says_told taken (Err (Fault place)) read e = ap told_of e
says_told taken (Err Cut) read e = ap told_of e
says_told taken (Err ReadFault) read e = tt
says_told taken (Err Memory) read e = tt

-- What was read of a slice is what reading all of it gives.
pub slice_read : {X : Type 0} (scan : Rest → Read X) (bytes all : List ℕ) (place limit place' limit' : ℕ) (before : List ℕ) (result : Result X Stop) → of_slice before place limit ≡ of_slice bytes 0 (length bytes)
    → Answers (of_slice before place limit) (of_slice all place' limit') (λ (x : X). x) result scan → limit' ≤ length all → place' ≤ limit' → Says result (told_of (value_of (scan (record { place = 0; limit = length bytes; ahead = bytes }))))
slice_read {X} scan bytes all place limit place' limit' before result e a le within =
    let known : telling all ≡ telling bytes = ap (λ (s : Start). s.standing) a.0 ∙ ap (λ (s : Seen). s.first.standing) e in
    let same : all ≡ bytes = some_is all bytes (ap (λ (s : Standing). s.stream.left) known) in
    let limits : limit ≡ length bytes = ap (λ (s : Seen). s.limit) e in
    let start : take place before ≡ [] = ap (λ (s : Seen). s.taken) e in
    let w : Whole result (of_slice all place' limit') bytes = rw (← same) (slice_whole result all place' limit' le within a.1) in
    says_told (length (take place' all)) result _ (rw (start, limits) at (a.2 bytes w).1)
  where
    some_is : (xs ys : List ℕ) → some xs ≡ some ys → xs ≡ ys
    some_is xs ys e = cc
