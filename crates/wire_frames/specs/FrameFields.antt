-- fields that are read from left to right, and the place of the first fault
use Rattle.std.specs.Prelude.{◌≡◌, ◌+◌, ◌*◌, ℕ, zero, suc, List, [], ◌∷◌, length, take, drop, Bool, Result, Ok, Err, nat_lt, if◌then◌else◌}
use Rattle.std.specs.Int.{Width, w64, byte_len, from_be_bytes}
use Rattle.wire_frames.specs.declared.input.Stop.{Stop}
use Rattle.wire_frames.specs.declared.input.Stop.TheVariants.{Fault, Cut, ReadFault, Memory}

-- the offset of the next byte, the offset where the frame must end, and the bytes that come
pub record Rest : Type 0 where
  pub place : ℕ
  pub limit : ℕ
  pub ahead : List ℕ

-- The reason why reading halts: the input ends before a field does, or the field that begins at a
-- place isn't whole within the frame or breaks its rule. To see the latter, all bytes up to a reach
-- had to be looked at, and none behind it.
pub data Halt : Type 0 where
  Short : Halt
  Broken : (place reach : ℕ) → Halt

abbrev pub Read : Type 0 → Type 0
Read A = Result (A × Rest) Halt

infixl 10 ◌>>=◌
abbrev pub ◌>>=◌ : {A B : Type 0} → Result A Halt → (A → Result B Halt) → Result B Halt
(Ok x) >>= f = f x
(Err e) >>= f = Err e

-- the value, without what is left
abbrev pub value_of : {A : Type 0} → Read A → Result A Halt
value_of (Ok x) = Ok x.0
value_of (Err e) = Err e

-- the result, without how far it had to look
abbrev pub told_of : {A : Type 0} → Result A Halt → Result A Stop
told_of (Ok x) = Ok x
told_of (Err Short) = Err Cut
told_of (Err (Broken place reach)) = Err (Fault place)

-- What a function's stop says of reading, if it took the bytes up to a place: it returned what
-- reading gives, unless memory ran out. At a fault it took exactly the bytes that had to be looked
-- at.
abbrev pub Stops : {Y : Type 0} → ℕ → Stop → Result Y Halt → Type 0
Stops taken Memory read = Unit {0}
Stops taken Cut read = read ≡ Err Short
Stops taken ReadFault read = read ≡ Err Short
Stops taken (Fault place) read = read ≡ Err (Broken place taken)

abbrev pub Gives : {X Y : Type 0} → ℕ → (X → Y) → Result X Stop → Result Y Halt → Type 0
Gives taken view (Ok x) read = read ≡ Ok (view x)
Gives taken view (Err e) read = Stops taken e read

abbrev pub past : ℕ → Rest → Rest
past width r = record { place = r.place + width; limit = r.limit; ahead = drop width r.ahead }

-- this many bytes of the field that begins at a place: broken if the frame ends before them,
-- whatever comes, and short if the input does
abbrev pub cells_at : ℕ → ℕ → Rest → Read (List ℕ)
cells_at first width r =
    if nat_lt r.limit (r.place + width) then Err (Broken first r.place)
    else (if nat_lt (length r.ahead) width then Err Short
    else Ok (take width r.ahead, past width r))

-- a number
abbrev pub whole_at : Width → Rest → Read ℕ
whole_at w r = cells_at r.place (byte_len w) r >>= λ x. Ok (from_be_bytes w x.0, x.1)

-- a number that keeps a rule, for which all of its bytes are needed
abbrev pub number_at : Width → (ℕ → Bool) → Rest → Read ℕ
number_at w rule r = whole_at w r >>= λ x. if rule x.0 then Ok x else Err (Broken r.place x.1.place)

-- this many items, each read with the state that the items before it lead to
unfoldable pub each_at : {S A : Type 0} → (S → Rest → Read A) → (S → A → S) → ℕ → S → Rest → Read (List A)
each_at item next zero s r = Ok ([], r)
each_at item next (suc n) s r = do
  first ← item s r
  others ← each_at item next n (next s first.0) first.1
  Ok (first.0 ∷ others.0, others.1)

-- a vector is one field
unfoldable pub many_at : ℕ → Rest → Read (List ℕ)
many_at n r =
    if nat_lt r.limit (r.place + 8 * n) then Err (Broken r.place r.place)
    else each_at (λ (s : ℕ). whole_at w64) (λ (s x : ℕ). s) n 0 r

unfoldable pub vector_at : ℕ → (List ℕ → Bool) → Rest → Read (List ℕ)
vector_at n rule r = many_at n r >>= λ x. if rule x.0 then Ok x else Err (Broken r.place x.1.place)

-- each element keeps the rules, after those before it
abbrev pub Along : {S A : Type 0} → (S → A → Type 0) → (S → A → S) → S → List A → Type 0
Along Fits next s [] = Unit {0}
Along Fits next s (x ∷ xs) = Fits s x × Along Fits next (next s x) xs
