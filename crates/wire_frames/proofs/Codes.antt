-- reading and encoding go together
use Rattle.std.proofs.Common.{◌≡◌, ℕ, zero, suc, ◌+◌, ◌^◌, ◌%◌, ◌<◌, ◌≤◌, Bool, true, false, cond, ltb, List, [], ◌∷◌, ◌++◌, length, get_or, take, drop, Result, Ok, Err, refl, sym, ap, subst, ◌∙◌, append_assoc, arith, inl, inr}
use Rattle.std.specs.Int.{Width, w8, w16, w32, w64, byte_len, from_be_bytes, to_be_bytes}
use Rattle.std.proofs.lemmas.Bool.{cases_lt, ltb-false, le-ltb}
use Rattle.std.proofs.lemmas.List.{take_at, drop_at, take-append-drop, length-append, length-take, length-drop, get_or-drop, get_or-take, get_or_past, nil_from_length}
use Rattle.std.specs.List.{flat_map}
use Rattle.std.proofs.lemmas.List.Concat.{flat_map-cons}
use Rattle.std.proofs.lemmas.Nat.{be_bytes_2, be_bytes_4, be_bytes_8, from_be_bytes-to_be_bytes_2, from_be_bytes-to_be_bytes_4, from_be_bytes-to_be_bytes_8}
use Rattle.wire_frames.specs.FrameFields.{Rest, Read, Halt, Short, Broken, ◌>>=◌, past, cells_at, whole_at, number_at, each_at, Along}

abbrev pub IsBytes : List ℕ → Type 0
IsBytes bytes = (i : ℕ) → get_or bytes i 0 < 256

IsBytes-drop : (n : ℕ) (bytes : List ℕ) → IsBytes bytes → IsBytes (drop n bytes)
IsBytes-drop n bytes h i = rw get_or-drop (h (n + i))

IsBytes-take : (n : ℕ) (bytes : List ℕ) → IsBytes bytes → IsBytes (take n bytes)
IsBytes-take n bytes h i =
    elim (cases_lt i n) [
      | inl lt ↦ rw (get_or-take n bytes i 0 lt) (h i)
      | inr le ↦ rw (get_or_past (take n bytes) i 0 (omega (arith, length-take n bytes))) (omega arith)
    ]

-- what a reader took, from its start
pub record Takes (r : Rest) (text : List ℕ) (r' : Rest) : Type 0 where
  pub parts : r.ahead ≡ text ++ r'.ahead
  pub place : r'.place ≡ r.place + length text
  pub limit : r'.limit ≡ r.limit
  pub within : r'.place ≤ r'.limit

pub Takes-then : (a : Rest) (x : List ℕ) (b : Rest) (y : List ℕ) (c : Rest) → Takes a x b → Takes b y c → Takes a (x ++ y) c
Takes-then a x b y c p q = record {
  parts = p.parts ∙ ap (λ (t : List ℕ). x ++ t) q.parts ∙ sym (append_assoc x y c.ahead);
  place = omega (arith, p.place, q.place, length-append x y);
  limit = q.limit ∙ p.limit;
  within = q.within;
}

-- the place where the first of two parts ends
abbrev pub between : Rest → List ℕ → List ℕ → Rest → Rest
between a x y c = record { place = a.place + length x; limit = a.limit; ahead = y ++ c.ahead }

pub Takes-first : (a : Rest) (x y : List ℕ) (c : Rest) → Takes a (x ++ y) c → Takes a x (between a x y c)
Takes-first a x y c p = record {
  parts = p.parts ∙ append_assoc x y c.ahead;
  place = refl;
  limit = refl;
  within = omega (arith, p.place, p.limit, p.within, length-append x y);
}

pub Takes-second : (a : Rest) (x y : List ℕ) (c : Rest) → Takes a (x ++ y) c → Takes (between a x y c) y c
Takes-second a x y c p = record {
  parts = refl;
  place = omega (arith, p.place, length-append x y);
  limit = p.limit;
  within = p.within;
}

-- the input reaches at least to the end of the frame
abbrev pub IsThere : Rest → Type 0
IsThere r = r.limit ≤ r.place + length r.ahead

-- the reading did not meet the input's end
abbrev pub Uncut : {A : Type 0} → Read A → Type 0
Uncut (Ok x) = IsThere x.1
Uncut (Err Short) = ⊥
Uncut (Err (Broken place reach)) = Unit {0}

-- What is read keeps the rules and has this encoding; and what has this encoding is read.
pub record IsCode {A : Type 0} (scan : Rest → Read A) (encode : A → List ℕ) (Fits : A → Type 0) : Type 0 where
  pub takes : (r : Rest) → IsBytes r.ahead → r.place ≤ r.limit → (x : A) (r' : Rest) → scan r ≡ Ok (x, r') → Fits x × Takes r (encode x) r' × IsBytes r'.ahead
  pub again : (x : A) → Fits x → (r r' : Rest) → Takes r (encode x) r' → scan r ≡ Ok (x, r')
  pub uncut : (r : Rest) → IsBytes r.ahead → r.place ≤ r.limit → IsThere r → Uncut (scan r)

pub uncut_bind : {A B : Type 0} (m : Read A) (k : A × Rest → Read B) → Uncut m → ((x : A × Rest) → m ≡ Ok x → IsThere x.1 → Uncut (k x)) → Uncut (m >>= k)
uncut_bind (Ok x) k u h = h x refl u
uncut_bind (Err (Broken place reach)) k u h = tt
uncut_bind (Err Short) k u h = absurd u

pub uncut_if : {A : Type 0} (b : Bool) (place reach : ℕ) (m : Read A) → Uncut m → Uncut (cond b m (Err (Broken place reach)))
uncut_if true place reach m u = u
uncut_if false place reach m u = tt

pub uncut_unless : {A : Type 0} (b : Bool) (place reach : ℕ) (m : Read A) → (b ≡ false → Uncut m) → Uncut (cond b (Err (Broken place reach)) m)
uncut_unless true place reach m u = tt
uncut_unless false place reach m u = u refl

-- the value of a step that did not fail
pub bind_ok : {A B : Type 0} (r : Result A Halt) (f : A → Result B Halt) (y : B) → (r >>= f) ≡ Ok y → (x : A) × (r ≡ Ok x) × (f x ≡ Ok y)
bind_ok (Ok x) f y e = (x, refl, e)
bind_ok (Err d) f y e = absurd cc

abbrev done : {A : Type 0} → A → Result A Halt
done x = Ok x

pub ok_is : {A : Type 0} (x y : A) → done x ≡ done y → x ≡ y
ok_is x y e = cc

-- one part is read, and then the others, which may name what was left before it
pub step_from : {A X : Type 0} {scan : Rest → Read X} {encode : X → List ℕ} {FitsPart : X → Type 0} {Fits : A → Type 0} (k : Rest → X × Rest → Read A) {others : A → List ℕ}
    → IsCode scan encode FitsPart → (part : A → X) → ((a : A) → Fits a → FitsPart (part a))
    → ((x : X) → FitsPart x → (from : Rest) → IsCode (λ r. k from (x, r)) others (λ a. Fits a × (part a ≡ x)))
    → IsCode (λ r. scan r >>= k r) (λ a. encode (part a) ++ others a) Fits
step_from {A} {X} {scan} {encode} {FitsPart} {Fits} k {others} code part fits inner = record {
  takes = λ r bytes well a r' e.
      let b = bind_ok (scan r) (k r) (a, r') e in
      let t = code.takes r bytes well b.0.0 b.0.1 b.1 in
      let u = (inner b.0.0 t.0 r).takes b.0.1 t.2 t.1.within a r' b.2 in
      let first : Takes r (encode (part a)) b.0.1 = subst (λ (x : X). Takes r (encode x) b.0.1) (sym u.0.1) t.1 in
      (u.0.0, Takes-then r (encode (part a)) b.0.1 (others a) r' first u.1, u.2);
  again = λ a f r r' t.
      let one : scan r ≡ Ok (part a, between r (encode (part a)) (others a) r') = code.again (part a) (fits a f) r _ (Takes-first r (encode (part a)) (others a) r' t) in
      let two : k r (part a, between r (encode (part a)) (others a) r') ≡ Ok (a, r') = (inner (part a) (fits a f) r).again a (f, refl) _ r' (Takes-second r (encode (part a)) (others a) r' t) in
      ap (λ (x : Read X). x >>= k r) one ∙ two;
  uncut = λ r bytes well there. uncut_bind (scan r) (k r) (code.uncut r bytes well there) (λ x e here.
      let t = code.takes r bytes well x.0 x.1 e in
      (inner x.0 t.0 r).uncut x.1 t.2 t.1.within here);
}

-- one part is read, and then the others
pub step : {A X : Type 0} {scan : Rest → Read X} {encode : X → List ℕ} {FitsPart : X → Type 0} {Fits : A → Type 0} (k : X × Rest → Read A) {others : A → List ℕ}
    → IsCode scan encode FitsPart → (part : A → X) → ((a : A) → Fits a → FitsPart (part a))
    → ((x : X) → FitsPart x → IsCode (λ r. k (x, r)) others (λ a. Fits a × (part a ≡ x)))
    → IsCode (λ r. scan r >>= k) (λ a. encode (part a) ++ others a) Fits
step k code part fits inner = step_from (λ r. k) code part fits (λ x f from. inner x f)

rests : (r r' : Rest) → r.place ≡ r'.place → r.limit ≡ r'.limit → r.ahead ≡ r'.ahead → r ≡ r'
rests r r' p l a =
    let one : r ≡ record { place = r'.place; limit = r.limit; ahead = r.ahead } = ap (λ (n : ℕ). record { place = n; limit = r.limit; ahead = r.ahead }) p in
    let two : record { place = r'.place; limit = r.limit; ahead = r.ahead } ≡ record { place = r'.place; limit = r'.limit; ahead = r.ahead } = ap (λ (n : ℕ). record { place = r'.place; limit = n; ahead = r.ahead }) l in
    one ∙ two ∙ ap (λ (x : List ℕ). record { place = r'.place; limit = r'.limit; ahead = x }) a

same_rest : (r r' : Rest) → Takes r [] r' → r ≡ r'
same_rest r r' t = rests r r' (omega (arith, t.place)) (sym t.limit) t.parts

-- nothing more is to be read
pub finish : {A : Type 0} {encode : A → List ℕ} {Fits : A → Type 0} → (a : A) → encode a ≡ [] → Fits a → ((b : A) → Fits b → b ≡ a) → IsCode (λ r. Ok (a, r)) encode Fits
finish {A} {encode} {Fits} a empty fits only = record {
  takes = λ r bytes well b r' e.
      let same = ok_is (a, r) (b, r') e in
      let here : Takes r (encode a) r = record { parts = rw empty refl; place = rw empty (omega arith); limit = refl; within = well } in
      let P : A × Rest → Type 0 = λ y. Fits y.0 × Takes r (encode y.0) y.1 × IsBytes y.1.ahead in
      subst P same (fits, here, bytes);
  again = λ b f r r' t.
      let one : a ≡ b = sym (only b f) in
      let text : encode b ≡ [] = ap encode (only b f) ∙ empty in
      let two : r ≡ r' = same_rest r r' (subst (λ (l : List ℕ). Takes r l r') text t) in
      cc;
  uncut = λ r bytes well there. there;
}

-- ---- numbers

pub record IsWide (w : Width) (limit : ℕ) : Type 0 where
  pub len : (n : ℕ) → length (to_be_bytes w n) ≡ byte_len w
  pub back : (bytes : List ℕ) → length bytes ≡ byte_len w → IsBytes bytes → to_be_bytes w (from_be_bytes w bytes) ≡ bytes
  pub again : (n : ℕ) → n < limit → from_be_bytes w (to_be_bytes w n) ≡ n
  pub fit : (n : ℕ) → IsBytes (to_be_bytes w n)
  pub below : (bytes : List ℕ) → IsBytes bytes → from_be_bytes w bytes < limit

back_byte : (bytes : List ℕ) → length bytes ≡ 1 → IsBytes bytes → to_be_bytes w8 (from_be_bytes w8 bytes) ≡ bytes
back_byte [] len fits = absurd (omega arith)
back_byte (b ∷ []) len fits = let lt : b < 256 = fits 0 in let e : b % 256 ≡ b = omega (arith, lt) in ap (λ (n : ℕ). n ∷ []) e
back_byte (b ∷ c ∷ bs) len fits = absurd (omega arith)

bytes_1 : (n : ℕ) → IsBytes (to_be_bytes w8 n)
bytes_1 n zero = omega arith
bytes_1 n (suc i) = omega arith

bytes_2 : (n : ℕ) → IsBytes (to_be_bytes w16 n)
bytes_2 n zero = omega arith
bytes_2 n (suc zero) = omega arith
bytes_2 n (suc (suc i)) = omega arith

bytes_4 : (n : ℕ) → IsBytes (to_be_bytes w32 n)
bytes_4 n zero = omega arith
bytes_4 n (suc zero) = omega arith
bytes_4 n (suc (suc zero)) = omega arith
bytes_4 n (suc (suc (suc zero))) = omega arith
bytes_4 n (suc (suc (suc (suc i)))) = omega arith

bytes_8 : (n : ℕ) → IsBytes (to_be_bytes w64 n)
bytes_8 n zero = omega arith
bytes_8 n (suc zero) = omega arith
bytes_8 n (suc (suc zero)) = omega arith
bytes_8 n (suc (suc (suc zero))) = omega arith
bytes_8 n (suc (suc (suc (suc zero)))) = omega arith
bytes_8 n (suc (suc (suc (suc (suc zero))))) = omega arith
bytes_8 n (suc (suc (suc (suc (suc (suc zero)))))) = omega arith
bytes_8 n (suc (suc (suc (suc (suc (suc (suc zero))))))) = omega arith
bytes_8 n (suc (suc (suc (suc (suc (suc (suc (suc i)))))))) = omega arith

pub wide8 : IsWide w8 (2 ^ 8)
wide8 = record {
  fit = λ n. bytes_1 n;
  len = λ n. refl;
  back = back_byte;
  again = λ n lt. omega (arith, lt);
  below = λ bytes fits. omega (arith, fits 0);
}

pub wide16 : IsWide w16 (2 ^ 16)
wide16 = record {
  fit = λ n. bytes_2 n;
  len = λ n. refl;
  back = λ bytes len fits. be_bytes_2 bytes _ len fits refl;
  again = λ n lt. from_be_bytes-to_be_bytes_2 n lt;
  below = λ bytes fits. omega (arith, fits 0, fits 1);
}

pub wide32 : IsWide w32 (2 ^ 32)
wide32 = record {
  fit = λ n. bytes_4 n;
  len = λ n. refl;
  back = λ bytes len fits. be_bytes_4 bytes _ len fits refl;
  again = λ n lt. from_be_bytes-to_be_bytes_4 n lt;
  below = λ bytes fits. omega (arith, fits 0, fits 1, fits 2, fits 3);
}

pub wide64 : IsWide w64 (2 ^ 64)
wide64 = record {
  fit = λ n. bytes_8 n;
  len = λ n. refl;
  back = λ bytes len fits. be_bytes_8 bytes _ len fits refl;
  again = λ n lt. from_be_bytes-to_be_bytes_8 n lt;
  below = λ bytes fits. omega (arith, fits 0, fits 1, fits 2, fits 3, fits 4, fits 5, fits 6, fits 7);
}

-- both tests were passed, so the value is returned
tests_ok : {A : Type 0} (b c : Bool) (d e : Halt) (x y : A) → cond b (Err d) (cond c (Err e) (Ok x)) ≡ Ok y → (b ≡ false) × (c ≡ false) × (x ≡ y)
tests_ok true c d e x y h = absurd cc
tests_ok false true d e x y h = absurd cc
tests_ok false false d e x y h = (refl, refl, cc)

unless_ok : {A : Type 0} (b : Bool) (e : Halt) (m : Result A Halt) (y : A) → cond b (Err e) m ≡ Ok y → (b ≡ false) × (m ≡ Ok y)
unless_ok true e m y h = absurd cc
unless_ok false e m y h = (refl, h)

pub rule_ok : {A : Type 0} (b : Bool) (e : Halt) (x y : A) → cond b (Ok x) (Err e) ≡ Ok y → (b ≡ true) × (x ≡ y)
rule_ok true e x y h = (refl, cc)
rule_ok false e x y h = absurd cc

-- what is read must also keep a rule
pub ruled : {A : Type 0} {scan : Rest → Read A} {encode : A → List ℕ} {Fits : A → Type 0} → IsCode scan encode Fits → (rule : A → Bool)
    → IsCode (λ r. scan r >>= λ x. cond (rule x.0) (Ok x) (Err (Broken r.place x.1.place))) encode (λ a. Fits a × (rule a ≡ true))
ruled {A} {scan} {encode} {Fits} code rule = record {
  takes = λ r bytes well a r' e.
      let k : A × Rest → Read A = λ x. cond (rule x.0) (Ok x) (Err (Broken r.place x.1.place)) in
      let b = bind_ok (scan r) k (a, r') e in
      let g = rule_ok (rule b.0.0) (Broken r.place b.0.1.place) b.0 (a, r') b.2 in
      let t = code.takes r bytes well b.0.0 b.0.1 b.1 in
      let P : A × Rest → Type 0 = λ y. (Fits y.0 × (rule y.0 ≡ true)) × Takes r (encode y.0) y.1 × IsBytes y.1.ahead in
      subst P g.1 ((t.0, g.0), t.1, t.2);
  again = λ a f r r' t. rw (code.again a f.0 r r' t, f.1) refl;
  uncut = λ r bytes well there. uncut_bind (scan r) _ (code.uncut r bytes well there) (λ x e here. uncut_if (rule x.0) r.place x.1.place (Ok x) here);
}

-- the last part is read, or the one part of a case
pub cased : {A X : Type 0} {scan : Rest → Read X} {part_encode : X → List ℕ} {FitsPart : X → Type 0} {encode : A → List ℕ} {Fits : A → Type 0}
    → IsCode scan part_encode FitsPart → (make : X → A) → ((x : X) → FitsPart x → encode (make x) ≡ part_encode x) → ((x : X) → FitsPart x → Fits (make x))
    → ((a : A) → Fits a → (x : X) × (a ≡ make x) × FitsPart x)
    → IsCode (λ r. scan r >>= λ x. Ok (make x.0, x.1)) encode Fits
cased {A} {X} {scan} {part_encode} {FitsPart} {encode} {Fits} code make same fits back = record {
  takes = λ r bytes well a r' e.
      let k : X × Rest → Read A = λ x. Ok (make x.0, x.1) in
      let b = bind_ok (scan r) k (a, r') e in
      let t = code.takes r bytes well b.0.0 b.0.1 b.1 in
      let P : A × Rest → Type 0 = λ y. Fits y.0 × Takes r (encode y.0) y.1 × IsBytes y.1.ahead in
      let text : Takes r (encode (make b.0.0)) b.0.1 = subst (λ (l : List ℕ). Takes r l b.0.1) (sym (same b.0.0 t.0)) t.1 in
      subst P (ok_is (make b.0.0, b.0.1) (a, r') b.2) (fits b.0.0 t.0, text, t.2);
  again = λ a f r r' t.
      let b = back a f in
      let text : encode a ≡ part_encode b.0 = ap encode b.1 ∙ same b.0 b.2 in
      let one : scan r ≡ Ok (b.0, r') = code.again b.0 b.2 r r' (subst (λ (l : List ℕ). Takes r l r') text t) in
      rw one (ap (λ (x : A). Ok (x, r')) (sym b.1));
  uncut = λ r bytes well there. uncut_bind (scan r) _ (code.uncut r bytes well there) (λ x e here. here);
}

-- the same rules stated otherwise
pub refit : {A : Type 0} {scan : Rest → Read A} {encode : A → List ℕ} {F G : A → Type 0} → IsCode scan encode F → ((a : A) → F a → G a) → ((a : A) → G a → F a) → IsCode scan encode G
refit code to from = record {
  takes = λ r bytes well a r' e. let t = code.takes r bytes well a r' e in (to a t.0, t.1, t.2);
  again = λ a g r r' t. code.again a (from a g) r r' t;
  uncut = code.uncut;
}

-- a fault at the field's first byte, if the field is not whole
pub guarded : {A : Type 0} {scan : Rest → Read A} {encode : A → List ℕ} {Fits : A → Type 0} (size : ℕ) → IsCode scan encode Fits → ((a : A) → Fits a → length (encode a) ≡ size)
    → IsCode (λ r. cond (ltb r.limit (r.place + size)) (Err (Broken r.place r.place)) (scan r)) encode Fits
guarded {A} {scan} {encode} {Fits} size code is_size = record {
  takes = λ r bytes well a r' e.
      let g = unless_ok (ltb r.limit (r.place + size)) (Broken r.place r.place) (scan r) (a, r') e in
      code.takes r bytes well a r' g.1;
  again = λ a f r r' t.
      let one : ltb r.limit (r.place + size) ≡ false = le-ltb _ _ (omega (arith, t.place, t.limit, t.within, is_size a f)) in
      rw one (code.again a f r r' t);
  uncut = λ r bytes well there. uncut_unless (ltb r.limit (r.place + size)) r.place r.place (scan r) (λ _. code.uncut r bytes well there);
}

-- ---- one after the other

each_again : {S A : Type 0} (item : S → Rest → Read A) (next : S → A → S) (encode : A → List ℕ) (Fits : S → A → Type 0) (s' : S)
    → IsCode (item s') encode (Fits s') → (n : ℕ) → ((s : S) → IsCode (each_at item next n s) (flat_map encode) (λ xs. Along Fits next s xs × (length xs ≡ n)))
    → (xs : List A) → (Along Fits next s' xs × (length xs ≡ suc n)) → (r r' : Rest) → Takes r (flat_map encode xs) r' → each_at item next (suc n) s' r ≡ Ok (xs, r')
unfolding each_at
each_again item next encode Fits s' code n others [] f r r' t = absurd cc
each_again item next encode Fits s' code n others (x ∷ xs) f r r' t =
    let text : Takes r (encode x ++ flat_map encode xs) r' = subst (λ (l : List ℕ). Takes r l r') (flat_map-cons encode x xs) t in
    let one : item s' r ≡ Ok (x, between r (encode x) (flat_map encode xs) r') = code.again x f.0.0 r _ (Takes-first r (encode x) (flat_map encode xs) r' text) in
    let two : each_at item next n (next s' x) (between r (encode x) (flat_map encode xs) r') ≡ Ok (xs, r') = (others (next s' x)).again xs (f.0.1, omega (arith, f.1)) _ r' (Takes-second r (encode x) (flat_map encode xs) r' text) in
    rw (one, two) refl

-- The list is empty exactly if none is wanted, so only otherwise is its first item a part of it:
-- proved by hand.
pub each_code : {S A : Type 0} {item : S → Rest → Read A} {next : S → A → S} {encode : A → List ℕ} {Fits : S → A → Type 0}
    → ((s : S) → IsCode (item s) encode (Fits s)) → (n : ℕ) (s : S) → IsCode (each_at item next n s) (flat_map encode) (λ xs. Along Fits next s xs × (length xs ≡ n))
unfolding each_at
each_code {S} {A} {item} {next} {encode} {Fits} code zero s = finish [] refl (tt, refl) (λ b f. nil_from_length b f.1)
each_code {S} {A} {item} {next} {encode} {Fits} code (suc n) s = record {
  takes = λ r bytes well xs r' e.
      let k : A × Rest → Read (List A) = λ first. each_at item next n (next s first.0) first.1 >>= λ others. Ok (first.0 ∷ others.0, others.1) in
      let b = bind_ok (item s r) k (xs, r') e in
      let t = (code s).takes r bytes well b.0.0 b.0.1 b.1 in
      let l : List A × Rest → Read (List A) = λ others. Ok (b.0.0 ∷ others.0, others.1) in
      let d = bind_ok (each_at item next n (next s b.0.0) b.0.1) l (xs, r') b.2 in
      let u = (each_code code n (next s b.0.0)).takes b.0.1 t.2 t.1.within d.0.0 d.0.1 d.1 in
      let P : List A × Rest → Type 0 = λ y. (Along Fits next s y.0 × (length y.0 ≡ suc n)) × Takes r (flat_map encode y.0) y.1 × IsBytes y.1.ahead in
      let text : Takes r (flat_map encode (b.0.0 ∷ d.0.0)) d.0.1 = subst (λ (x : List ℕ). Takes r x d.0.1) (sym (flat_map-cons encode b.0.0 d.0.0)) (Takes-then r (encode b.0.0) b.0.1 (flat_map encode d.0.0) d.0.1 t.1 u.1) in
      subst P (ok_is (b.0.0 ∷ d.0.0, d.0.1) (xs, r') d.2) (((t.0, u.0.0), ap suc u.0.1), text, u.2);
  again = λ xs f r r' t. each_again item next encode Fits s (code s) n (each_code code n) xs f r r' t;
  uncut = λ r bytes well there. uncut_bind (item s r) _ ((code s).uncut r bytes well there) (λ x e here.
      let t = (code s).takes r bytes well x.0 x.1 e in
      uncut_bind (each_at item next n (next s x.0) x.1) _ ((each_code code n (next s x.0)).uncut x.1 t.2 t.1.within here) (λ y e' there'. there'));
}

-- ---- texts

-- a rule whose fault is at an earlier place
pub ruled_at : {A : Type 0} {scan : Rest → Read A} {encode : A → List ℕ} {Fits : A → Type 0} (first : ℕ) → IsCode scan encode Fits → (rule : A → Bool)
    → IsCode (λ r. scan r >>= λ x. cond (rule x.0) (Ok x) (Err (Broken first x.1.place))) encode (λ a. Fits a × (rule a ≡ true))
ruled_at {A} {scan} {encode} {Fits} first code rule = record {
  takes = λ r bytes well a r' e.
      let k : A × Rest → Read A = λ x. cond (rule x.0) (Ok x) (Err (Broken first x.1.place)) in
      let b = bind_ok (scan r) k (a, r') e in
      let g = rule_ok (rule b.0.0) (Broken first b.0.1.place) b.0 (a, r') b.2 in
      let t = code.takes r bytes well b.0.0 b.0.1 b.1 in
      let P : A × Rest → Type 0 = λ y. (Fits y.0 × (rule y.0 ≡ true)) × Takes r (encode y.0) y.1 × IsBytes y.1.ahead in
      subst P g.1 ((t.0, g.0), t.1, t.2);
  again = λ a f r r' t. rw (code.again a f.0 r r' t, f.1) refl;
  uncut = λ r bytes well there. uncut_bind (scan r) _ (code.uncut r bytes well there) (λ x e here. uncut_if (rule x.0) first x.1.place (Ok x) here);
}

pub cells_here : (width : ℕ) → IsCode (λ r. cells_at r.place width r) (λ text. text) (λ text. (length text ≡ width) × IsBytes text)
cells_here width = record {
  takes = λ r bytes well text r' e.
      let g = tests_ok (ltb r.limit (r.place + width)) (ltb (length r.ahead) width) (Broken r.place r.place) Short (take width r.ahead, past width r) (text, r') e in
      let fits : r.place + width ≤ r.limit = ltb-false _ _ g.0 in
      let long : width ≤ length r.ahead = ltb-false _ _ g.1 in
      let len : length (take width r.ahead) ≡ width = omega (arith, length-take width r.ahead) in
      let here : Takes r (take width r.ahead) (past width r) = record {
        parts = sym (take-append-drop width r.ahead);
        place = ap (λ (k : ℕ). r.place + k) (sym len);
        limit = refl;
        within = fits;
      } in
      let P : List ℕ × Rest → Type 0 = λ y. ((length y.0 ≡ width) × IsBytes y.0) × Takes r y.0 y.1 × IsBytes y.1.ahead in
      subst P g.2 ((len, IsBytes-take width r.ahead bytes), here, IsBytes-drop width r.ahead bytes);
  again = λ text f r r' t.
      let len = f.0 in
      let one : ltb r.limit (r.place + width) ≡ false = le-ltb _ _ (omega (arith, t.place, t.limit, t.within, len)) in
      let size : length r.ahead ≡ length text + length r'.ahead = ap length t.parts ∙ length-append text r'.ahead in
      let two : ltb (length r.ahead) width ≡ false = le-ltb _ _ (omega (arith, size, len)) in
      let value : take width r.ahead ≡ text = rw (t.parts, take_at text r'.ahead width len) refl in
      let after : past width r ≡ r' =
      let a : drop width r.ahead ≡ r'.ahead = rw t.parts (drop_at text r'.ahead width len) in
      rests (past width r) r' (omega (arith, t.place, len)) (sym t.limit) a in
      rw (one, two, value, after) refl;
  uncut = λ r bytes well there. uncut_unless (ltb r.limit (r.place + width)) r.place r.place _ (λ e.
      let le : r.place + width ≤ r.limit = ltb-false _ _ e in
      let two : ltb (length r.ahead) width ≡ false = le-ltb _ _ (omega arith) in
      let here : IsThere (past width r) = omega (arith, length-drop width r.ahead) in
      rw two here);
}

pub whole_code : (w : Width) (limit : ℕ) → IsWide w limit → IsCode (whole_at w) (to_be_bytes w) (λ n. n < limit)
whole_code w limit wide = cased (cells_here (byte_len w)) (from_be_bytes w) (λ bytes f. wide.back bytes f.0 f.1) (λ bytes f. wide.below bytes f.1)
    (λ n lt. (to_be_bytes w n, sym (wide.again n lt), (wide.len n, wide.fit n)))

pub number_code : (w : Width) (limit : ℕ) → IsWide w limit → (rule : ℕ → Bool) → IsCode (number_at w rule) (to_be_bytes w) (λ n. (n < limit) × (rule n ≡ true))
number_code w limit wide rule = ruled (whole_code w limit wide) rule

pub cells_code : (first width : ℕ) → IsCode (cells_at first width) (λ text. text) (λ text. length text ≡ width)
cells_code first width = record {
  takes = λ r bytes well text r' e.
      let g = tests_ok (ltb r.limit (r.place + width)) (ltb (length r.ahead) width) (Broken first r.place) Short (take width r.ahead, past width r) (text, r') e in
      let fits : r.place + width ≤ r.limit = ltb-false _ _ g.0 in
      let long : width ≤ length r.ahead = ltb-false _ _ g.1 in
      let len : length (take width r.ahead) ≡ width = omega (arith, length-take width r.ahead) in
      let here : Takes r (take width r.ahead) (past width r) = record {
        parts = sym (take-append-drop width r.ahead);
        place = ap (λ (k : ℕ). r.place + k) (sym len);
        limit = refl;
        within = fits;
      } in
      let P : List ℕ × Rest → Type 0 = λ y. (length y.0 ≡ width) × Takes r y.0 y.1 × IsBytes y.1.ahead in
      subst P g.2 (len, here, IsBytes-drop width r.ahead bytes);
  again = λ text len r r' t.
      let one : ltb r.limit (r.place + width) ≡ false = le-ltb _ _ (omega (arith, t.place, t.limit, t.within, len)) in
      let size : length r.ahead ≡ length text + length r'.ahead = ap length t.parts ∙ length-append text r'.ahead in
      let two : ltb (length r.ahead) width ≡ false = le-ltb _ _ (omega (arith, size, len)) in
      let value : take width r.ahead ≡ text = rw (t.parts, take_at text r'.ahead width len) refl in
      let after : past width r ≡ r' =
      let a : drop width r.ahead ≡ r'.ahead = rw t.parts (drop_at text r'.ahead width len) in
      rests (past width r) r' (omega (arith, t.place, len)) (sym t.limit) a in
      rw (one, two, value, after) refl;
  uncut = λ r bytes well there. uncut_unless (ltb r.limit (r.place + width)) first r.place _ (λ e.
      let le : r.place + width ≤ r.limit = ltb-false _ _ e in
      let two : ltb (length r.ahead) width ≡ false = le-ltb _ _ (omega arith) in
      let here : IsThere (past width r) = omega (arith, length-drop width r.ahead) in
      rw two here);
}
