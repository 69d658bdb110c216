-- Reading a pull's body is the inverse of encoding it.
use Rattle.std.proofs.Common.{◌≡◌, ◌∙◌, ℕ, zero, suc, ◌+◌, ◌-◌, ◌*◌, ◌%◌, ◌^◌, ◌<◌, ◌≤◌, Bool, true, false, ◌&&◌, ◌==◌, cond, ltb, List, [], ◌∷◌, ◌++◌, length, take, drop, Result, Ok, Err, refl, sym, ap, append_assoc, subst, arith, slice_set, inl, inr, nat_le}
use Rattle.std.specs.Prelude.{IfOk}
use Rattle.std.specs.Int.{w64, from_be_bytes, to_be_bytes}
use Rattle.std.proofs.lemmas.Bool.{cases_lt, ltb-false, le-ltb}
use Rattle.std.proofs.lemmas.Bool.Decides.{nat_tests}
use Rattle.std.proofs.lemmas.List.{take-append-drop, length-take, length-drop, get_or-drop, get_or-take, get_or_past, take_more_set}
use Rattle.std.proofs.lemmas.List.Concat.{flat_map-cons}
use Rattle.std.proofs.lemmas.Nat.{be_bytes_8, from_be_bytes-to_be_bytes_8}
use Rattle.state_ids.specs.Ids.{last_number}
use Rattle.state_facts.specs.declared.refusal.Refusal.{Refusal}
use Rattle.state_facts.specs.declared.refusal.Refusal.TheVariants.{BadFrame}
use Rattle.wire_frames.specs.Rules.{are_counts}
use Rattle.wire_frames.specs.Encoding.{number, vector}
use Rattle.wire_frames.proofs.Codes.{IsBytes}
use Rattle.wire_frames.proofs.RecordCodes.{length-vector}
use Rattle.wire_pulls.specs.PullBodies.{IsAsked, asked, counts_in, pull_body}

both : (a b : Bool) → (a && b) ≡ true → (a ≡ true) × (b ≡ true)
both true true e = (refl, refl)
both true false e = absurd cc
both false b e = absurd cc

small_fits : (n : ℕ) → nat_le n last_number ≡ true → n < 2 ^ 64
small_fits n e = grind (arith, nat_tests)

-- ---- counts

other_bytes : (bytes : List ℕ) → IsBytes bytes → IsBytes (drop 8 bytes)
other_bytes bytes fits i = rw get_or-drop (fits (8 + i))

first_bytes : (bytes : List ℕ) → IsBytes bytes → IsBytes (take 8 bytes)
first_bytes bytes fits i =
    elim (cases_lt i 8) [
      | inl low ↦ rw (get_or-take 8 bytes i 0 low) (fits i)
      | inr high ↦ rw (get_or_past (take 8 bytes) i 0 (omega (arith, length-take 8 bytes))) (omega arith)
    ]

pub counts_again : (front : List ℕ) → are_counts front ≡ true → counts_in (length front) (vector front) ≡ front
counts_again [] small = refl
counts_again (n ∷ ns) small =
    let p = both (nat_le n last_number) (are_counts ns) small in
    ap (counts_in (suc (length ns))) (flat_map-cons number n ns)
    ∙ ap (λ (k : ℕ). k ∷ counts_in (length ns) (vector ns)) (from_be_bytes-to_be_bytes_8 n (small_fits n p.0))
    ∙ ap (λ (l : List ℕ). n ∷ l) (counts_again ns p.1)

pub length-counts : (n : ℕ) (bytes : List ℕ) → length (counts_in n bytes) ≡ n
length-counts zero bytes = refl
length-counts (suc n) bytes = ap suc (length-counts n (drop 8 bytes))

pub encoded : (n : ℕ) (bytes : List ℕ) → length bytes ≡ 8 * n → IsBytes bytes → vector (counts_in n bytes) ≡ bytes
encoded zero [] len fits = refl
encoded zero (b ∷ bytes) len fits = absurd (omega (arith, len))
encoded (suc n) bytes len fits =
    let first : to_be_bytes w64 (from_be_bytes w64 (take 8 bytes)) ≡ take 8 bytes =
    be_bytes_8 (take 8 bytes) _ (omega (arith, len, length-take 8 bytes)) (first_bytes bytes fits) refl in
    let rest : vector (counts_in n (drop 8 bytes)) ≡ drop 8 bytes = encoded n (drop 8 bytes) (omega (arith, len, length-drop 8 bytes)) (other_bytes bytes fits) in
    flat_map-cons number (from_be_bytes w64 (take 8 bytes)) (counts_in n (drop 8 bytes))
    ∙ ap (λ (l : List ℕ). l ++ vector (counts_in n (drop 8 bytes))) first
    ∙ ap (λ (l : List ℕ). take 8 bytes ++ l) rest
    ∙ take-append-drop 8 bytes

-- ---- bodies

-- all four tests passed
passed : (a b c d : Bool) (p q r s : Refusal) (x y : List ℕ) → cond a (cond b (Err p) (cond c (cond d (Err q) (Ok x)) (Err r))) (Err s) ≡ Ok y
    → (a ≡ true) × (b ≡ false) × (c ≡ true) × (d ≡ false) × (x ≡ y)
passed true false true false p q r s x y e = (refl, refl, refl, refl, cc)
passed true false true true p q r s x y e = absurd cc
passed true false false d p q r s x y e = absurd cc
passed true true c d p q r s x y e = absurd cc
passed false b c d p q r s x y e = absurd cc

same_number : (a b : ℕ) → (a == b) ≡ true → a ≡ b
same_number a b e = grind (arith, nat_tests)

number_same : (a b : ℕ) → a ≡ b → (a == b) ≡ true
number_same a b e = grind (arith, nat_tests)

found_ok : (nodes : ℕ) (body front : List ℕ) → IsBytes body → asked nodes body ≡ Ok front → IsAsked nodes front × (body ≡ pull_body front)
found_ok nodes [] front fits e = absurd cc
found_ok nodes (count ∷ bytes) front fits e =
    let p = passed (count == nodes) (ltb (length bytes) (8 * nodes)) (are_counts (counts_in nodes bytes)) (ltb (8 * nodes) (length bytes)) (BadFrame 1) (BadFrame (1 + 8 * nodes)) (BadFrame 1) (BadFrame 0) (counts_in nodes bytes) front e in
    let many : 8 * nodes ≤ length bytes = ltb-false _ _ p.1 in
    let few : length bytes ≤ 8 * nodes = ltb-false _ _ p.3 in
    let is : counts_in nodes bytes ≡ front = p.4 in
    let len : length front ≡ nodes = sym (ap length is) ∙ length-counts nodes bytes in
    let named : count ≡ nodes = same_number count nodes p.0 in
    let low : count < 256 = fits zero in
    let first : count ≡ length front % 256 = omega (arith, named, low, len) in
    let text : bytes ≡ vector front = sym (encoded nodes bytes (omega (arith, many, few)) (λ i. fits (suc i))) ∙ ap vector is in
    (record { count = len; small = subst (λ (l : List ℕ). are_counts l ≡ true) is p.2 }, ap (λ (n : ℕ). n ∷ bytes) first ∙ ap (λ (l : List ℕ). (length front % 256) ∷ l) text)

pub is_found : (nodes : ℕ) (body : List ℕ) (result : Result (List ℕ) Refusal) → IsBytes body → result ≡ asked nodes body
    → IfOk result (λ front. IsAsked nodes front × (body ≡ pull_body front))
is_found nodes body (Ok front) fits e = found_ok nodes body front fits (sym e)
is_found nodes body (Err refusal) fits e = tt

pub asked_again : (nodes : ℕ) (front : List ℕ) → nodes ≤ 8 → IsAsked nodes front → asked nodes (pull_body front) ≡ Ok front
asked_again nodes front few is =
    let len = is.count in
    let named : (length front % 256 == nodes) ≡ true = number_same (length front % 256) nodes (omega (arith, few, len)) in
    let size : length (vector front) ≡ 8 * nodes = omega (arith, length-vector front, len) in
    let many : ltb (length (vector front)) (8 * nodes) ≡ false = le-ltb _ _ (omega (arith, size)) in
    let few : ltb (8 * nodes) (length (vector front)) ≡ false = le-ltb _ _ (omega (arith, size)) in
    let value : counts_in nodes (vector front) ≡ front = subst (λ (n : ℕ). counts_in n (vector front) ≡ front) len (counts_again front is.small) in
    rw (named, many, few, value, is.small) refl

pub is_only : (nodes : ℕ) (body : List ℕ) (result : Result (List ℕ) Refusal) → nodes ≤ 8 → result ≡ asked nodes body
    → (front : List ℕ) → IsAsked nodes front → body ≡ pull_body front → result ≡ Ok front
is_only nodes body result few e front is text = e ∙ ap (asked nodes) text ∙ asked_again nodes front few is

-- ---- one count more

pub one_more : (nodes place : ℕ) (counts rest after number whole : List ℕ) (n : ℕ) → place < nodes → place < length counts
    → number ≡ take 8 rest → after ≡ drop 8 rest → n ≡ from_be_bytes w64 number
    → take place counts ++ counts_in (nodes - place) rest ≡ whole
    → take (place + 1) (slice_set counts place n) ++ counts_in (nodes - (place + 1)) after ≡ whole
one_more nodes place counts rest after number whole n low within first last value so_far =
    let left : nodes - place ≡ suc (nodes - (place + 1)) = omega (arith, low) in
    let is : n ≡ from_be_bytes w64 (take 8 rest) = value ∙ ap (from_be_bytes w64) first in
    ap (λ (l : List ℕ). l ++ counts_in (nodes - (place + 1)) after) (take_more_set counts place n within)
    ∙ append_assoc (take place counts) (n ∷ []) (counts_in (nodes - (place + 1)) after)
    ∙ ap (λ (l : List ℕ). take place counts ++ (n ∷ counts_in (nodes - (place + 1)) l)) last
    ∙ ap (λ (k : ℕ). take place counts ++ (k ∷ counts_in (nodes - (place + 1)) (drop 8 rest))) is
    ∙ ap (λ (k : ℕ). take place counts ++ counts_in k rest) (sym left)
    ∙ so_far
