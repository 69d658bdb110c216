-- The query of a pull that is meant for a node is allowed in a target.
use Rattle.std.specs.Prelude.{IfSome, nat_le, nat_lt}
use Rattle.std.proofs.Common.{◌≡◌, ◌⊎◌, ℕ, zero, suc, ◌+◌, ◌<◌, ◌≤◌, Bool, true, false, ◌&&◌, ◌||◌, ◌==◌, List, [], ◌∷◌, ◌++◌, length, codes, Option, Some, None, IsTrue, arith, inl, inr, refl, sym, subst}
use Rattle.std.specs.Char.{is_ascii_alphanumeric}
use Rattle.std.specs.Fmt.{decimal}
use Rattle.std.specs.Int.{is_in_range}
use Rattle.std.specs.List.{list_all}
use Rattle.std.specs.Str.{IsAscii}
use Rattle.std.proofs.lemmas.Bool.Decides.{nat_tests}
use Rattle.std.proofs.lemmas.Fmt.{decimal_digit}
use Rattle.std.proofs.lemmas.List.Sums.{AllPass-from_list_all}
use Rattle.std.proofs.lemmas.Str.{IsUtf8-from_ascii}
use Rattle.httparse.specs.Grammar.{is_uri_byte}
use Rattle.state_ids.specs.Ids.{IsNodeNumber}
use Rattle.wire_pulls.specs.Texts.{IsQuery}
use Rattle.node_worker.specs.Addressees.{opening_of, query_by}
use Rattle.node_worker.specs.Groups.{is_group_name, is_name_byte}

both : (a b : Bool) → (a && b) ≡ true → (a ≡ true) × (b ≡ true)
both true true e = (refl, refl)
both true false e = absurd cc
both false b e = absurd cc

one_of : (a b : Bool) → (a || b) ≡ true → (a ≡ true) ⊎ (b ≡ true)
one_of true b e = inl refl
one_of false b e = inr e

-- a visible byte of ASCII
abbrev IsVisible : ℕ → Type 0
IsVisible b = (33 ≤ b) × (b ≤ 126)

below : (a b : ℕ) → nat_le a b ≡ true → a ≤ b
below a b e = grind (arith, nat_tests)

same : (a b : ℕ) → (a == b) ≡ true → a ≡ b
same a b e = grind (arith, nat_tests)

in_range : (lo hi b : ℕ) → 33 ≤ lo → hi ≤ 126 → is_in_range lo hi b ≡ true → IsVisible b
in_range lo hi b low high e =
    let p = both (nat_le lo b) (nat_le b hi) e in
    let from = below lo b p.0 in
    let to = below b hi p.1 in
    (omega (arith, low, from), omega (arith, high, to))

of_letter : (b : ℕ) → is_ascii_alphanumeric b ≡ true → IsVisible b
of_letter b e = settle (one_of (is_in_range 48 57 b || is_in_range 65 90 b) (is_in_range 97 122 b) e)
  where
    first : (is_in_range 48 57 b ≡ true) ⊎ (is_in_range 65 90 b ≡ true) → IsVisible b
    first (inl is) = in_range 48 57 b (omega arith) (omega arith) is
    first (inr is) = in_range 65 90 b (omega arith) (omega arith) is

    settle : ((is_in_range 48 57 b || is_in_range 65 90 b) ≡ true) ⊎ (is_in_range 97 122 b ≡ true) → IsVisible b
    settle (inl is) = first (one_of (is_in_range 48 57 b) (is_in_range 65 90 b) is)
    settle (inr is) = in_range 97 122 b (omega arith) (omega arith) is

is_byte : (b n : ℕ) → 33 ≤ n → n ≤ 126 → (b == n) ≡ true → IsVisible b
is_byte b n low high e = let is = same b n e in (omega (arith, low, is), omega (arith, high, is))

of_name : (b : ℕ) → is_name_byte b ≡ true → IsVisible b
of_name b e = settle (one_of (is_ascii_alphanumeric b) ((b == 46) || ((b == 95) || (b == 45))) e)
  where
    last : ((b == 95) ≡ true) ⊎ ((b == 45) ≡ true) → IsVisible b
    last (inl is) = is_byte b 95 (omega arith) (omega arith) is
    last (inr is) = is_byte b 45 (omega arith) (omega arith) is

    mark : ((b == 46) ≡ true) ⊎ (((b == 95) || (b == 45)) ≡ true) → IsVisible b
    mark (inl is) = is_byte b 46 (omega arith) (omega arith) is
    mark (inr is) = last (one_of (b == 95) (b == 45) is)

    settle : (is_ascii_alphanumeric b ≡ true) ⊎ (((b == 46) || ((b == 95) || (b == 45))) ≡ true) → IsVisible b
    settle (inl is) = of_letter b is
    settle (inr is) = mark (one_of (b == 46) ((b == 95) || (b == 45)) is)

-- the byte is allowed in a target, and is ASCII
abbrev is_plain : ℕ → Bool
is_plain b = is_uri_byte b && nat_lt b 128

visible_plain : (b : ℕ) → IsVisible b → is_plain b ≡ true
visible_plain b (low, high) =
    let from : nat_lt 32 b ≡ true = grind (arith, nat_tests) in
    let del : (b == 127) ≡ false = grind (arith, nat_tests) in
    let to : nat_lt b 128 ≡ true = grind (arith, nat_tests) in
    rw (from, del, to) refl

names_plain : (name : List ℕ) → list_all is_name_byte name ≡ true → list_all is_plain name ≡ true
names_plain [] e = refl
names_plain (b ∷ name) e =
    let p = both (is_name_byte b) (list_all is_name_byte name) e in
    let first = visible_plain b (of_name b p.0) in
    let rest = names_plain name p.1 in
    rw (first, rest) refl

plain_uri : (text : List ℕ) → list_all is_plain text ≡ true → list_all is_uri_byte text ≡ true
plain_uri [] e = refl
plain_uri (b ∷ text) e =
    let p = both (is_plain b) (list_all is_plain text) e in
    let first = (both (is_uri_byte b) (nat_lt b 128) p.0).0 in
    let rest = plain_uri text p.1 in
    rw (first, rest) refl

low_byte : (b : ℕ) → nat_lt b 128 ≡ true → b < 128
low_byte b e = grind (arith, nat_tests)

plain_ascii : (text : List ℕ) → list_all is_plain text ≡ true → IsAscii text
plain_ascii [] e i = omega arith
plain_ascii (b ∷ text) e zero = low_byte b (both (is_uri_byte b) (nat_lt b 128) (both (is_plain b) (list_all is_plain text) e).0).1
plain_ascii (b ∷ text) e (suc i) = plain_ascii text (both (is_plain b) (list_all is_plain text) e).1 i

is_a_query : (text : List ℕ) → list_all is_plain text ≡ true → length text ≤ 16000 → IsQuery text
is_a_query text plain short = record {
  text = IsUtf8-from_ascii text (plain_ascii text plain);
  bytes = AllPass-from_list_all is_uri_byte text (plain_uri text plain);
  short = short;
}

-- the name of a group has at most 64 bytes, each of which is plain
name_parts : (name : List ℕ) → IsTrue (is_group_name name) → (length name ≤ 64) × (list_all is_plain name ≡ true)
name_parts name is =
    let p = both (nat_le 1 (length name)) (nat_le (length name) 64 && list_all is_name_byte name) is in
    let q = both (nat_le (length name) 64) (list_all is_name_byte name) p.1 in
    (below (length name) 64 q.0, names_plain name q.1)

-- the digit of a node's number
abbrev digit : ℕ → ℕ
digit n = 48 + n

digit_plain : (n : ℕ) → n ≤ 8 → is_plain (digit n) ≡ true
digit_plain n few = visible_plain (digit n) (omega arith, omega (arith, few))

abbrev OfTexts : (waits : Bool) → (from to : List ℕ) → Option (List ℕ) → Type 0
OfTexts waits from to None = IsQuery (opening_of waits ++ (from ++ (codes "&to=" ++ to)))
OfTexts waits from to (Some name) = IsQuery (opening_of waits ++ (from ++ (codes "&to=" ++ (to ++ (codes "&group=" ++ name)))))

fits_alone : (waits : Bool) (from to : ℕ) → from ≤ 8 → to ≤ 8 → OfTexts waits (digit from ∷ []) (digit to ∷ []) None
fits_alone true from to few fewer =
    let one = digit_plain from few in
    let two = digit_plain to fewer in
    is_a_query (codes "?wait=" ++ (digit from ∷ (codes "&to=" ++ digit to ∷ []))) (rw (one, two) refl) (omega arith)
fits_alone false from to few fewer =
    let one = digit_plain from few in
    let two = digit_plain to fewer in
    is_a_query (codes "?from=" ++ (digit from ∷ (codes "&to=" ++ digit to ∷ []))) (rw (one, two) refl) (omega arith)

fits_group : (waits : Bool) (from to : ℕ) (name : List ℕ) → from ≤ 8 → to ≤ 8 → length name ≤ 64 → list_all is_plain name ≡ true → OfTexts waits (digit from ∷ []) (digit to ∷ []) (Some name)
fits_group true from to name few fewer short bytes =
    let one = digit_plain from few in
    let two = digit_plain to fewer in
    is_a_query (codes "?wait=" ++ (digit from ∷ (codes "&to=" ++ (digit to ∷ (codes "&group=" ++ name))))) (rw (one, two, bytes) refl) (omega (arith, short))
fits_group false from to name few fewer short bytes =
    let one = digit_plain from few in
    let two = digit_plain to fewer in
    is_a_query (codes "?from=" ++ (digit from ∷ (codes "&to=" ++ (digit to ∷ (codes "&group=" ++ name))))) (rw (one, two, bytes) refl) (omega (arith, short))

fits_digits : (waits : Bool) (from to : ℕ) (group : Option (List ℕ)) → from ≤ 8 → to ≤ 8 → IfSome group (λ name. IsTrue (is_group_name name)) → OfTexts waits (digit from ∷ []) (digit to ∷ []) group
fits_digits waits from to None few fewer names = fits_alone waits from to few fewer
fits_digits waits from to (Some name) few fewer names =
    let parts = name_parts name names in
    fits_group waits from to name few fewer parts.0 parts.1

of_query : (waits : Bool) (from to : ℕ) (group : Option (List ℕ)) → OfTexts waits (decimal from) (decimal to) group → IsQuery (query_by waits from to group)
of_query waits from to None is = is
of_query waits from to (Some name) is = is

pub query_fits : (waits : Bool) (from to : ℕ) (group : Option (List ℕ)) → IsNodeNumber from → IsNodeNumber to → IfSome group (λ name. IsTrue (is_group_name name)) → IsQuery (query_by waits from to group)
query_fits waits from to group asker number names =
    let one : decimal from ≡ digit from ∷ [] = decimal_digit from (omega (arith, asker.1)) in
    let two : decimal to ≡ digit to ∷ [] = decimal_digit to (omega (arith, number.1)) in
    of_query waits from to group
    (subst (λ (t : List ℕ). OfTexts waits t (decimal to) group) (sym one)
    (subst (λ (t : List ℕ). OfTexts waits (digit from ∷ []) t group) (sym two)
    (fits_digits waits from to group asker.1 number.1 names)))
