-- How the word of an address is parted.
use Rattle.std.proofs.Common.{◌≡◌, ◌≤◌, ◌<◌, ◌^◌, ◌+◌, ◌%◌, ℕ, Bool, true, false, cond, List, [], ◌∷◌, ◌++◌, length, get_or, take, drop, sym, refl, ap, ◌∙◌, arith, take-append-drop, true≢false, lit<, suc, ◌≢◌}
use Rattle.std.specs.Prelude.{◌||◌, ◌==◌, Option, Some, None, MatchOption}
use Rattle.std.specs.Fmt.{decimal}
use Rattle.std.specs.List.{AllZip}
use Rattle.std.proofs.lemmas.Bool.{ne_eqb, or_right}
use Rattle.std.proofs.lemmas.Fmt.{decimal_by_steps}
use Rattle.std.proofs.lemmas.List.Folds.{list_any-append}
use Rattle.std.proofs.lemmas.Str.Pattern.{NoCharPasses-char, drop_at_char}
use Rattle.std.specs.Str.Pattern.{RFindsChar, SplitsAroundMatch}
use denote.Ref.{Bor}
use Rattle.program_args.specs.Arguments.{SaysPeer, has, host_text}
use Rattle.program_args.specs.Readings.{IsUnnamed}

neither : (a b : Bool) → a ≡ false → b ≡ false → (a || b) ≡ false
neither a b p q = grind arith

-- no digit is a byte behind the digits
pub no_digit : (b : ℕ) → 58 ≤ b → (n : ℕ) → n < 2 ^ 64 → has b (decimal n) ≡ false
no_digit b behind = decimal_by_steps (λ n ds. has b ds ≡ false)
    (λ n small. neither _ _ (ne_eqb (48 + n) b (λ e. omega arith)) refl)
    (λ n ds large none. list_any-append (λ c. c == b) ds ((48 + n % 10) ∷ []) ∙ neither _ _ none (neither _ _ (ne_eqb (48 + n % 10) b (λ e. omega arith)) refl))

-- a text in which a colon stands has one
pub colon_in : (xs ys : List ℕ) → has 58 (xs ++ 58 ∷ ys) ≡ true
colon_in [] ys = refl
colon_in (x ∷ xs) ys = or_right _ _ (colon_in xs ys)

-- the last colon stands at one place
pub one_last : (xs ys vs ws : List ℕ) → has 58 ys ≡ false → has 58 ws ≡ false → xs ++ 58 ∷ ys ≡ vs ++ 58 ∷ ws → (xs ≡ vs) × (ys ≡ ws)
one_last [] ys [] ws p q e = (refl, ap (drop 1) e)
one_last [] ys (v ∷ vs) ws p q e = absurd (true≢false (sym (colon_in vs ws) ∙ ap (has 58) (sym (ap (drop 1) e)) ∙ p))
one_last (x ∷ xs) ys [] ws p q e = absurd (true≢false (sym (colon_in xs ys) ∙ ap (has 58) (ap (drop 1) e) ∙ q))
one_last (x ∷ xs) ys (v ∷ vs) ws p q e =
    let more = one_last xs ys vs ws p q (ap (drop 1) e) in
    let first : x ≡ v = ap (λ l. get_or l 0 0) e in (cc, more.1)

lacks : (bs : List ℕ) → ((i : ℕ) → i < length bs → get_or bs i 0 ≢ 58) → has 58 bs ≡ false
lacks [] none = refl
lacks (b ∷ bs) none = neither _ _ (ne_eqb b 58 (none 0 (omega arith))) (lacks bs (λ i inside. none (suc i) (omega arith)))

-- what std's search for the last colon gives
pub last_parts : (bs : List ℕ) (r : Option (Bor (List ℕ) × Bor (List ℕ))) → MatchOption r (RFindsChar 58 bs None) (λ x. SplitsAroundMatch (RFindsChar 58) bs x.0.now x.1.now) → MatchOption r (has 58 bs ≡ false) (λ p. (bs ≡ p.0.now ++ 58 ∷ p.1.now) × (has 58 p.1.now ≡ false))
last_parts bs None none = lacks bs (λ i inside. NoCharPasses-char 58 bs i none (lit< tt) inside)
last_parts bs (Some (before, behind)) (i, j, (none, at), front, back, _, _, _) = (
  sym (take-append-drop i bs) ∙ ap (λ l. take i bs ++ l) (drop_at_char 58 bs i j at (lit< tt)) ∙ ap (λ l. l ++ 58 ∷ drop j bs) (sym front) ∙ ap (λ l. before.now ++ 58 ∷ l) (sym back),
  ap (has 58) back ∙ lacks (drop j bs) (λ k inside. NoCharPasses-char 58 (drop j bs) k none (lit< tt) inside),
)

-- an address is parted at its last colon
pub parted : (word before behind : List ℕ) → word ≡ before ++ 58 ∷ behind → has 58 behind ≡ false → (host : List ℕ) (port : ℕ) → SaysPeer word (host, port) → (before ≡ host_text host) × (behind ≡ decimal port)
parted word before behind is none host port (_, _, small, says) =
    one_last before behind (host_text host) (decimal port) none (no_digit 58 (omega arith) port (omega arith)) (sym is ∙ says)

pub no_address : (word : List ℕ) → has 58 word ≡ false → (host : List ℕ) (port : ℕ) → SaysPeer word (host, port) → ⊥
no_address word none host port (_, _, _, says) = true≢false (sym (colon_in (host_text host) (decimal port)) ∙ ap (has 58) (sym says) ∙ none)

-- what stands in brackets
pub bracketed : (text rest : List ℕ) → text ≡ 91 ∷ rest → (r : Option (Bor (List ℕ))) → MatchOption r ((front : List ℕ) → rest ≢ front ++ 93 ∷ []) (λ x. rest ≡ x.now ++ 93 ∷ []) → MatchOption r ((host : List ℕ) → text ≡ 91 ∷ (host ++ 93 ∷ []) → ⊥) (λ host. text ≡ 91 ∷ (host.now ++ 93 ∷ []))
bracketed text rest is None none = λ host e. none host (ap (drop 1) (sym is ∙ e))
bracketed text rest is (Some x) e = is ∙ ap (λ l. 91 ∷ l) e

unnamed_host : (host : List ℕ) → has 61 host ≡ false → has 61 (host_text host) ≡ false
unnamed_host host none =
    elim (has 58 host) as (λ v. has 61 (cond v (91 ∷ (host ++ 93 ∷ [])) host) ≡ false) [
      | true ↦ list_any-append (λ b. b == 61) host (93 ∷ []) ∙ neither _ _ none refl
      | false ↦ none
    ]

-- an address has no `=`, and isn't `strict` or `anew`
pub unnamed : (words : List (List ℕ)) (peers : List (List ℕ × ℕ)) → AllZip SaysPeer words peers → IsUnnamed words
unnamed [] peers say = tt
unnamed (word ∷ words) [] say = absurd say
unnamed (word ∷ words) ((host, port) ∷ peers) ((is, low, high, e), more) = (
  ap (has 61) e ∙ list_any-append (λ b. b == 61) (host_text host) (58 ∷ decimal port) ∙ neither _ _ (unnamed_host host is.1) (no_digit 61 (omega arith) port (omega arith)),
  λ strict. true≢false (sym (colon_in (host_text host) (decimal port)) ∙ ap (has 58) (sym e ∙ strict)),
  λ anew. true≢false (sym (colon_in (host_text host) (decimal port)) ∙ ap (has 58) (sym e ∙ anew)),
)
