-- How far the reading of a base has come.
use Rattle.std.proofs.Common.{◌≡◌, ℕ, suc, ◌<◌, ◌≤◌, List, [], ◌∷◌, ◌++◌, length, map, take, sym, ◌∙◌, arith}
use Rattle.std.specs.Prelude.{All}
use Rattle.std.specs.Fmt.{decimal}
use Rattle.std.proofs.lemmas.List.{length-take-le}
use Rattle.script_lines.specs.Asks.{IsBaseOf, IsNumber}
use Rattle.script_lines.proofs.OneAskALine.{head_same, tail_same}

-- the first counts, `place` of them, were read, and these words are left
pub record IsCounting (words rest : List (List ℕ)) (counts : List ℕ) (place : ℕ) : Type 0 where
  pub read : words ≡ map decimal (take place counts) ++ rest
  pub small : All IsNumber (take place counts)
  pub room : length counts ≡ 8

-- if words spell a base, a number follows those of fewer counts
further : (done : List ℕ) (rest : List (List ℕ)) (base : List ℕ) → map decimal done ++ rest ≡ map decimal base → length done < length base → All IsNumber base
    → (n : ℕ) × (more : List ℕ) × IsNumber n × (rest ≡ decimal n ∷ map decimal more)
further [] rest [] e less small = absurd (omega (arith, less))
further [] rest (n ∷ base) e less small = (n, base, small 0 n (omega arith), e)
further (d ∷ done) rest [] e less small = absurd (omega (arith, less))
further (d ∷ done) rest (n ∷ base) e less small =
    further done rest base (tail_same (decimal d) (decimal n) (map decimal done ++ rest) (map decimal base) e) (omega (arith, less)) (λ k x lt. small (suc k) x (omega (arith, lt)))

counted : (words rest : List (List ℕ)) (counts : List ℕ) (place : ℕ) → IsCounting words rest counts place → place ≤ 8 → length (take place counts) ≡ place
counted words rest counts place was few = length-take-le place counts (omega (arith, few, was.room))

-- a word that is not a number spells no count
pub no_count : (words rest more : List (List ℕ)) (word counts : List ℕ) (place nodes : ℕ) → IsCounting words rest counts place → place < nodes → nodes ≤ 8 → rest ≡ word ∷ more
    → ((n : ℕ) → IsNumber n → word ≡ decimal n → ⊥) → (base : List ℕ) → IsBaseOf nodes base → words ≡ map decimal base → ⊥
no_count words rest more word counts place nodes was less few is none base of e =
    let count = counted words rest counts place was (omega (arith, less, few)) in
    by (further (take place counts) rest base (sym was.read ∙ e) (omega (arith, count, less, of.0)) of.1)
  where
    by : (n : ℕ) × (left : List ℕ) × IsNumber n × (rest ≡ decimal n ∷ map decimal left) → ⊥
    by (n, left, fits, spelled) = none n fits (head_same word (decimal n) more (map decimal left) (sym is ∙ spelled))
