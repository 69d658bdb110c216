-- Ids in a text.
use Rattle.std.proofs.Common.{◌≡◌, ℕ, ◌+◌, ◌<◌, ◌≤◌, ◌^◌, List, [], ◌∷◌, ◌++◌, length, take, drop, get_or, ap, sym, ◌∙◌, arith, codes}
use Rattle.std.specs.Fmt.{decimal}
use Rattle.std.proofs.lemmas.Fmt.{decimal_digit, decimal_injective}
use Rattle.state_ids.specs.Ids.{Id, IsId, id_text}

-- a text is the decimal of one number
pub one_number : (text : List ℕ) (m n : ℕ) → m < 2 ^ 64 → n < 2 ^ 64 → text ≡ decimal m → text ≡ decimal n → m ≡ n
one_number text m n a b e f = decimal_injective m n a b (sym e ∙ f)

-- how an id's text begins, and how it goes on
pub record IsParted (text : List ℕ) (id : Id) : Type 0 where
  pub long : 2 ≤ length text
  pub home : take 1 text ≡ decimal id.home
  pub point : get_or text 1 0 ≡ 46
  pub num : drop 2 text ≡ decimal id.num

parted : (digit : ℕ) (id : Id) (text : List ℕ) → decimal id.home ≡ digit ∷ [] → text ≡ digit ∷ 46 ∷ decimal id.num → IsParted text id
parted digit id text d e = record {
  long = omega (arith, ap (λ (l : List ℕ). length l) e);
  home = ap (λ (l : List ℕ). take 1 l) e ∙ sym d;
  point = ap (λ (l : List ℕ). get_or l 1 0) e;
  num = ap (λ (l : List ℕ). drop 2 l) e;
}

pub id_parted : (text : List ℕ) (id : Id) → IsId id → text ≡ id_text id → IsParted text id
id_parted text id valid e =
    let d : decimal id.home ≡ (48 + id.home) ∷ [] = decimal_digit id.home (omega (arith, valid.home.1)) in
    parted (48 + id.home) id text d (e ∙ ap (λ (h : List ℕ). h ++ codes "." ++ decimal id.num) d)
