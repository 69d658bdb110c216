-- lists of facts in order of their numbers, one of which is the first part of the other
--
-- Two lists sorted by number with the same facts are equal. If the further facts of one list are
-- all greater, the other list is its first part. That replaces each induction over a history's own
-- list
use Rattle.std.proofs.Common.{◌≡◌, ◌⊎◌, inl, inr, ◌<◌, List, [], ◌∷◌, ◌++◌, refl, sym, ap, ◌∙◌, arith}
use Rattle.state_facts.specs.declared.fact.Fact.{Fact}
use Rattle.state_facts.specs.Lists.{In, IsInside}
use Rattle.state_forest.proofs.Bools.{all_in}
use Rattle.state_forest.proofs.GiversOfNumbers.{Ascend}

-- the fact has a greater number than each fact of the list
abbrev pub IsBeyond : Fact → List Fact → Type 0
IsBeyond f ys = (g : Fact) → In g ys → g.num < f.num

-- xs is ys followed by others
pub record IsLonger (xs ys : List Fact) : Type 0 where
  pub rest : List Fact
  pub is : xs ≡ ys ++ rest
  pub others : (f : Fact) → In f rest → In f xs × IsBeyond f ys

-- two lists have the same first element, if each element of the second is in the first and those
-- that it lacks are beyond it
same_first : (x y : Fact) (xs ys : List Fact) → Ascend (x ∷ xs) → Ascend (y ∷ ys) → In y (x ∷ xs) → In x (y ∷ ys) ⊎ IsBeyond x (y ∷ ys) → x ≡ y
same_first x y xs ys ax ay (inl s) b = sym s
same_first x y xs ys ax ay (inr n) (inl (inl s)) = s
same_first x y xs ys ax ay (inr n) (inl (inr m)) =
    absurd (omega (arith, all_in (λ (z : Fact). x.num < z.num) xs ax.0 y n, all_in (λ (z : Fact). y.num < z.num) ys ay.0 x m))
same_first x y xs ys ax ay (inr n) (inr far) =
    absurd (omega (arith, all_in (λ (z : Fact). x.num < z.num) xs ax.0 y n, far y (inl refl)))

-- the first list is the second followed by more, if each fact of the second is in it, and those
-- that it alone has have greater numbers
pub longer : (xs ys : List Fact) → Ascend xs → Ascend ys → IsInside ys xs → ((f : Fact) → In f xs → In f ys ⊎ IsBeyond f ys) → IsLonger xs ys
longer xs [] ax ay inside more = record { rest = xs; is = refl; others = λ f m. (m, λ g k. absurd k) }
longer [] (y ∷ ys) ax ay inside more = absurd (inside y (inl refl))
longer (x ∷ xs) (y ∷ ys) ax ay inside more =
    let same : x ≡ y = same_first x y xs ys ax ay (inside y (inl refl)) (more x (inl refl)) in
    let num : x.num ≡ y.num = ap (λ (z : Fact). z.num) same in
    let next : IsLonger xs ys = longer xs ys ax.1 ay.1 (λ f m. within f m num (inside f (inr m))) (λ f m. beyond f m num (more f (inr m))) in
    record {
      rest = next.rest;
      is = ap (λ f. f ∷ xs) same ∙ ap (λ fs. y ∷ fs) next.is;
      others = λ f m. let o = next.others f m in (inr o.0, far f num (all_in (λ (z : Fact). x.num < z.num) xs ax.0 f o.0) o.1);
    }
  where
    within : (f : Fact) → In f ys → x.num ≡ y.num → In f (x ∷ xs) → In f xs
    within f m num (inl s) = absurd (omega (arith, num, ap (λ (z : Fact). z.num) s, all_in (λ (z : Fact). y.num < z.num) ys ay.0 f m))
    within f m num (inr n) = n

    beyond : (f : Fact) → In f xs → x.num ≡ y.num → In f (y ∷ ys) ⊎ IsBeyond f (y ∷ ys) → In f ys ⊎ IsBeyond f ys
    beyond f m num (inl (inl s)) = absurd (omega (arith, num, ap (λ (z : Fact). z.num) s, all_in (λ (z : Fact). x.num < z.num) xs ax.0 f m))
    beyond f m num (inl (inr n)) = inl n
    beyond f m num (inr far) = inr (λ g k. far g (inr k))

    far : (f : Fact) → x.num ≡ y.num → x.num < f.num → IsBeyond f ys → IsBeyond f (y ∷ ys)
    far f num less over g (inl s) = omega (arith, num, less, ap (λ (z : Fact). z.num) s)
    far f num less over g (inr n) = over g n

-- so two lists in order with the same elements are equal
pub same_ascending : (xs ys : List Fact) → Ascend xs → Ascend ys → IsInside xs ys → IsInside ys xs → xs ≡ ys
same_ascending xs ys ax ay left right =
    let l = longer xs ys ax ay right (λ f m. inl (left f m)) in
    l.is ∙ nothing l.rest (λ f m. let o = l.others f m in let self = o.1 f (left f o.0) in omega (arith, self))
  where
    unit : (zs : List Fact) → zs ++ [] ≡ zs
    unit [] = refl
    unit (z ∷ zs) = ap (λ r. z ∷ r) (unit zs)

    nothing : (rest : List Fact) → ((f : Fact) → In f rest → ⊥) → ys ++ rest ≡ ys
    nothing [] none = unit ys
    nothing (r ∷ rest) none = absurd (none r (inl refl))
