-- the path of a participant from an LRA that it is under
use Rattle.std.proofs.Common.{◌≡◌, inl, inr, ◌<◌, ◌≤◌, ◌++◌, ℕ, zero, suc, List, [], ◌∷◌, refl, sym, ap, ◌∙◌, true, false, arith, Option, Some, None}
use Rattle.std.specs.List.{AllByRecursion}
use Rattle.std.specs.Option.{option_map_or}
use Rattle.std.proofs.lemmas.Bool.Decides.{nat_tests}
use Rattle.state_ids.specs.Ids.{Id, same_id}
use Rattle.state_facts.specs.declared.fact.Fact.{Fact}
use Rattle.state_facts.specs.Duties.{slots_below}
use Rattle.state_facts.specs.Sets.{chain, is_under, member_number, parent_of, NamesEarlier}
use Rattle.state_facts.proofs.Chains.{chain_is, parent_lesser}
use Rattle.state_forest.proofs.Bools.{or_cases}
use Rattle.state_forest.proofs.ParentsAndChains.{chain_up, parent_home}
use Rattle.state_forest.proofs.NumberedMembers.{same_is, same_self}
use Rattle.state_forest.proofs.UnderAnLra.{under_root, under_up}

-- an LRA that is under another has no lesser number
pub under_number : (S : List Fact) → AllByRecursion NamesEarlier S → (l : Id) (n : ℕ) (d : Id) → d.num < n → is_under S l d ≡ true → l.num ≤ d.num
under_number S nested l zero d e under = absurd (omega (arith, e))
under_number S nested l (suc n) d e under = by (λ p less above. under_number S nested l n p less above) (parent_of S d) refl
  where
    same : l ≡ d → l.num ≤ d.num
    same s = omega (arith, ap (λ (x : Id). x.num) s)

    by : ((p : Id) → p.num < n → is_under S l p ≡ true → l.num ≤ p.num) → (o : Option Id) → parent_of S d ≡ o → l.num ≤ d.num
    by rest None at = same (under_root S nested l d at under)
    by rest (Some p) at =
        let lesser = parent_lesser S d p nested at in
        elim (or_cases (same_id l d) (is_under S l p) (sym (under_up S nested l d p at) ∙ under)) [ inl here ↦ same (same_is l d here) | inr above ↦ omega (arith, lesser, rest p (omega (arith, e, lesser)) above) ]

-- and it has the same home
pub under_home : (S : List Fact) → AllByRecursion NamesEarlier S → (l : Id) (n : ℕ) (d : Id) → d.num < n → is_under S l d ≡ true → d.home ≡ l.home
under_home S nested l zero d e under = absurd (omega (arith, e))
under_home S nested l (suc n) d e under = by (λ p less above. under_home S nested l n p less above) (parent_of S d) refl
  where
    same : l ≡ d → d.home ≡ l.home
    same s = sym (ap (λ (x : Id). x.home) s)

    by : ((p : Id) → p.num < n → is_under S l p ≡ true → p.home ≡ l.home) → (o : Option Id) → parent_of S d ≡ o → d.home ≡ l.home
    by rest None at = same (under_root S nested l d at under)
    by rest (Some p) at =
        let lesser = parent_lesser S d p nested at in
        elim (or_cases (same_id l d) (is_under S l p) (sym (under_up S nested l d p at) ∙ under)) [ inl here ↦ same (same_is l d here) | inr above ↦ sym (parent_home S d p nested at) ∙ rest p (omega (arith, e, lesser)) above ]

-- the member numbers from below a down to d
abbrev pub slots_from : List Fact → Id → Id → List ℕ
slots_from S a d = slots_below S a (chain S d)

pub slots_here : (S : List Fact) → AllByRecursion NamesEarlier S → (a : Id) → slots_from S a a ≡ []
slots_here S nested a = ap (slots_below S a) (chain_is S nested a) ∙ rw (same_self a) refl

other : (a d : Id) → a.num < d.num → same_id d a ≡ false
other a d e = grind (arith, nat_tests, e)

pub slots_up : (S : List Fact) → AllByRecursion NamesEarlier S → (a d p : Id) → parent_of S d ≡ Some p → a.num < d.num → slots_from S a d ≡ slots_from S a p ++ member_number S p d.num ∷ []
slots_up S nested a d p up less =
    ap (slots_below S a) (chain_up S nested d p up)
    ∙ rw (other a d less) (ap (λ o. slots_from S a p ++ option_map_or (λ q. member_number S q d.num ∷ []) o []) up)

-- below an LRA that is nested in l, the path goes on from the number that this LRA has in l
pub path_down : (S : List Fact) → AllByRecursion NamesEarlier S → (l c : Id) → parent_of S c ≡ Some l → (n : ℕ) (d : Id) → d.num < n → is_under S c d ≡ true → slots_from S l d ≡ member_number S l c.num ∷ slots_from S c d
path_down S nested l c up zero d e under = absurd (omega (arith, e))
path_down S nested l c up (suc n) d e under = by (λ p less above. path_down S nested l c up n p less above) (parent_of S d) refl
  where
    below : l.num < c.num
    below = parent_lesser S c l nested up

    here : c ≡ d → slots_from S l d ≡ member_number S l c.num ∷ slots_from S c d
    here same =
        ap (slots_from S l) (sym same)
        ∙ slots_up S nested l c l up below
        ∙ ap (λ path. path ++ member_number S l c.num ∷ []) (slots_here S nested l)
        ∙ ap (λ path. member_number S l c.num ∷ path) (sym (slots_here S nested c) ∙ ap (slots_from S c) same)

    by : ((p : Id) → p.num < n → is_under S c p ≡ true → slots_from S l p ≡ member_number S l c.num ∷ slots_from S c p) → (o : Option Id) → parent_of S d ≡ o → slots_from S l d ≡ member_number S l c.num ∷ slots_from S c d
    by rest None at = here (under_root S nested c d at under)
    by rest (Some p) at =
        let lesser = parent_lesser S d p nested at in
        elim (or_cases (same_id c d) (is_under S c p) (sym (under_up S nested c d p at) ∙ under)) [ inl same ↦ here (same_is c d same) | inr above ↦ further lesser above ]
      where
        further : p.num < d.num → is_under S c p ≡ true → slots_from S l d ≡ member_number S l c.num ∷ slots_from S c d
        further lesser above =
            let upper = under_number S nested c (suc p.num) p (omega arith) above in
            slots_up S nested l d p at (omega (arith, below, upper, lesser))
            ∙ ap (λ path. path ++ member_number S p d.num ∷ []) (rest p (omega (arith, e, lesser)) above)
            ∙ ap (λ path. member_number S l c.num ∷ path) (sym (slots_up S nested c d p at (omega (arith, upper, lesser))))
