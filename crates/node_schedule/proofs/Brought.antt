-- a slip that is brought to a place
use Rattle.std.proofs.Common.{◌≡◌, ◌≤◌, ◌<◌, ◌+◌, ◌++◌, ◌∷◌, [], ◌⊎◌, ◌∙◌, inl, inr, ℕ, Bool, true, List, ap, arith, cond, get_or, length, length-append, refl, subst, sym, take}
use Rattle.std.proofs.Math.ListN.{set}
use Rattle.std.proofs.lemmas.List.{take-append-le, take-set-le}
use Rattle.std.proofs.lemmas.List.Edits.{length-swap, swap_is, swapped_from_swap}
use Rattle.std.proofs.lemmas.List.Elements.{All-set}
use Rattle.std.proofs.lemmas.List.Sorted.{IsPermutation-swap, sum_by-IsPermutation}
use Rattle.std.proofs.lemmas.List.Sums.{sum_by_push}
use Rattle.std.specs.List.{All, count_by, swap}
use Rattle.node_schedule.specs.Listing.{IsBrought, IsPlacedAt}
use Rattle.node_schedule.specs.Once.{slips_of}
use Rattle.node_schedule.specs.Pausing.{nobody, slip_at}
use Rattle.node_schedule.specs.Slips.{fresh}
use Rattle.node_schedule.specs.declared.slip.Called.{Called}
use Rattle.node_schedule.specs.declared.slip.Slip.{Slip}

pub swapped_counts : (test : Slip → Bool) (xs : List Slip) (i j : ℕ) → i < length xs → j < length xs → count_by test (swap xs i j) ≡ count_by test xs
swapped_counts test xs i j a b = sum_by-IsPermutation (λ (slip : Slip). cond (test slip) 1 0) xs (swap xs i j) (IsPermutation-swap xs (swap xs i j) i j a b refl)

swapped_take : (xs : List Slip) (i j : ℕ) → i < length xs → j < length xs → i ≤ j → take i (swap xs i j) ≡ take i xs
swapped_take xs i j a b le =
    ap (take i) (sym (swap_is xs i j nobody a b)) ∙ take-set-le i (set xs i (get_or xs j nobody)) j (get_or xs i nobody) le ∙ take-set-le i xs i (get_or xs j nobody) (omega arith)

swapped_place : (xs : List Slip) (i j : ℕ) → i < length xs → j < length xs → slip_at (swap xs i j) i ≡ slip_at xs j
swapped_place xs i j a b = (swapped_from_swap xs (swap xs i j) i j nobody a b refl).0

pub swapped_all : (P : Slip → Type 0) (xs : List Slip) (i j : ℕ) → i < length xs → j < length xs → All P xs → All P (swap xs i j)
swapped_all P xs i j a b all =
    subst (All P) (swap_is xs i j nobody a b) (All-set P (set xs i (get_or xs j nobody)) j (get_or xs i nobody) (all i nobody a) (All-set P xs i (get_or xs j nobody) (all j nobody b) all))

grown : (old mid : List Slip) (who : Called) (place : ℕ) → (mid ≡ old) ⊎ ((mid ≡ old ++ fresh who ∷ []) × (slips_of who (take place old) ≡ slips_of who old)) → length old ≤ length mid
grown old mid who place (inl same) = omega (arith, ap length same)
grown old mid who place (inr more) = omega (arith, ap length more.0, length-append old (fresh who ∷ []))

same_first : (old mid : List Slip) (who : Called) (place : ℕ) → place ≤ length old → (mid ≡ old) ⊎ ((mid ≡ old ++ fresh who ∷ []) × (slips_of who (take place old) ≡ slips_of who old)) → take place mid ≡ take place old
same_first old mid who place le (inl same) = ap (take place) same
same_first old mid who place le (inr more) = ap (take place) more.0 ∙ take-append-le place old (fresh who ∷ []) le

counted : (old mid : List Slip) (who : Called) (place found : ℕ) → place < length mid → found < length mid → (mid ≡ old) ⊎ ((mid ≡ old ++ fresh who ∷ []) × (slips_of who (take place old) ≡ slips_of who old))
    → ((test : Slip → Bool) → count_by test (swap mid place found) ≡ count_by test old)
    ⊎ (((test : Slip → Bool) → count_by test (swap mid place found) ≡ count_by test old + cond (test (fresh who)) 1 0) × (slips_of who (take place old) ≡ slips_of who old))
counted old mid who place found a b (inl same) = inl (λ test. swapped_counts test mid place found a b ∙ ap (count_by test) same)
counted old mid who place found a b (inr more) =
    inr ((λ test. swapped_counts test mid place found a b ∙ ap (count_by test) more.0 ∙ sum_by_push (λ (slip : Slip). cond (test slip) 1 0) old (fresh who)), more.1)

-- what was placed is swapped to the place
pub brought_at : (place found : ℕ) (who : Called) (old mid : List Slip) → IsPlacedAt place who old mid found → place < length mid → found < length mid → IsBrought place who old (swap mid place found) true
brought_at place found who old mid placed a b = record {
  there = λ t. (omega (arith, length-swap mid place found, a), ap (λ (slip : Slip). slip.who) (swapped_place mid place found a b) ∙ placed.is_its);
  room = omega (arith, length-swap mid place found, grown old mid who place placed.slips);
  first = λ test le. ap (count_by test) (swapped_take mid place found a b (placed.behind le)) ∙ ap (count_by test) (same_first old mid who place le placed.slips);
  all = counted old mid who place found a b placed.slips;
}
