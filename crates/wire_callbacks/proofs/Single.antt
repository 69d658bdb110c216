-- no two duties come before each other
use Rattle.std.proofs.Common.{◌≡◌, inl, inr, ◌&&◌, ◌||◌, ◌==◌, ℕ, List, refl, arith, Bool, true, false, cond, nat_lt, subst}
use Rattle.std.proofs.lemmas.Bool.Decides.{nat_tests}
use Rattle.state_facts.specs.declared.fact.Fact.{Fact}
use Rattle.state_forest.specs.declared.duties.Due.{Due}
use Rattle.state_forest.specs.Dues.{AreAll, is_before, is_topmost_before, topmost_number}
use Rattle.state_forest.proofs.Bools.{and_left, and_right, or_cases}
use Rattle.state_forest.proofs.ListsByRecord.{one_list}
use Rattle.wire_callbacks.specs.declared.duty.Duty.{Duty}
use Rattle.wire_callbacks.specs.CallDuties.{IsDuty, comes_first, due_of, is_before_at, stage}

not_lesser : (x y : ℕ) → nat_lt x y ≡ true → nat_lt y x ≡ false
not_lesser x y e = grind (arith, nat_tests, e)

not_same : (x y : ℕ) → nat_lt x y ≡ true → (y == x) ≡ false
not_same x y e = grind (arith, nat_tests, e)

same_not_lesser : (x y : ℕ) → (x == y) ≡ true → nat_lt y x ≡ false
same_not_lesser x y e = grind (arith, nat_tests, e)

-- first by a number, then by what comes after it
two_steps : (x y : ℕ) (rest back : Bool) → (nat_lt x y || ((x == y) && rest)) ≡ true → ((x == y) ≡ true → rest ≡ true → back ≡ false) → (nat_lt y x || ((y == x) && back)) ≡ false
two_steps x y rest back e after = elim (or_cases (nat_lt x y) ((x == y) && rest) e) [
  | inl less ↦ lesser less
  | inr same ↦ equal (and_left (x == y) rest same) (and_right (x == y) rest same)
]
  where
    lesser : nat_lt x y ≡ true → (nat_lt y x || ((y == x) && back)) ≡ false
    lesser less = let a = not_lesser x y less in let b = not_same x y less in rw (a, b) refl

    none : (b : Bool) → (b && false) ≡ false
    none true = refl
    none false = refl

    equal : (x == y) ≡ true → rest ≡ true → (nat_lt y x || ((y == x) && back)) ≡ false
    equal s r = let a = same_not_lesser x y s in let b = after s r in rw (a, b) (none (y == x))

due_one_way : (a b : Due) → is_before a b ≡ true → is_before b a ≡ false
due_one_way a b e = two_steps a.lra.num b.lra.num (nat_lt a.member b.member) (nat_lt b.member a.member) e (λ s r. not_lesser a.member b.member r)

at_one_way : (S : List Fact) (n : ℕ) (a b : Due) → is_before_at S n a b ≡ true → is_before_at S n b a ≡ false
at_one_way S n a b e = by (n == 1) e
  where
    by : (t : Bool) → cond t (is_topmost_before S a b) (is_before a b) ≡ true → cond t (is_topmost_before S b a) (is_before b a) ≡ false
    by true f = not_lesser (topmost_number S a.lra) (topmost_number S b.lra) f
    by false f = due_one_way a b f

same_stages : (x y : ℕ) → (x == y) ≡ true → x ≡ y
same_stages x y e = grind (arith, nat_tests, e)

pub one_way : (S : List Fact) (a b : Duty) → comes_first S a b ≡ true → comes_first S b a ≡ false
one_way S a b e =
    two_steps (stage a.kind a.act) (stage b.kind b.act) (is_before_at S (stage a.kind a.act) (due_of a) (due_of b)) (is_before_at S (stage b.kind b.act) (due_of b) (due_of a)) e
    (λ s r. at_one_way S (stage b.kind b.act) (due_of a) (due_of b) (subst (λ (n : ℕ). is_before_at S n (due_of a) (due_of b) ≡ true) (same_stages (stage a.kind a.act) (stage b.kind b.act) s) r))

pub one_list_of_duties : (home : ℕ) (S : List Fact) (xs ys : List Duty) → AreAll (IsDuty home S) (comes_first S) xs → AreAll (IsDuty home S) (comes_first S) ys → xs ≡ ys
one_list_of_duties home S xs ys h k = one_list (IsDuty home S) (comes_first S) xs ys (one_way S) h k
