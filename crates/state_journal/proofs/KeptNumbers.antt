-- Numbers as the store keeps them, and their order.
use Rattle.std.proofs.Common.{◌≡◌, ℕ, ◌<◌, ◌≤◌, pos, true, List, [], ◌∷◌, Some, nat_le, refl, sym, ◌∙◌, arith, int_cmp, Ordering, Less, Equal, Greater}
use Rattle.std.specs.Ordering.{ordering_then}
use Rattle.std.proofs.lemmas.Bool.Decides.{nat_tests}
use Rattle.std.proofs.lemmas.Cmp.{tied_itself}
use Rattle.sqlite.specs.declared.types.Value.TheVariants.{Int}
use Rattle.sqlite.specs.Order.{Row, column, value_cmp}
use Rattle.sqlite.specs.Query.{key_cmp}
use Rattle.sqlite_value.proofs.OrderLemmas.{value_cmp-Int, value_cmp_total}
use Rattle.sqlite_value.specs.declared.keys.Collation.TheVariants.{Binary}
use Rattle.sqlite_value.specs.declared.keys.Key.{Key}
use Rattle.sqlite_value.specs.Keys.{ascending}
use Rattle.state_ids.specs.Ids.{last_number}
use Rattle.state_journal.specs.FrontRows.{number_in}

-- the number that is read back is the one that was kept
pub number_back : (n : ℕ) → n ≤ last_number → number_in (Int (pos n)) ≡ Some n
number_back n low = let small : nat_le n last_number ≡ true = grind (arith, nat_tests, low) in rw small refl

-- the lower value is the lesser number
pub int_below : (m n : ℕ) → value_cmp (Int (pos m)) (Int (pos n)) ≡ Less → m < n
int_below m n e = let below : int_cmp (pos m) (pos n) ≡ Less = sym (value_cmp-Int (pos m) (pos n)) ∙ e in grind (arith, nat_tests, below)

pub then_less : (o : Ordering) → ordering_then o Equal ≡ Less → o ≡ Less
then_less Less e = refl
then_less Equal e = e
then_less Greater e = e

-- the order by one number
abbrev pub by_one : List Key
by_one = ascending Binary ∷ []

-- the order by two numbers, one after the other
abbrev pub by_two : List Key
by_two = ascending Binary ∷ ascending Binary ∷ []

-- of two rows with the same first number, the lower one has the lesser second number
pub second_below : (x y : Row) (h m n : ℕ) → column x 0 ≡ Int (pos h) → column y 0 ≡ Int (pos h) → column x 1 ≡ Int (pos m) → column y 1 ≡ Int (pos n) → key_cmp 0 by_two x y ≡ Less → m < n
second_below x y h m n a b c d less =
    let shown : ordering_then (value_cmp (Int (pos h)) (Int (pos h))) (ordering_then (value_cmp (Int (pos m)) (Int (pos n))) Equal) ≡ Less = rw (a, b, c, d) at less in
    let tied = tied_itself value_cmp_total (Int (pos h)) in
    int_below m n (then_less _ (rw tied at shown))
