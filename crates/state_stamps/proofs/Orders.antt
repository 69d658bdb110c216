-- the order of entries
use Rattle.std.proofs.Common.{◌≡◌, ◌≤◌, ℕ, true, false, arith}
use Rattle.std.proofs.lemmas.Bool.Decides.{nat_tests}
use Rattle.state_stamps.specs.declared.stamp_entry.StampEntry.{StampEntry}
use Rattle.state_stamps.specs.Entries.{is_before, same_entry}

pub before_next : (a b c : StampEntry) → is_before a b ≡ true → is_before b c ≡ true → is_before a c ≡ true
before_next a b c e f = grind (arith, nat_tests)

pub not_itself : (a : StampEntry) → is_before a a ≡ false
not_itself a = grind (arith, nat_tests)

pub one_way : (a b : StampEntry) → is_before a b ≡ true → is_before b a ≡ false
one_way a b e = grind (arith, nat_tests)

three : (f : ℕ → ℕ → ℕ → StampEntry) (a b c x y z : ℕ) → a ≡ x → b ≡ y → c ≡ z → f a b c ≡ f x y z
three f a b c x y z e g h = cc

-- two equal entries have the same stamp, home and number
pub same_parts : (a b : StampEntry) → same_entry a b ≡ true → a ≡ b
same_parts a b e =
    let stamp : a.stamp ≡ b.stamp = grind (arith, nat_tests) in
    let home : a.home ≡ b.home = grind (arith, nat_tests) in
    let num : a.num ≡ b.num = grind (arith, nat_tests) in
    three (λ s h n. record { stamp = s; home = h; num = n }) a.stamp a.home a.num b.stamp b.home b.num stamp home num

-- of two entries, one comes before the other, or they are the same
pub neither : (a b : StampEntry) → is_before a b ≡ false → same_entry a b ≡ false → is_before b a ≡ true
neither a b e f = grind (arith, nat_tests)

pub before_not_same : (a b : StampEntry) → is_before a b ≡ true → same_entry a b ≡ false
before_not_same a b e = grind (arith, nat_tests)

-- the stamps of entries in order don't fall
pub stamps_rise : (a b : StampEntry) → is_before a b ≡ true → a.stamp ≤ b.stamp
stamps_rise a b e = grind (arith, nat_tests)
