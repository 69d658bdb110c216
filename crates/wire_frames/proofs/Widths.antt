-- numbers in a given number of bytes
use Rattle.std.proofs.Common.{◌≡◌, ◌%◌, ◌/◌, ◌^◌, ℕ, refl, arith}
use Rattle.std.specs.Int.{w16, w32, to_be_bytes}

pub in_two_bytes : (n : ℕ) → to_be_bytes w16 (n % 65536) ≡ to_be_bytes w16 n
in_two_bytes n =
    let a : n % 65536 / 256 % 256 ≡ n / 256 % 256 = omega arith in
    let b : n % 65536 % 256 ≡ n % 256 = omega arith in
    rw (a, b) refl

pub two_of_eight : (n : ℕ) → to_be_bytes w16 (n % 2 ^ 64) ≡ to_be_bytes w16 n
two_of_eight n =
    let a : n % 2 ^ 64 / 256 % 256 ≡ n / 256 % 256 = omega arith in
    let b : n % 2 ^ 64 % 256 ≡ n % 256 = omega arith in
    rw (a, b) refl

pub in_four_bytes : (n : ℕ) → to_be_bytes w32 (n % 4294967296) ≡ to_be_bytes w32 n
in_four_bytes n =
    let a : n % 4294967296 / 16777216 % 256 ≡ n / 16777216 % 256 = omega arith in
    let b : n % 4294967296 / 65536 % 256 ≡ n / 65536 % 256 = omega arith in
    let c : n % 4294967296 / 256 % 256 ≡ n / 256 % 256 = omega arith in
    let d : n % 4294967296 % 256 ≡ n % 256 = omega arith in
    rw (a, b, c, d) refl

pub four_of_eight : (n : ℕ) → to_be_bytes w32 (n % 2 ^ 64) ≡ to_be_bytes w32 n
four_of_eight n =
    let a : n % 2 ^ 64 / 16777216 % 256 ≡ n / 16777216 % 256 = omega arith in
    let b : n % 2 ^ 64 / 65536 % 256 ≡ n / 65536 % 256 = omega arith in
    let c : n % 2 ^ 64 / 256 % 256 ≡ n / 256 % 256 = omega arith in
    let d : n % 2 ^ 64 % 256 ≡ n % 256 = omega arith in
    rw (a, b, c, d) refl
