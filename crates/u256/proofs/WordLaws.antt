-- Laws of words, with the width as a parameter. Assumes nothing.
use Rattle.std.proofs.Common.{◌≡◌, ℕ, ◌^◌, ◌<◌, ◌≤◌, arith, pow_pos}
use native.Mathlib.Nat.{mod-add-mod}
use Rattle.u256.specs.Word.{low, wrapping_sum, wrapping_difference}

-- what is kept of a number, and so each wrapping sum and difference, is below 2 ^ w
pub low_below : (w n : ℕ) → low w n < 2 ^ w
low_below w n = grind (arith, pow_pos w)

pub low_small : (w : ℕ) {n : ℕ} → n < 2 ^ w → low w n ≡ n
low_small w h = grind arith

-- "the low 16 bits of the register plus the immediate": only the low bits of a summand count
pub sum_of_low : (w a b : ℕ) → wrapping_sum w (low w a) b ≡ wrapping_sum w a b
sum_of_low w a b = mod-add-mod a (2 ^ w) b

pub sum_zero : (w : ℕ) {a : ℕ} → a < 2 ^ w → wrapping_sum w a 0 ≡ a
sum_zero w {a} h = grind arith

pub difference_zero : (w : ℕ) {a : ℕ} → a < 2 ^ w → wrapping_difference w a 0 ≡ a
difference_zero w {a} h = grind arith

-- a difference is undone by the sum
pub sum_of_difference : (w : ℕ) {a b : ℕ} → a < 2 ^ w → b ≤ 2 ^ w → wrapping_sum w (wrapping_difference w a b) b ≡ a
sum_of_difference w {a} {b} h k = grind arith

-- a sum is undone by the difference
pub difference_of_sum : (w : ℕ) {a b : ℕ} → a < 2 ^ w → b ≤ 2 ^ w → wrapping_difference w (wrapping_sum w a b) b ≡ a
difference_of_sum w {a} {b} h k = grind arith
