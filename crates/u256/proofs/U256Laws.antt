-- Laws of 256-bit values: the numbers that four words hold. Assumes nothing.
use Rattle.std.proofs.Common.{◌≡◌, ℕ, ◌%◌, ◌^◌, ◌<◌, arith}
use Rattle.u256.specs.declared.U256.{U256}
use Rattle.u256.specs.U256.{value_of, words_of}

-- the ranges of the words
pub record Words (a : U256) : Type 0 where
  pub w0_fits : a.w0 < 2 ^ 64
  pub w1_fits : a.w1 < 2 ^ 64
  pub w2_fits : a.w2 < 2 ^ 64
  pub w3_fits : a.w3 < 2 ^ 64

-- the words of a value's number are the value's own
pub words_of_value : (a : U256) → Words a → words_of (value_of a) ≡ a
words_of_value a h = grind arith

-- a number's words hold its lowest 256 bits
pub value_of_words : (n : ℕ) → value_of (words_of n) ≡ n % 2 ^ 256
value_of_words n = grind arith
