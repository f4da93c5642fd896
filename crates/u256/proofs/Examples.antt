-- Sums and differences of document 01's edges. Assumes nothing.
use Rattle.std.proofs.Common.{◌≡◌, true, false, refl}
use Rattle.u256.specs.declared.U256.{U256}
use Rattle.u256.specs.U256.{one_word, overflowing_sum, overflowing_difference}

-- 2 ^ 256 - 1
abbrev ones : U256
ones = record {
  w0 = 18446744073709551615;
  w1 = 18446744073709551615;
  w2 = 18446744073709551615;
  w3 = 18446744073709551615;
}

pub ones_plus_1 : overflowing_sum ones (one_word 1) ≡ (one_word 0, true)
unfolding overflowing_sum
ones_plus_1 = refl

pub zero_minus_1 : overflowing_difference (one_word 0) (one_word 1) ≡ (ones, true)
unfolding overflowing_difference
zero_minus_1 = refl

pub five_minus_5 : overflowing_difference (one_word 5) (one_word 5) ≡ (one_word 0, false)
unfolding overflowing_difference
five_minus_5 = refl
