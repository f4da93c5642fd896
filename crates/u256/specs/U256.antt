-- 256-bit values. Document 01: "U256 becomes four 64-bit words". A sum or difference is that of the numbers, modulo 2 ^ 256.
use Rattle.std.specs.Prelude.{ℕ, ◌+◌, ◌*◌, ◌/◌, ◌%◌, ◌^◌, Bool, ◌==◌}
use Rattle.u256.specs.declared.U256.{U256}
use Rattle.u256.specs.Word.{low, wrapping_sum, wrapping_difference, sum_overflows, difference_overflows}

-- the number that four words hold, the lowest word first
abbrev pub value_of : U256 → ℕ
value_of a = a.w0 + 2 ^ 64 * (a.w1 + 2 ^ 64 * (a.w2 + 2 ^ 64 * a.w3))

-- the four words of a number below 2 ^ 256
abbrev pub words_of : ℕ → U256
words_of n = record {
  w0 = n % 2 ^ 64;
  w1 = n / 2 ^ 64 % 2 ^ 64;
  w2 = n / 2 ^ 128 % 2 ^ 64;
  w3 = n / 2 ^ 192 % 2 ^ 64;
}

-- the value of a number below 2 ^ 64
abbrev pub one_word : ℕ → U256
one_word n = record { w0 = n; w1 = 0; w2 = 0; w3 = 0 }

-- 0, document 01's "empty value"
abbrev pub empty_word : U256
empty_word = one_word 0

-- (a + b) modulo 2 ^ 256, and whether the sum reaches 2 ^ 256
unfoldable pub overflowing_sum : U256 → U256 → U256 × Bool
overflowing_sum a b = (words_of (wrapping_sum 256 (value_of a) (value_of b)), sum_overflows 256 (value_of a) (value_of b))

-- (a - b) modulo 2 ^ 256, and whether the difference is below 0
unfoldable pub overflowing_difference : U256 → U256 → U256 × Bool
overflowing_difference a b = (words_of (wrapping_difference 256 (value_of a) (value_of b)), difference_overflows (value_of a) (value_of b))

-- the number is 0
unfoldable pub is_zero : U256 → Bool
is_zero a = value_of a == 0

-- the lowest w bits of the number
unfoldable pub low_of : ℕ → U256 → ℕ
low_of w a = low w (value_of a)
