-- Signed numbers of w bits. Document 01: "`total_pubdata_spent` is signed and may be negative; its word is two's complement", and refusals 10 and 11,
-- "outside 32 signed bits".
use Rattle.std.specs.Prelude.{ℕ, suc, ◌-◌, ◌/◌, ◌^◌, Bool, cond, ltb, ℤ, pos, negsuc, ◌+ℤ◌, ◌-ℤ◌, Option, Some, None}

-- from - 2 ^ w / 2 to 2 ^ w / 2 - 1; `negsuc n` is - (n + 1)
abbrev pub fits_signed : ℕ → ℤ → Bool
fits_signed w (pos n) = ltb n (2 ^ w / 2)
fits_signed w (negsuc n) = ltb n (2 ^ w / 2)

-- the answer for a number: itself within 32 signed bits, `None` outside
unfoldable pub checked_of : ℤ → Option ℤ
checked_of z = cond (fits_signed 32 z) (Some z) None

abbrev pub checked_sum : ℤ → ℤ → Option ℤ
checked_sum a b = checked_of (a +ℤ b)

abbrev pub checked_difference : ℤ → ℤ → Option ℤ
checked_difference a b = checked_of (a -ℤ b)

-- the two's complement word of w bits: of z below 0, 2 ^ w + z
unfoldable pub word_of : ℕ → ℤ → ℕ
word_of w (pos n) = n
word_of w (negsuc n) = 2 ^ w - suc n

-- the number of such a word: n in the lower half, n - 2 ^ w in the upper
unfoldable pub signed_of : ℕ → ℕ → ℤ
signed_of w n = cond (ltb n (2 ^ w / 2)) (pos n) (negsuc (2 ^ w - 1 - n))
