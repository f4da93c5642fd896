-- Two's complement words, and numbers that fit. Assumes nothing.
use Rattle.std.proofs.Common.{◌≡◌, ℕ, ◌^◌, ◌<◌, true, Some, ℤ, FitsSigned, w32, arith}
use Rattle.std.proofs.lemmas.Grind.{common_steps}
use Rattle.signed.specs.Signed.{fits_signed, checked_of, word_of, signed_of}

-- a number that fits is its own answer
pub fitting : (z : ℤ) → FitsSigned w32 z → Some z ≡ checked_of z
unfolding checked_of
fitting z f = grind (arith, common_steps)

-- a number's word and back, and a word's number and back, at every width
pub signed_of_word : (w : ℕ) (z : ℤ) → fits_signed w z ≡ true → signed_of w (word_of w z) ≡ z
unfolding signed_of word_of
signed_of_word w z e = grind (arith, common_steps)

pub word_of_signed : (w n : ℕ) → n < 2 ^ w → word_of w (signed_of w n) ≡ n
unfolding signed_of word_of
word_of_signed w n h = grind (arith, common_steps)
