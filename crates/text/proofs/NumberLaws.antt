-- Numbers read and written as text. Assumes nothing.
use Prim.Native.Nat.{ℕ, zero, suc, ◌+◌, ◌*◌, ◌-◌, ◌/◌, ◌%◌, ◌^◌, ◌≤◌, ◌<◌}
use mathlib.Core.Bool.{Bool, true, false, cond, ◌&&◌}
use mathlib.Core.Path.{◌≡◌, refl, ◌∙◌}
use mathlib.Core.List.{List, [], ◌∷◌, ◌++◌}
use native.Mathlib.Nat.{mod-eq_of_lt}
use native.Mathlib.Numerals.{add-one}
use native.Mathlib.Omega.{arith}
use lib.Dec.{ltb}
use lib.ListN.{length, drop, get_or, length-append, drop_of_length-le}
use lib.Seq.{drop-cons}
use borrow.Author.Tests.{lt-ltb, le-ltb}
use Rattle.std.specs.Prelude.{Option, Some, None, Result, Ok, Err}
use Rattle.std.specs.Option.{option_and_then}
use Rattle.std.specs.Result.{OkIff, result_ok}
use Rattle.std.specs.Fmt.{decimal}
use Rattle.std.proofs.Common.{rules}
use Rattle.std.proofs.lemmas.Bool.Decides.{nat_tests}
use Rattle.std.proofs.lemmas.Option.{none-some}
use Rattle.std.proofs.lemmas.Str.Parse.{IsNumeralModel, numerals_by_fold}
use Rattle.std.proofs.lemmas.Fmt.{AppendsLastDigit, decimal_from_appends, length-decimal-le, decimal_nonempty, digits_value-decimal, digits_decimal}
use Rattle.text.specs.Number.{is_digit, all_digits, is_some, decimal_after, number_in, digits_in, digits_of}

-- digits that come after make a number no less
decimal_le : (n : ℕ) (bs : List ℕ) → n ≤ decimal_after n bs
decimal_le n [] = omega arith
decimal_le n (b ∷ bs) = omega (arith, decimal_le (n * 10 + (b - 48)) bs)

module _ (w : ℕ) where
  -- what is read of a number whose digits so far say n, and whose other bytes are these
  abbrev pub reading : ℕ → List ℕ → Option ℕ
  reading n bs = cond (all_digits bs && ltb (decimal_after n bs) (2 ^ w)) (Some (decimal_after n bs)) None

  pub reading_first : (field : List ℕ) → (length field ≡ 0 → ⊥) → number_in w field ≡ reading 0 field
  unfolding number_in
  reading_first [] h = absurd (h refl)
  reading_first (b ∷ bs) h = refl

  -- no byte is no number
  pub reading_none : (field : List ℕ) → length field ≡ 0 → None ≡ number_in w field
  unfolding number_in
  reading_none [] h = refl
  reading_none (b ∷ bs) h = absurd (omega arith)

  -- nor is a number of more than w bits
  reading_large : (n : ℕ) (bs : List ℕ) → 2 ^ w ≤ n → reading n bs ≡ None
  reading_large n bs h = go (all_digits bs) (le-ltb (decimal_after n bs) (2 ^ w) (omega (arith, decimal_le n bs)))
    where
      go : (t : Bool) → ltb (decimal_after n bs) (2 ^ w) ≡ false → cond (t && ltb (decimal_after n bs) (2 ^ w)) (Some (decimal_after n bs)) None ≡ None
      go true q = rw q
      go false q = refl

  pub reading_done : (n : ℕ) (field : List ℕ) (i : ℕ) → n < 2 ^ w → length field ≤ i → reading n (drop i field) ≡ Some n
  reading_done n field i l h = rw (drop_of_length-le field h, lt-ltb n (2 ^ w) l)

  module _ (n : ℕ) (field : List ℕ) (i : ℕ) (h : i < length field) where
    module _ (e : is_digit (get_or field i 0) ≡ true) where
      reading_next : reading n (drop i field) ≡ reading (n * 10 + (get_or field i 0 - 48)) (drop (i + 1) field)
      reading_next = rw (drop-cons field i 0 h, e, add-one)

      pub reading_past : 2 ^ w ≤ n * 10 + (get_or field i 0 - 48) → reading n (drop i field) ≡ None
      reading_past l = reading_next ∙ reading_large (n * 10 + (get_or field i 0 - 48)) (drop (i + 1) field) l

-- a number, where w bits hold it
abbrev pub fitting : ℕ → ℕ → Option ℕ
fitting w n = cond (ltb n (2 ^ w)) (Some n) None

-- a conversion to w bits gives it
pub converted : (w n : ℕ) {E : Type 0} (r : Result ℕ E) → OkIff r (n < 2 ^ w) n → {o : Option ℕ} → o ≡ result_ok r → {found : Option ℕ} → o ≡ found → fitting w n ≡ found
converted w n (Ok x) h e f = grind (arith, nat_tests)
converted w n (Err x) h e f = grind (arith, nat_tests)

-- a number of v bits is one of w bits, no fewer, that v bits hold
pub number_fitted : (v w : ℕ) → 2 ^ v ≤ 2 ^ w → (field : List ℕ) → number_in v field ≡ option_and_then (fitting v) (number_in w field)
unfolding number_in
number_fitted v w h field = grind (arith, nat_tests)

-- digits_in k, for a number of k + 1 digits
digits_up_to : ℕ → ℕ → List ℕ
digits_up_to zero n = []
digits_up_to (suc k) n = digits_in k n

appends_last : AppendsLastDigit digits_up_to
unfolding digits_up_to
appends_last = record { one = one; more = more }
  where
    one : (k n : ℕ) → n < 10 → digits_in k n ≡ (48 + n) ∷ []
    one zero n h = rw (mod-eq_of_lt h)
    one (suc k) n h = rw (lt-ltb n 10 h)

    more : (k n : ℕ) → 10 ≤ n → digits_in k n ≡ digits_up_to k (n / 10) ++ ((48 + n % 10) ∷ [])
    more zero n h = refl
    more (suc k) n h = rw (le-ltb n 10 h)

-- the library writes the same digits
pub digits_as_decimal : (n : ℕ) → n < 2 ^ 64 → digits_of n ≡ decimal n
unfolding digits_up_to
digits_as_decimal n h = decimal_from_appends digits_up_to appends_last 20 n h (length-decimal-le 20 n (omega arith) (omega arith) h)

-- at most k + 1 digits
pub digits_length : (k n : ℕ) → length (digits_in k n) ≤ k + 1
digits_length zero n = omega arith
digits_length (suc k) n = go (ltb n 10) (digits_in k (n / 10)) (digits_length k (n / 10))
  where
    go : (t : Bool) (ds : List ℕ) → length ds ≤ k + 1 → length (cond t ((48 + n) ∷ []) (ds ++ ((48 + n % 10) ∷ []))) ≤ suc k + 1
    go true ds h = omega arith
    go false ds h = simp length-append (omega arith)

-- the library's digits and their value are those of a field
numerals : IsNumeralModel (λ ds. all_digits ds ≡ true) (decimal_after 0)
numerals = numerals_by_fold _ (search rules) decimal_after (search rules)

some : (bs : List ℕ) → 0 < length bs → is_some bs ≡ true
some [] h = absurd (omega arith)
some (b ∷ bs) h = refl

-- a number that was written is read
pub reads_back : (w n : ℕ) → n < 2 ^ w → n < 2 ^ 64 → number_in w (digits_of n) ≡ Some n
unfolding number_in
reads_back w n h small =
    rw (
      digits_as_decimal n small,
      some (decimal n) (decimal_nonempty n small),
      digits_decimal numerals n small,
      digits_value-decimal numerals n small,
      lt-ltb n (2 ^ w) h,
    )

-- a number has a byte at least
pub number_some : (w : ℕ) (field : List ℕ) (n : ℕ) → number_in w field ≡ Some n → 1 ≤ length field
unfolding number_in
number_some w [] n e = absurd (none-some n e)
number_some w (b ∷ bs) n e = omega arith
