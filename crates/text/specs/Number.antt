-- Numbers as text. By document 01 a line is bad for "a value not plain decimal digits, above 32 bits"; here the width w is a parameter.
use Rattle.std.specs.Prelude.{ℕ, zero, suc, ◌+◌, ◌*◌, ◌-◌, ◌/◌, ◌%◌, ◌^◌, Bool, true, false, cond, ◌&&◌, List, [], ◌∷◌, ◌++◌, Option, Some, None, ltb, leb}

-- bytes 48 to 57 are the digits 0 to 9
abbrev pub is_digit : ℕ → Bool
is_digit b = leb 48 b && leb b 57

abbrev pub all_digits : List ℕ → Bool
all_digits [] = true
all_digits (b ∷ bs) = is_digit b && all_digits bs

-- at least one byte
abbrev pub is_some : List ℕ → Bool
is_some [] = false
is_some (b ∷ bs) = true

-- n with these digits written after it
abbrev pub decimal_after : ℕ → List ℕ → ℕ
decimal_after n [] = n
decimal_after n (b ∷ bs) = decimal_after (n * 10 + (b - 48)) bs

-- plain decimal digits that say a number of w bits; zeros may stand in front
unfoldable pub number_in : ℕ → List ℕ → Option ℕ
number_in w field =
    cond (is_some field && all_digits field && ltb (decimal_after 0 field) (2 ^ w)) (Some (decimal_after 0 field)) None

-- a value of document 01's listing
abbrev pub number_of : List ℕ → Option ℕ
number_of = number_in 32

-- the digits of n, with no zero in front, for n of at most k + 1 digits
abbrev pub digits_in : ℕ → ℕ → List ℕ
digits_in zero n = (48 + n % 10) ∷ []
digits_in (suc k) n = cond (ltb n 10) ((48 + n) ∷ []) (digits_in k (n / 10) ++ ((48 + n % 10) ∷ []))

-- a number of 64 bits has at most 20 digits
abbrev pub digits_of : ℕ → List ℕ
digits_of n = digits_in 19 n
