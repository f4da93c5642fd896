-- Unsigned words of any width w: what a sum and a difference keep of w bits, and when they pass them.
use Rattle.std.specs.Prelude.{ℕ, ◌+◌, ◌-◌, ◌%◌, ◌^◌, Bool, nat_le, nat_lt}

-- the lowest w bits of a number
abbrev pub low : ℕ → ℕ → ℕ
low w n = n % 2 ^ w

-- (a + b) modulo 2 ^ w: at w = 16, document 01's "modulo 65,536"
abbrev pub wrapping_sum : ℕ → ℕ → ℕ → ℕ
wrapping_sum w a b = (a + b) % 2 ^ w

-- (a - b) modulo 2 ^ w, for b at most 2 ^ w
abbrev pub wrapping_difference : ℕ → ℕ → ℕ → ℕ
wrapping_difference w a b = (a + 2 ^ w - b) % 2 ^ w

-- the sum reaches 2 ^ w
abbrev pub sum_overflows : ℕ → ℕ → ℕ → Bool
sum_overflows w a b = nat_le (2 ^ w) (a + b)

-- the difference is below 0
abbrev pub difference_overflows : ℕ → ℕ → Bool
difference_overflows a b = nat_lt a b
