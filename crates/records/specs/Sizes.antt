-- Refusal 1. Document 01: "limit 0 or above the store's whole rows, or depth above limit".
use Rattle.std.specs.Prelude.{ℕ, ◌/◌, Bool, ◌||◌, ◌==◌, nat_lt}
use Rattle.frame.specs.Row.{row_width}

-- for a store of so many words
abbrev pub bad_sizes : ℕ → ℕ → ℕ → Bool
bad_sizes limit depth words = limit == 0 || nat_lt (words / row_width) limit || nat_lt limit depth
