-- pc and time after a cycle. Document 01: "Next pc is pc plus 1 modulo 65,536, unless ended"; refusal 14, "time after the cycle, cycle counter; above 32 bits". The
-- time stays when execution has ended. The time of a write is in addressing/specs/Address.antt.
use Rattle.std.specs.Prelude.{ℕ, ◌+◌, ◌^◌, Bool, cond, not, ◌&&◌, ◌||◌, nat_le}
use Rattle.u256.specs.Word.{wrapping_sum}

abbrev pub next_pc : ℕ → ℕ → Bool → ℕ
next_pc w pc ended = cond ended pc (wrapping_sum w pc 1)

abbrev pub time_after : ℕ → ℕ → Bool → ℕ
time_after time step ended = cond ended time (time + step)

abbrev pub is_late : ℕ → ℕ → ℕ → Bool → Bool
is_late time step counter ended = not ended && nat_le (2 ^ 32) (time + step) || nat_le (2 ^ 32) (counter + 1)
