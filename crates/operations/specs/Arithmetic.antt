-- Add and sub, as in the Rust's `add.rs` and `sub.rs`: the sum or difference of src0 and src1 modulo 2 ^ 256, and with set flags overflow, equal where the result is
-- 0, and greater where it is neither.
use Rattle.std.specs.Prelude.{ℕ, Bool, cond, not, ◌&&◌, ◌==◌}
use Rattle.u256.specs.declared.U256.{U256}
use Rattle.u256.specs.U256.{overflowing_sum, overflowing_difference, is_zero}
use Rattle.records.specs.declared.Flags.{Flags}

-- operation 1 is add
abbrev pub result_of : ℕ → U256 → U256 → U256 × Bool
result_of operation a b = cond (operation == 1) (overflowing_sum a b) (overflowing_difference a b)

unfoldable pub flags_after : Bool → Flags → U256 × Bool → Flags
flags_after set old r =
    cond set
    (record {
      overflow_or_less_than_flag = r.1;
      equality_flag = is_zero r.0;
      greater_than_flag = not (is_zero r.0) && not r.1;
    })
    old
