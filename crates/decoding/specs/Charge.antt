-- Price and error flags. Document 01: "Price is 0 when ended. Price above ergs: ergs become 0 and NOT_ENOUGH_ERGS is set. Flags also for explicit panic, kernel
-- only, static, depth equal to limit." The ergs that are left, the charge and the record that is kept are in stages/specs/Decode.antt.
use Rattle.std.specs.Prelude.{ℕ, Bool, cond, not, ◌&&◌, ◌||◌, ◌==◌, nat_lt}
use Rattle.frame.specs.declared.Frame.{Frame}
use Rattle.frame.specs.Kernel.{kernel_mode}
use Rattle.records.specs.declared.Record.{Record}
use Rattle.decoding.specs.declared.ErrorFlags.{ErrorFlags}

abbrev pub price_of : Bool → ℕ → ℕ
price_of ended price = cond ended 0 price

-- what decode finds in the plain record, in the current frame f
unfoldable pub error_flags : Frame → ℕ → ℕ → Record → ErrorFlags
error_flags f depth limit plain = record {
  invalid_opcode = plain.explicit_panic;
  not_enough_ergs = nat_lt f.ergs_remaining (price_of (depth == 0) plain.price);
  privilaged_access_not_from_kernel = plain.kernel_only && not (kernel_mode f);
  write_in_static_context = not plain.allowed_when_static && f.is_static;
  callstack_is_full = (depth == limit);
}

abbrev pub any_error : ErrorFlags → Bool
any_error e =
    e.invalid_opcode
    || e.not_enough_ergs
    || e.privilaged_access_not_from_kernel
    || e.write_in_static_context
    || e.callstack_is_full
