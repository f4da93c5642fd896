-- What is known where decode sets no flag. Assumes nothing.
use Rattle.std.proofs.Common.{arith, ◌≡◌, ℕ, ◌≤◌, false, eqb}
use Rattle.frame.specs.declared.Frame.{Frame}
use Rattle.records.specs.declared.Record.{Record}
use Rattle.decoding.specs.Charge.{price_of, error_flags, any_error}

-- where no flag is set the price is covered
pub covered : (f : Frame) (depth limit : ℕ) (plain : Record) → any_error (error_flags f depth limit plain) ≡ false
    → price_of (eqb depth 0) plain.price ≤ f.ergs_remaining
unfolding error_flags
covered f depth limit plain e = grind arith
