-- What a near call passes, and where its caller is saved. Assumes nothing.
use Rattle.std.proofs.Common.{◌≡◌, ℕ, ◌/◌, ◌<◌, ◌≤◌, false, ◌||◌, eqb, ltb, arith}
use Rattle.frame.specs.Row.{row_width}
use Rattle.operations.specs.NearCall.{passed_ergs}

-- a near call passes no more than is held
pub passed_le : (wanted held : ℕ) → passed_ergs wanted held ≤ held
passed_le wanted held = grind arith

-- below the limit a row is free, and the depth has room
pub room : (limit depth words : ℕ) → (eqb limit 0 || ltb (words / row_width) limit || ltb limit depth) ≡ false → (depth ≡ limit → ⊥)
    → (depth < words / row_width) × (depth < limit)
room limit depth words e n = grind arith
