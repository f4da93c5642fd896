-- Operand addresses. Assumes nothing.
use Rattle.std.proofs.Common.{◌≡◌, ℕ, true, ◌||◌, List, arith}
use Rattle.u256.specs.declared.U256.{U256}
use Rattle.records.specs.declared.Record.{Record}
use Rattle.addressing.specs.Address.{is_stack_kind, source_at, destination_at, places_of}

-- the stack page and the time of a write are looked at for a stack kind alone
pub places_same : (w : ℕ) (r : Record) (registers : List U256) (p q code_page sp read write other : ℕ)
    → ((is_stack_kind r.source_kind || is_stack_kind r.destination_kind) ≡ true → p ≡ q)
    → (is_stack_kind r.destination_kind ≡ true → write ≡ other)
    → places_of w r registers p code_page sp read write ≡ places_of w r registers q code_page sp read other
unfolding places_of source_at destination_at
places_same w r registers p q code_page sp read write other h g = grind arith
