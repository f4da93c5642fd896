-- A frame whose row is written out, and two addresses on either side of kernel mode. Assumes nothing.
use Prim.Native.Nat.{ℕ}
use mathlib.Core.Bool.{true, false}
use mathlib.Core.Path.{◌≡◌, refl}
use mathlib.Core.List.{[], ◌∷◌}
use lib.IntN.{negsuc}
use Rattle.signed.specs.Signed.{word_of}
use Rattle.frame.specs.declared.Frame.{Frame}
use Rattle.frame.specs.declared.Address.{Address}
use Rattle.frame.specs.Kernel.{kernel_mode}
use Rattle.frame.specs.Row.{row_of}

abbrev frame_at : Address → Frame
frame_at this = record {
  this_address = this;
  msg_sender = record { a0 = 6; a1 = 7; a2 = 8; a3 = 9; a4 = 10 };
  code_address = record { a0 = 11; a1 = 12; a2 = 13; a3 = 14; a4 = 15 };
  base_memory_page = 16;
  code_page = 17;
  sp = 18;
  pc = 19;
  exception_handler_location = 20;
  ergs_remaining = 21;
  this_shard_id = 22;
  caller_shard_id = 23;
  code_shard_id = 24;
  is_static = true;
  is_local_frame = false;
  -- 27 + 28 * 2 ^ 32 and 29 + 30 * 2 ^ 32
  context_u128_value = record { low = 120259084315; high = 128849018909 };
  heap_bound = 31;
  aux_heap_bound = 32;
  total_pubdata_spent = record { 0 = negsuc 4 };
  stipend = 34;
  opening_cycle = 35;
}

pub row_written_out : row_of (frame_at (record { a0 = 1; a1 = 2; a2 = 3; a3 = 4; a4 = 5 }))
    ≡ 1 ∷ 2 ∷ 3 ∷ 4 ∷ 5 ∷ 6 ∷ 7 ∷ 8 ∷ 9 ∷ 10 ∷ 11 ∷ 12 ∷ 13 ∷ 14 ∷ 15 ∷ 16 ∷ 17 ∷ 18 ∷ 19 ∷ 20 ∷ 21 ∷ 22 ∷ 23 ∷ 24 ∷ 1 ∷ 0 ∷ 27 ∷ 28 ∷ 29 ∷ 30 ∷ 31 ∷ 32 ∷ 4294967291 ∷ 34 ∷ 35 ∷ []
unfolding word_of
row_written_out = refl

-- the address's last four bytes are 0, 0, 255, 255, and then 0, 1, 255, 255
abbrev ending : ℕ → Address
ending w = record { a0 = 0; a1 = 0; a2 = 0; a3 = 0; a4 = w }

pub kernel_sides : (kernel_mode (frame_at (ending 65535)) ≡ true) × (kernel_mode (frame_at (ending 131071)) ≡ false)
unfolding kernel_mode
kernel_sides = (refl, refl)
