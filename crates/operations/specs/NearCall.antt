-- How a near call divides the ergs. Document 01: "Near call wants the low 32 bits of src0 times the multiplier, 4,294,967,295 if too large; 0, or more than held,
-- passes all." These low bits are taken in stages/specs/Execute.antt.
use Rattle.std.specs.Prelude.{ℕ, ◌*◌, min, true, cond, ◌||◌, pos, ◌==◌, nat_lt}
use Rattle.frame.specs.declared.Frame.{Frame}
use Rattle.frame.specs.Fields.{frame_with}

abbrev pub wanted_ergs : ℕ → ℕ → ℕ
wanted_ergs want multiplier = min (want * multiplier) 4294967295

abbrev pub passed_ergs : ℕ → ℕ → ℕ
passed_ergs wanted held = cond (wanted == 0 || nat_lt held wanted) held wanted

-- the caller, with what it keeps and where it goes on
unfoldable pub caller_of : Frame → ℕ → ℕ → Frame
caller_of f ergs pc = frame_with f ergs f.sp pc

-- the opened frame: a copy of its caller but for pc, handler, ergs, local, pubdata and the cycle of opening, which is the one given
unfoldable pub opened_of : Frame → ℕ → ℕ → ℕ → ℕ → Frame
opened_of f ergs pc handler cycle = record {
  ergs_remaining = ergs;
  pc = pc;
  exception_handler_location = handler;
  is_local_frame = true;
  total_pubdata_spent = record { 0 = pos 0 };
  opening_cycle = cycle;
  -- the rest as it was
  context_u128_value = f.context_u128_value;
  this_address = f.this_address;
  msg_sender = f.msg_sender;
  code_address = f.code_address;
  base_memory_page = f.base_memory_page;
  code_page = f.code_page;
  sp = f.sp;
  this_shard_id = f.this_shard_id;
  caller_shard_id = f.caller_shard_id;
  code_shard_id = f.code_shard_id;
  is_static = f.is_static;
  heap_bound = f.heap_bound;
  aux_heap_bound = f.aux_heap_bound;
  stipend = f.stipend;
}
