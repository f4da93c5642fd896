-- A frame with its ergs, sp and pc changed, and with one of them.
use Rattle.std.specs.Prelude.{ℕ}
use Rattle.frame.specs.declared.Frame.{Frame}

abbrev pub frame_with : Frame → ℕ → ℕ → ℕ → Frame
frame_with f ergs sp pc = record {
  ergs_remaining = ergs;
  sp = sp;
  pc = pc;
  -- the rest as it was
  context_u128_value = f.context_u128_value;
  this_address = f.this_address;
  msg_sender = f.msg_sender;
  code_address = f.code_address;
  base_memory_page = f.base_memory_page;
  code_page = f.code_page;
  exception_handler_location = f.exception_handler_location;
  this_shard_id = f.this_shard_id;
  caller_shard_id = f.caller_shard_id;
  code_shard_id = f.code_shard_id;
  is_static = f.is_static;
  is_local_frame = f.is_local_frame;
  heap_bound = f.heap_bound;
  aux_heap_bound = f.aux_heap_bound;
  total_pubdata_spent = f.total_pubdata_spent;
  stipend = f.stipend;
  opening_cycle = f.opening_cycle;
}

unfoldable pub with_ergs : Frame → ℕ → Frame
with_ergs f ergs = frame_with f ergs f.sp f.pc

unfoldable pub with_sp : Frame → ℕ → Frame
with_sp f sp = frame_with f f.ergs_remaining sp f.pc

unfoldable pub with_pc : Frame → ℕ → Frame
with_pc f pc = frame_with f f.ergs_remaining f.sp pc
