-- The sums of a local return. Document 01: "return ok: pubdata sum outside 32 signed bits" (10); "revert counter after it (on ok, as it is) outside 32 signed bits or
-- below 0" (11); "ergs sum above 4,294,967,295" (12); "a heap bound below the caller's" (13); "Return to label wins over the handler." Revert counts as panicked. The ergs are
-- added up in stages/specs/Ret.antt.
use Rattle.std.specs.Prelude.{ℕ, ◌+◌, ◌^◌, Bool, true, false, cond, ◌||◌, ℤ, pos, negsuc, Option, Some, None, ◌==◌, nat_le, nat_lt}
use Rattle.signed.specs.Signed.{checked_sum, checked_difference}
use Rattle.frame.specs.declared.Frame.{Frame}
use Rattle.frame.specs.declared.PubdataCost.{PubdataCost}
use Rattle.records.specs.declared.Record.{Record}

-- the caller's pubdata afterwards, and the revert counter
abbrev pub pubdata_after : Bool → ℤ → ℤ → Option ℤ
pubdata_after ok caller closed = cond ok (checked_sum caller closed) (Some caller)

abbrev pub counter_after : Bool → ℤ → ℤ → Option ℤ
counter_after ok counter closed = cond ok (Some counter) (checked_difference counter closed)

abbrev pub is_outside : Option ℤ → Bool
is_outside (Some z) = false
is_outside None = true

abbrev pub is_bad_counter : Option ℤ → Bool
is_bad_counter (Some (pos n)) = false
is_bad_counter (Some (negsuc n)) = true
is_bad_counter None = true

-- the number, where it is not outside
abbrev pub cost_of : Option ℤ → PubdataCost
cost_of (Some z) = record { 0 = z }
cost_of None = record { 0 = pos 0 }

abbrev pub return_pc : Bool → Bool → ℕ → ℕ → ℕ → ℕ
return_pc ok label target handler saved = cond label target (cond ok saved handler)

-- "ergs sum above 4,294,967,295", and "a heap bound below the caller's"
abbrev pub ergs_past : ℕ → ℕ → Bool
ergs_past caller closed = nat_le (2 ^ 32) (caller + closed)

abbrev pub is_shrunk : Frame → Frame → Bool
is_shrunk caller closed = nat_lt closed.heap_bound caller.heap_bound || nat_lt closed.aux_heap_bound caller.aux_heap_bound

-- the caller, which goes on with the closed frame's heap bounds. Document 02, CR 12, of the cycle of opening: every return "gives the caller its own back".
unfoldable pub resumed_with : Frame → Frame → PubdataCost → ℕ → ℕ → Frame
resumed_with f closed pubdata ergs pc = record {
  ergs_remaining = ergs;
  pc = pc;
  heap_bound = closed.heap_bound;
  aux_heap_bound = closed.aux_heap_bound;
  total_pubdata_spent = pubdata;
  -- the rest as it was
  context_u128_value = f.context_u128_value;
  this_address = f.this_address;
  msg_sender = f.msg_sender;
  code_address = f.code_address;
  base_memory_page = f.base_memory_page;
  code_page = f.code_page;
  sp = f.sp;
  exception_handler_location = f.exception_handler_location;
  this_shard_id = f.this_shard_id;
  caller_shard_id = f.caller_shard_id;
  code_shard_id = f.code_shard_id;
  is_static = f.is_static;
  is_local_frame = f.is_local_frame;
  stipend = f.stipend;
  opening_cycle = f.opening_cycle;
}

-- the caller as it goes on with so many ergs after the return r
unfoldable pub resumed_of : Record → Frame → Frame → ℕ → Frame
resumed_of r caller closed ergs =
    resumed_with caller closed
    (cost_of (pubdata_after (r.return_kind == 0) caller.total_pubdata_spent.0 closed.total_pubdata_spent.0))
    ergs
    (return_pc (r.return_kind == 0) r.to_label r.imm_0 closed.exception_handler_location caller.pc)
