-- What execute changes of the state.
use Rattle.std.specs.Prelude.{ℕ, false}
use Rattle.u256.specs.declared.U256.{U256}
use Rattle.u256.specs.U256.{empty_word}
use Rattle.frame.specs.declared.Frame.{Frame}
use Rattle.frame.specs.declared.PubdataCost.{PubdataCost}
use Rattle.frame.specs.Fields.{with_pc}
use Rattle.registers.specs.Registers.{update_of}
use Rattle.records.specs.declared.Record.{Record}
use Rattle.records.specs.Record.{instruction, from_register}
use Rattle.records.specs.declared.Flags.{Flags}
use Rattle.addressing.specs.declared.Location.{Location}
use Rattle.stages.specs.declared.State.{State}
use Rattle.stages.specs.State.{at_fetch}

-- "the record all 0"
abbrev pub no_record : Record
no_record = instruction 0 0 (from_register 0) 0 false

abbrev pub no_flags : Flags
no_flags = record { overflow_or_less_than_flag = false; equality_flag = false; greater_than_flag = false }

-- "after execute it is ready, the record all 0, the location none"
unfoldable pub finished_state : State → ℕ → ℕ → State
finished_state s time counter = record {
  kept = record { instruction = no_record; write = Location.None };
  timestamp = time;
  monotonic_cycle_counter = counter;
  stage = at_fetch;
  -- the rest as it was
  registers = s.registers;
  current = s.current;
  previous_code_word = s.previous_code_word;
  fetched_word = s.fetched_word;
  flags = s.flags;
  previous_code_memory_page = s.previous_code_memory_page;
  depth = s.depth;
  pubdata_revert_counter = s.pubdata_revert_counter;
  previous_super_pc = s.previous_super_pc;
  pointers = s.pointers;
  pending_exception = s.pending_exception;
}

-- pc alone
unfoldable pub moved_state : State → ℕ → State
moved_state s pc = record {
  current = with_pc s.current pc;
  -- the rest as it was
  registers = s.registers;
  previous_code_word = s.previous_code_word;
  fetched_word = s.fetched_word;
  kept = s.kept;
  flags = s.flags;
  previous_code_memory_page = s.previous_code_memory_page;
  timestamp = s.timestamp;
  monotonic_cycle_counter = s.monotonic_cycle_counter;
  depth = s.depth;
  pubdata_revert_counter = s.pubdata_revert_counter;
  previous_super_pc = s.previous_super_pc;
  pointers = s.pointers;
  stage = s.stage;
  pending_exception = s.pending_exception;
}

-- a register, and the flags
unfoldable pub written_state : State → Flags → ℕ → U256 → State
written_state s flags n word = record {
  registers = update_of empty_word s.registers n word;
  flags = flags;
  pointers = update_of false s.pointers n false;
  -- the rest as it was
  current = s.current;
  previous_code_word = s.previous_code_word;
  fetched_word = s.fetched_word;
  kept = s.kept;
  previous_code_memory_page = s.previous_code_memory_page;
  timestamp = s.timestamp;
  monotonic_cycle_counter = s.monotonic_cycle_counter;
  depth = s.depth;
  pubdata_revert_counter = s.pubdata_revert_counter;
  previous_super_pc = s.previous_super_pc;
  stage = s.stage;
  pending_exception = s.pending_exception;
}

-- a frame opened or closed: the frame that is current then, the depth, the flags and the revert counter
unfoldable pub switched_state : State → Frame → ℕ → Flags → PubdataCost → State
switched_state s f depth flags counter = record {
  current = f;
  flags = flags;
  depth = depth;
  pubdata_revert_counter = counter;
  -- the rest as it was
  registers = s.registers;
  previous_code_word = s.previous_code_word;
  fetched_word = s.fetched_word;
  kept = s.kept;
  previous_code_memory_page = s.previous_code_memory_page;
  timestamp = s.timestamp;
  monotonic_cycle_counter = s.monotonic_cycle_counter;
  previous_super_pc = s.previous_super_pc;
  pointers = s.pointers;
  stage = s.stage;
  pending_exception = s.pending_exception;
}
