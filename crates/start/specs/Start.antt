-- Where nearbook's listing and the edges start. Document 01: "time step 4"; "It starts at depth 1 in a far frame, an ergs-free frame below. All of the
-- state, records and words that no line sets is 0 or no, but for the masked records' operations and a call's register."
use Rattle.std.specs.Prelude.{ℕ, ◌*◌, false, List, None, pos, replicate}
use Rattle.u256.specs.declared.U256.{U256}
use Rattle.u256.specs.U256.{empty_word}
use Rattle.frame.specs.declared.Address.{Address}
use Rattle.frame.specs.declared.Frame.{Frame}
use Rattle.frame.specs.Row.{row_width}
use Rattle.records.specs.declared.Settings.{Settings}
use Rattle.records.specs.declared.Record.{Record}
use Rattle.records.specs.declared.Records.{Records}
use Rattle.records.specs.Record.{instruction, from_register}
use Rattle.addressing.specs.declared.Location.{Location}
use Rattle.stages.specs.declared.State.{State}
use Rattle.stages.specs.State.{at_fetch}
use Rattle.stages.specs.Effects.{no_flags, no_record}

abbrev pub no_address : Address
no_address = record { a0 = 0; a1 = 0; a2 = 0; a3 = 0; a4 = 0 }

abbrev pub far_frame : ℕ → ℕ → Frame
far_frame ergs sp = record {
  ergs_remaining = ergs;
  sp = sp;
  -- the rest 0 or no
  context_u128_value = record { low = 0; high = 0 };
  this_address = no_address;
  msg_sender = no_address;
  code_address = no_address;
  base_memory_page = 0;
  code_page = 0;
  pc = 0;
  exception_handler_location = 0;
  this_shard_id = 0;
  caller_shard_id = 0;
  code_shard_id = 0;
  is_static = false;
  is_local_frame = false;
  heap_bound = 0;
  aux_heap_bound = 0;
  total_pubdata_spent = record { 0 = pos 0 };
  stipend = 0;
  opening_cycle = 0;
}

-- the masked records: a panic return and a nop
abbrev pub records_of : Record → Records
records_of plain = record { plain = plain; panic = instruction 4 2 (from_register 0) 0 false; nop = no_record }

-- a state at depth 1 in a far frame: the number of the stage that comes next, the registers, the ergs and sp of the frame, and the kept record
abbrev pub state_at : ℕ → List U256 → ℕ → ℕ → Record → State
state_at stage registers ergs sp kept = record {
  registers = registers;
  current = far_frame ergs sp;
  kept = record { instruction = kept; write = Location.None };
  depth = 1;
  stage = stage;
  -- the rest 0 or no
  previous_code_word = empty_word;
  fetched_word = None;
  flags = no_flags;
  previous_code_memory_page = 0;
  timestamp = 0;
  monotonic_cycle_counter = 0;
  pubdata_revert_counter = record { 0 = pos 0 };
  previous_super_pc = 0;
  pointers = replicate 15 false;
  pending_exception = false;
}

-- ready, with no register set
abbrev pub start_state : ℕ → ℕ → State
start_state ergs sp = state_at at_fetch (replicate 15 empty_word) ergs sp no_record

abbrev pub settings_of : ℕ → ℕ → Settings
settings_of limit multiplier = record { depth_limit = limit; near_call_multiplier = multiplier; time_step = 4 }

abbrev pub empty_store : ℕ → List ℕ
empty_store rows = replicate (rows * row_width) 0
