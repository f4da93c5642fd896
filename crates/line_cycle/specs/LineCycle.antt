-- One line's cycle. Document 01: "multiplier 1, time step 4"; "It starts at depth 1 in a far frame, an ergs-free frame below. All of the state, records and words that
-- no line sets is 0 or no, but for the masked records' operations and a call's register."
use Rattle.std.specs.Prelude.{ℕ, ◌+◌, false, cond, List, Result, Ok, Err, replicate, set, get_or}
use Rattle.std.specs.Result.{is_ok}
use Rattle.u256.specs.U256.{empty_word, one_word}
use Rattle.frame.specs.Store.{saved_ergs}
use Rattle.records.specs.declared.Record.{Record}
use Rattle.records.specs.Record.{instruction, from_register}
use Rattle.stages.specs.declared.State.{State}
use Rattle.cycle.specs.declared.Input.{Input}
use Rattle.cycle.specs.declared.Cycled.{Cycled}
use Rattle.start.specs.Start.{records_of, settings_of, start_state, empty_store}
use Rattle.cycle.specs.declared.CycleAnswer.{CycleAnswer}
use Rattle.cycle.specs.declared.CycleRefusal.{CycleRefusal}
use Rattle.cycle.specs.Cycle.{cycle_of, cycle_store, cycle_charge}
use Rattle.refusal.specs.declared.Refusal.{Refusal}
use Rattle.tally.specs.Tally.{enter_of, tally_after}
use Rattle.table.specs.declared.Op.{Op}
use Rattle.table.specs.declared.Line.{Line}
use Rattle.line_cycle.specs.declared.LineAnswer.{LineAnswer}
use Rattle.table.specs.declared.Row.{Row}

-- the machine state with what is lent to it
pub record Holding : Type 0 where
  pub state : State
  pub store : List ℕ
  pub tally : List ℕ

abbrev pub start_holding : ℕ → Holding
start_holding ergs = record { state = start_state ergs 0; store = empty_store 16; tally = replicate 17 0 }

-- the instruction of each op: operation (1 add, 3 near call, 4 return), return kind (0 ok, 1 revert, 2 panic), src0 (a call's is register 1) and price
abbrev pub op_record : Op → ℕ → Record
op_record Op.Add price = instruction 1 0 (from_register 0) price false
op_record Op.Call price = instruction 3 0 (from_register 1) price false
op_record Op.Ok price = instruction 4 0 (from_register 0) price false
op_record Op.Revert price = instruction 4 1 (from_register 0) price false
op_record Op.Panic price = instruction 4 2 (from_register 0) price false

unfoldable pub input_of : ℕ → Op → ℕ → Input
input_of limit op price = record {
  code = empty_word;
  execute = record { word = empty_word; pointer = false };
  settings = settings_of limit 1;
  records = records_of (op_record op price);
}

-- the request of a line in register 1
unfoldable pub requested_state : State → ℕ → State
requested_state s want = record {
  registers = set s.registers 0 (one_word want);
  -- the rest as it was
  current = s.current;
  previous_code_word = s.previous_code_word;
  fetched_word = s.fetched_word;
  kept = s.kept;
  flags = s.flags;
  previous_code_memory_page = s.previous_code_memory_page;
  timestamp = s.timestamp;
  monotonic_cycle_counter = s.monotonic_cycle_counter;
  depth = s.depth;
  pubdata_revert_counter = s.pubdata_revert_counter;
  previous_super_pc = s.previous_super_pc;
  pointers = s.pointers;
  stage = s.stage;
  pending_exception = s.pending_exception;
}

abbrev pub cycle_in : ℕ → Line → Holding → Cycled
cycle_in limit line b = cycle_of (input_of limit line.op line.price) (requested_state b.state line.want) b.store

-- the refusal of the cycle, or, where it is finished, the tally's answer to its entry
abbrev pub entry_of : ℕ → ℕ → List ℕ → Cycled → Result CycleAnswer CycleRefusal → Result (Unit {0}) Refusal
entry_of limit before tally c (Ok answer) = enter_of tally limit before c.state.depth (cycle_charge c.answer)
entry_of limit before tally c (Err refused) = Err refused.refusal

-- what a line's cycle gives
unfoldable pub line_answer : ℕ → Line → Holding → LineAnswer
line_answer limit line b = record {
  state = (cycle_in limit line b).state;
  charge = cycle_charge (cycle_in limit line b).answer;
  answer = entry_of limit b.state.depth b.tally (cycle_in limit line b) (cycle_in limit line b).answer;
}

unfoldable pub store_after : ℕ → Line → Holding → List ℕ
store_after limit line b = cycle_store (input_of limit line.op line.price) (requested_state b.state line.want) b.store

unfoldable pub entries_after : ℕ → Line → Holding → List ℕ
entries_after limit line b =
    cond (is_ok (cycle_in limit line b).answer)
    (tally_after b.tally limit b.state.depth (cycle_in limit line b).state.depth (cycle_charge (cycle_in limit line b).answer))
    b.tally

abbrev pub holding_after : ℕ → Line → Holding → Holding
holding_after limit line b = record {
  state = (line_answer limit line b).state;
  store = store_after limit line b;
  tally = entries_after limit line b;
}

-- "ergs of all frames"
abbrev pub total_held : Holding → ℕ
total_held b = b.state.current.ergs_remaining + saved_ergs b.state.depth b.store

-- "its tally": what the place of a depth holds
abbrev pub spend_at : ℕ → Holding → ℕ
spend_at depth b = get_or b.tally depth 0

-- "cycle number, op read, charge, depth after, ergs of the current frame, ergs of all frames, its tally"
unfoldable pub printed_row : ℕ → Op → ℕ → Holding → Row
printed_row cycle op charge b = record {
  total = total_held b;
  own = spend_at b.state.depth b;
  cycle = cycle;
  charge = charge;
  depth = b.state.depth;
  held = b.state.current.ergs_remaining;
  op = op;
}
