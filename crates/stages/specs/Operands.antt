-- Operands. Document 01: "Source first, then destination on the changed sp." "Stack page is base plus 1. Nop reads nothing but moves sp." The answer is the
-- location of the source and that of the destination. Document 02, CR 1: a "location now carries its time: the state's time for a read, 3 more for a write", and 0 at a
-- destination to which nothing is written.
use Rattle.std.specs.Prelude.{ℕ, ◌+◌, List, Ok}
use Rattle.refusal.specs.Refusal.{first_of}
use Rattle.frame.specs.Fields.{with_sp}
use Rattle.records.specs.declared.Settings.{Settings}
use Rattle.addressing.specs.declared.Location.{Location}
use Rattle.addressing.specs.declared.Places.{Places}
use Rattle.addressing.specs.Address.{write_time, places_of}
use Rattle.stages.specs.declared.State.{State}
use Rattle.stages.specs.declared.Staged.{Staged}
use Rattle.stages.specs.declared.OperandsAnswer.{OperandsAnswer}
use Rattle.stages.specs.State.{at_execute, record_of, refused_with, settled}
use Rattle.stages.specs.Checks.{operands_checks}

abbrev pub stack_page : State → ℕ
stack_page s = s.current.base_memory_page + 1

-- the two places
abbrev pub places_in : ℕ → State → Places
places_in w s =
    places_of w (record_of s) s.registers (stack_page s) s.current.code_page s.current.sp s.timestamp (write_time (record_of s) s.timestamp)

abbrev pub operands_refusal : Settings → State → List ℕ → ℕ
operands_refusal settings s store = first_of (operands_checks settings s store)

unfoldable pub addressed_state : State → ℕ → Location → State
addressed_state s sp write = record {
  current = with_sp s.current sp;
  kept = record { instruction = record_of s; write = write };
  stage = at_execute;
  -- the rest as it was
  registers = s.registers;
  previous_code_word = s.previous_code_word;
  fetched_word = s.fetched_word;
  flags = s.flags;
  previous_code_memory_page = s.previous_code_memory_page;
  timestamp = s.timestamp;
  monotonic_cycle_counter = s.monotonic_cycle_counter;
  depth = s.depth;
  pubdata_revert_counter = s.pubdata_revert_counter;
  previous_super_pc = s.previous_super_pc;
  pointers = s.pointers;
  pending_exception = s.pending_exception;
}

unfoldable pub operands_done : ℕ → State → Staged OperandsAnswer
operands_done w s = record {
  state = addressed_state s (places_in w s).sp (places_in w s).destination;
  answer = Ok (record { source = (places_in w s).source; destination = (places_in w s).destination });
}

unfoldable pub operands_of : ℕ → Settings → State → List ℕ → Staged OperandsAnswer
operands_of w settings s store = settled (operands_refusal settings s store) (refused_with s) (operands_done w s)
