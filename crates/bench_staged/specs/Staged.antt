-- Cycles whose words are read from a memory: the code word where the query says, the source word where operands says.
use Rattle.std.specs.Prelude.{ℕ, false, List}
use Rattle.u256.specs.declared.U256.{U256}
use Rattle.u256.specs.U256.{empty_word}
use Rattle.records.specs.declared.Records.{Records}
use Rattle.records.specs.declared.Settings.{Settings}
use Rattle.stages.specs.declared.State.{State}
use Rattle.stages.specs.Fetch.{query_of}
use Rattle.cycle.specs.declared.Input.{Input}
use Rattle.start.specs.Start.{settings_of}
use Rattle.cycle.specs.Cycle.{operands_in}
use Rattle.line_cycle.specs.LineCycle.{requested_state}
use Rattle.bench_lines.specs.Bench.{Bench, CycleGiven, run_of}
use Rattle.bench_lines.specs.Line.{line_width, line_records, want_of}
use Rattle.bench_staged.specs.Memory.{memory_word, source_told}

-- what a cycle is given up to operands, with a source word
abbrev pub input_with : Settings → Records → List ℕ → State → U256 → Input
input_with settings records words s source = record {
  code = memory_word words (query_of s);
  execute = record { word = source; pointer = false };
  settings = settings;
  records = records;
}

-- what a cycle is given: operands, which is given no source word, says where that is
unfoldable pub staged_input : Settings → Records → List ℕ → State → List ℕ → Input
staged_input settings records words s store =
    input_with settings records words s (memory_word words (source_told (operands_in (input_with settings records words s empty_word) s store).answer))

-- what a line's cycle is given, from a state
abbrev pub given_from : List ℕ → ℕ → List ℕ → State → List ℕ → CycleGiven
given_from words limit line s store = record { input = staged_input (settings_of limit 1) (line_records line) words s store; state = s }

-- the same, with the line's want in register 1
unfoldable pub staged_step : List ℕ → ℕ → List ℕ → State → List ℕ → CycleGiven
staged_step words limit line s store = given_from words limit line (requested_state s (want_of line)) store

abbrev pub staged_run : List ℕ → List ℕ → ℕ → ℕ → ℕ → List ℕ → Bench
staged_run lines words limit ergs cycles store = run_of (staged_step words limit) line_width lines cycles ergs store
