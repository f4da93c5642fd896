-- Cycles of any records, with the same code word and source word in each.
use Rattle.std.specs.Prelude.{ℕ, false, List}
use Rattle.u256.specs.declared.U256.{U256}
use Rattle.stages.specs.declared.State.{State}
use Rattle.cycle.specs.declared.Input.{Input}
use Rattle.start.specs.Start.{settings_of}
use Rattle.line_cycle.specs.LineCycle.{requested_state}
use Rattle.bench_lines.specs.Bench.{Bench, CycleGiven, run_of}
use Rattle.bench_lines.specs.Line.{line_width, line_records, want_of, word_at}

-- the input of a line's cycle
unfoldable pub opaque_input : List ℕ → U256 → U256 → ℕ → Input
opaque_input line code source limit = record {
  code = code;
  execute = record { word = source; pointer = false };
  settings = settings_of limit 1;
  records = line_records line;
}

-- what a line's cycle is given, with its want in register 1
unfoldable pub opaque_step : U256 → U256 → ℕ → List ℕ → State → List ℕ → CycleGiven
opaque_step code source limit line s store = record { input = opaque_input line code source limit; state = requested_state s (want_of line) }

abbrev pub opaque_run : List ℕ → List ℕ → List ℕ → ℕ → ℕ → ℕ → List ℕ → Bench
opaque_run lines code source limit ergs cycles store = run_of (opaque_step (word_at code 0) (word_at source 0) limit) line_width lines cycles ergs store
