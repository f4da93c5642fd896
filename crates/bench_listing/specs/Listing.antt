-- Cycles of a listing's lines: three words a line, the op, the price and the want.
use Rattle.std.specs.Prelude.{ℕ, cond, List, eqb, slice_index}
use Rattle.stages.specs.declared.State.{State}
use Rattle.table.specs.declared.Op.{Op}
use Rattle.line_cycle.specs.LineCycle.{input_of, requested_state}
use Rattle.bench_lines.specs.Bench.{Bench, CycleGiven, run_of}

abbrev pub listing_width : ℕ
listing_width = 3

-- 0 add, 1 call, 2 return ok, 3 return revert, anything else return panic
abbrev pub op_numbered : ℕ → Op
op_numbered n = cond (eqb n 0) Op.Add (cond (eqb n 1) Op.Call (cond (eqb n 2) Op.Ok (cond (eqb n 3) Op.Revert Op.Panic)))

-- what a line's cycle is given, as nearbook's: the want in register 1
unfoldable pub listing_step : ℕ → List ℕ → State → List ℕ → CycleGiven
listing_step limit line s store = record {
  input = input_of limit (op_numbered (slice_index line 0)) (slice_index line 1);
  state = requested_state s (slice_index line 2);
}

abbrev pub listing_run : List ℕ → ℕ → ℕ → ℕ → List ℕ → Bench
listing_run lines limit ergs cycles store = run_of (listing_step limit) listing_width lines cycles ergs store
