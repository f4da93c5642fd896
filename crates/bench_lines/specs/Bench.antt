-- A benchmark's run: lines of words are run in turn, one cycle each, and from the front again after the last whole line.
use Rattle.std.specs.Prelude.{ℕ, zero, suc, ◌+◌, ◌-◌, ◌*◌, ◌%◌, ◌^◌, cond, List, [], ◌∷◌, length, take, drop, nat_le, Option, None, Some, Result, Ok, Err}
use Rattle.std.specs.Option.{is_none}
use Rattle.std.specs.Result.{result_err}
use Rattle.refusal.specs.declared.Refusal.{Refusal}
use Rattle.refusal.specs.Refusal.{paper_number}
use Rattle.records.specs.declared.Flags.{Flags}
use Rattle.stages.specs.declared.State.{State}
use Rattle.cycle.specs.declared.CycleAnswer.{CycleAnswer}
use Rattle.cycle.specs.declared.CycleRefusal.{CycleRefusal}
use Rattle.cycle.specs.declared.Cycled.{Cycled}
use Rattle.cycle.specs.declared.Input.{Input}
use Rattle.start.specs.Start.{start_state}
use Rattle.cycle.specs.Cycle.{cycle_of, cycle_store}
use Rattle.bench_lines.specs.declared.CycleOutcome.{CycleOutcome}
use Rattle.bench_lines.specs.declared.Progress.{Progress}

-- how far a run has come, with the store that is lent to it
pub record Bench : Type 0 where
  pub progress : Progress
  pub store : List ℕ

-- what a cycle is given: the input, and the state that it begins from
pub record CycleGiven : Type 0 where
  pub input : Input
  pub state : State

-- a benchmark's step: what the cycle of a line is given, from a state and the store
abbrev pub Step : Type 0 → Type 0
Step T = List T → State → List ℕ → CycleGiven

-- depth 1 in a far frame with these ergs, at the first line
abbrev pub start_progress : ℕ → Progress
start_progress ergs = record { state = start_state ergs 0; charged = 0; begun = 0; at = 0; refusal = None }

-- where the next line begins, of lines of so many words: at the front after the last whole one
abbrev pub next_line : ℕ → ℕ → ℕ → ℕ
next_line width words at = cond (nat_le (at + 2 * width) words) (at + width) 0

-- the line at a position
abbrev pub line_at : {T : Type 0} → ℕ → List T → ℕ → List T
line_at width lines at = take width (drop at lines)

-- what a cycle's answer comes to: its charge, or its refusal
abbrev pub charge_or_refusal : Result CycleAnswer CycleRefusal → Result ℕ Refusal
charge_or_refusal (Ok answer) = Ok answer.decode.charge
charge_or_refusal (Err refused) = Err refused.refusal

-- what is kept of a cycle
abbrev pub cycle_outcome : Cycled → CycleOutcome
cycle_outcome c = record { state = c.state; charge = charge_or_refusal c.answer }

-- the sum of the charges after a cycle: a refused one adds none
abbrev pub charged_after : ℕ → Result ℕ Refusal → ℕ
charged_after charged (Ok charge) = (charged + charge) % 2 ^ 64
charged_after charged (Err refusal) = charged

-- what a cycle leaves, where the next line begins at a position: a refused cycle, too, was begun
abbrev pub advanced : Progress → ℕ → CycleOutcome → Progress
advanced p at c = record {
  state = c.state;
  charged = charged_after p.charged c.charge;
  begun = p.begun + 1;
  at = at;
  refusal = result_err c.charge;
}

-- a turn: a cycle with an input, from a state
unfoldable pub cycle_turn : Input → State → ℕ → Bench → Bench
cycle_turn input s at b = record { progress = advanced b.progress at (cycle_outcome (cycle_of input s b.store)); store = cycle_store input s b.store }

-- the turn of the line that is next
abbrev pub line_turn : {T : Type 0} → Step T → ℕ → List T → Bench → Bench
line_turn step width lines b =
    let given = step (line_at width lines b.progress.at) b.progress.state b.store in
    cycle_turn given.input given.state (next_line width (length lines) b.progress.at) b

-- so many turns; a refusal ends the run
abbrev pub turns : (Bench → Bench) → ℕ → Bench → Bench
turns turn zero b = b
turns turn (suc n) b = cond (is_none b.progress.refusal) (turns turn n (turn b)) b

-- the cycles to run: none where there is no whole line
abbrev pub cycles_of : ℕ → ℕ → ℕ → ℕ
cycles_of width words cycles = cond (nat_le width words) cycles 0

-- all turns from the start
unfoldable pub run_of : {T : Type 0} → Step T → ℕ → List T → ℕ → ℕ → List ℕ → Bench
run_of step width lines cycles ergs store =
    turns (line_turn step width lines) (cycles_of width (length lines) cycles) (record { progress = start_progress ergs; store = store })

-- ---- what is told at the end
-- 1 overflow or less than, 2 equality, 4 greater than
abbrev pub flags_number : Flags → ℕ
flags_number flags = cond flags.overflow_or_less_than_flag 1 0 + cond flags.equality_flag 2 0 + cond flags.greater_than_flag 4 0

abbrev pub refused_number : Option Refusal → ℕ
refused_number None = 0
refused_number (Some refusal) = paper_number refusal

-- the refusal's number or 0, the cycles completed (all that were begun but a refused one), the ergs of the current frame, depth, pc, flags, time, and the sum of the charges
unfoldable pub end_of : Progress → List ℕ
end_of p =
    refused_number p.refusal
    ∷ (p.begun - cond (is_none p.refusal) 0 1)
    ∷ p.state.current.ergs_remaining
    ∷ p.state.depth
    ∷ p.state.current.pc
    ∷ flags_number p.state.flags
    ∷ p.state.timestamp
    ∷ p.charged
    ∷ []
