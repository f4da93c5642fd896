-- Turns of a run, one after the other. Assumes nothing.
use Rattle.std.proofs.Common.{◌≡◌, ℕ, zero, suc, ◌+◌, ◌-◌, ◌<◌, ◌≤◌, Bool, true, false, ◌&&◌, ltb, List, length, Option, None, sym, refl, ap, ◌∙◌, arith}
use Rattle.std.specs.Option.{is_none}
use Rattle.std.specs.Result.{result_err}
use Rattle.std.proofs.lemmas.Bool.Decides.{nat_tests}
use Rattle.refusal.specs.declared.Refusal.{Refusal}
use Rattle.stages.specs.declared.State.{State}
use Rattle.cycle.specs.declared.Input.{Input}
use Rattle.start.specs.Start.{start_state}
use Rattle.cycle.specs.Cycle.{cycle_of, cycle_store}
use Rattle.bench_lines.specs.declared.CycleOutcome.{CycleOutcome}
use Rattle.bench_lines.specs.Bench.{Bench, Step, next_line, line_at, cycles_of, cycle_outcome, charged_after, cycle_turn, line_turn, turns, end_of}

-- what a loop's variables say
abbrev pub so_far : State → ℕ → ℕ → ℕ → Option Refusal → List ℕ → Bench
so_far s charged begun at refusal store = record { progress = record { state = s; charged = charged; begun = begun; at = at; refusal = refusal }; store = store }

-- where a loop begins
abbrev pub start : State → List ℕ → Bench
start s store = so_far s 0 0 0 None store

-- from what a cycle gives to the turn
pub cycled : (b : Bench) (input : Input) (s : State) (at : ℕ) (r : CycleOutcome) (store' : List ℕ)
    → (r ≡ cycle_outcome (cycle_of input s b.store)) × (store' ≡ cycle_store input s b.store)
    → (sum : ℕ) → sum ≡ charged_after b.progress.charged r.charge
    → (refusal : Option Refusal) → refusal ≡ result_err r.charge
    → so_far r.state sum (b.progress.begun + 1) at refusal store' ≡ cycle_turn input s at b
unfolding cycle_turn
cycled b input s at r store' e sum es refusal er = rw (es, er, e.0, e.1)

-- a run that has come from one place to another: what is left comes to what there was to run, and where a cycle is left there is a line for it
pub record Came (turn : Bench → Bench) (width words count : ℕ) (a b : Bench) : Type 0 where
  pub left : turns turn (count - b.progress.begun) b ≡ turns turn count a
  pub lined : b.progress.begun < count → b.progress.at + width ≤ words

-- one turn more, which counts the cycle and goes on to the next line
pub more : (turn : Bench → Bench) (width words count : ℕ) (a b : Bench) → Came turn width words count a b
    → (is_none b.progress.refusal && ltb b.progress.begun count) ≡ true
    → (q : Bench) → q ≡ turn b → q.progress.begun ≡ b.progress.begun + 1 → q.progress.at ≡ next_line width words b.progress.at
    → Came turn width words count a q
more turn width words count a b came going q e eb ea =
    let unrefused : is_none b.progress.refusal ≡ true = grind (arith, nat_tests) in
    let begins : b.progress.begun < count = grind (arith, nat_tests) in
    let line : b.progress.at + width ≤ words = came.lined begins in
    let k : count - b.progress.begun ≡ suc (count - q.progress.begun) = omega arith in
    record {
      left = sym (ap (λ (n : ℕ). turns turn n b) k ∙ rw (unrefused, e)) ∙ came.left;
      lined = λ h. rw ea (grind (arith, nat_tests));
    }

-- one turn more, as the loop takes it: the cycle of the line that is next
pub turned : {T : Type 0} (step : Step T) (width : ℕ) (lines : List T) (count : ℕ) (a b : Bench) → Came (line_turn step width lines) width (length lines) count a b
    → b.progress.refusal ≡ None → b.progress.begun < count
    → (line : List T) → line ≡ line_at width lines b.progress.at
    → (at : ℕ) → at ≡ next_line width (length lines) b.progress.at
    → (r : CycleOutcome) → r ≡ cycle_outcome (cycle_of (step line b.progress.state b.store).input (step line b.progress.state b.store).state b.store)
    → (store' : List ℕ) → store' ≡ cycle_store (step line b.progress.state b.store).input (step line b.progress.state b.store).state b.store
    → (sum : ℕ) → sum ≡ charged_after b.progress.charged r.charge
    → (refusal : Option Refusal) → refusal ≡ result_err r.charge
    → Came (line_turn step width lines) width (length lines) count a (so_far r.state sum (b.progress.begun + 1) at refusal store')
turned step width lines count a b came unrefused begins line el at ea r er store' es sum em refusal ee =
    let going : (is_none b.progress.refusal && ltb b.progress.begun count) ≡ true = rw unrefused (grind (arith, nat_tests)) in
    more _ _ _ _ _ b came going _ (rw ea (cycled b _ _ _ r _ (rw (← el) (er, es)) sum em refusal ee)) refl ea

-- no turn more: the run
pub over : (turn : Bench → Bench) (width words cycles count ergs : ℕ) → count ≡ cycles_of width words cycles
    → (s : State) → s ≡ start_state ergs 0
    → (store : List ℕ) (b : Bench) → Came turn width words count (start s store) b → (is_none b.progress.refusal && ltb b.progress.begun count) ≡ false
    → (end : List ℕ) → end ≡ end_of b.progress
    → (b.store ≡ (turns turn (cycles_of width words cycles) (start (start_state ergs 0) store)).store) × (end ≡ end_of (turns turn (cycles_of width words cycles) (start (start_state ergs 0) store)).progress)
over turn width words cycles count ergs ec s es store b came e end ee = (ap (λ (r : Bench). r.store) all, ee ∙ ap (λ (r : Bench). end_of r.progress) all)
  where
    -- a refusal ends the run
    stays : (n : ℕ) → is_none b.progress.refusal ≡ false → turns turn n b ≡ b
    stays zero z = refl
    stays (suc n) z = rw z

    go : (t : Bool) → is_none b.progress.refusal ≡ t → turns turn (count - b.progress.begun) b ≡ b
    go false z = stays (count - b.progress.begun) z
    go true z =
        let n : count - b.progress.begun ≡ 0 = grind (arith, nat_tests) in
        ap (λ (n : ℕ). turns turn n b) n

    all : b ≡ turns turn (cycles_of width words cycles) (start (start_state ergs 0) store)
    all = sym (go (is_none b.progress.refusal) refl) ∙ came.left ∙ rw (es, ec)
