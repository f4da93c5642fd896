-- Execute of the cycle core as a stage of a machine, by its operations. Assumes nothing.
use Prim.Native.Nat.{ℕ, ◌+◌, ◌≤◌, ◌<◌}
use mathlib.Core.Bool.{Bool, true, false, cond, ◌||◌, ◌&&◌}
use mathlib.Core.Path.{◌≡◌, refl, ap, ◌∙◌}
use mathlib.Core.List.{List}
use native.Mathlib.Omega.{arith}
use native.Mathlib.Nat.{add-zero, sub-add_cancel}
use native.Mathlib.Numerals.{add-one}
use lib.Dec.{eqb}
use lib.ListN.{length}
use Rattle.std.proofs.lemmas.Bool.Decides.{nat_tests}
use borrow.Author.Tests.{eqb-true, eqb-false, not-false}
use Rattle.frame.specs.declared.Frame.{Frame}
use Rattle.frame.specs.Fields.{with_pc}
use Rattle.refusal.specs.Refusal.{Check}
use Rattle.refusal.proofs.RefusalLaws.{clear}
use Rattle.frame.specs.Row.{row_of, frame_of}
use Rattle.frame.specs.Store.{whole_rows, saved_store}
use Rattle.frame.proofs.RowLaws.{frame_of_row}
use Rattle.frame.proofs.StoreLaws.{saved_row, saved_below}
use Rattle.records.specs.declared.Record.{Record}
use Rattle.records.specs.Record.{good_record}
use Rattle.records.proofs.RecordLaws.{good_operation}
use Rattle.operations.specs.NearCall.{wanted_ergs, caller_of, opened_of}
use Rattle.operations.specs.Ret.{resumed_with, resumed_of}
use Rattle.stages.specs.declared.State.{State}
use Rattle.stages.specs.declared.Staged.{Staged}
use Rattle.stages.specs.declared.ExecuteAnswer.{ExecuteAnswer}
use Rattle.stages.specs.State.{record_of, bad_store, refused_with}
use Rattle.stages.specs.Checks.{top_frame, sources_in, execute_checks}
use Rattle.stages.specs.Effects.{finished_state, moved_state, written_state, switched_state}
use Rattle.stages.specs.Helpers.{nop_done}
use Rattle.stages.specs.NearCall.{passed_in, caller_in, near_call_done}
use Rattle.stages.specs.Ret.{close_done}
use Rattle.stages.specs.Arithmetic.{arithmetic_done}
use Rattle.stages.specs.Execute.{execute_refusal, want_in, execute_done, execute_of, execute_store}
use Rattle.stages.proofs.NearCallLaws.{passed_le, room}
use Rattle.lists.specs.Machine as machines
use Rattle.lists.specs.Machine.{Outcome}
use Rattle.lists.specs.Lists.{execute}
use Rattle.lists.specs.Laws.{Advances, Performs}
use Rattle.claims.specs.Core.{core, CoreExecuteArgs, outcome_in, execute_outcome, stage_of, operation_of, lasting_of}
use Rattle.claims.specs.Answers.{execute_numbers}
use Rattle.claims.proofs.Views.{View, done, both, checked}
use Rattle.claims.proofs.Stages.{turn}

-- what lasts of a frame is in its row
lasting_row : (f : Frame) → lasting_of (frame_of (row_of f)) ≡ lasting_of f
unfolding lasting_of
lasting_row f = ap lasting_of (frame_of_row (lasting_of f) refl)

-- of two that do not both hold, the second where the first does
second_false : (a b : Bool) → (a && b) ≡ false → a ≡ true → b ≡ false
second_false a b e t = grind arith

first_false : (a b : Bool) → (a || b) ≡ false → a ≡ false
first_false a b e = grind arith

-- what each operation that is not refused does to frames
nop_kind : (r : Record) → eqb r.operation 0 ≡ true → operation_of r ≡ machines.neither
nop_kind r = grind (arith, nat_tests)

sum_kind : (r : Record) → (eqb r.operation 1 || eqb r.operation 2) ≡ true → operation_of r ≡ machines.neither
sum_kind r = grind (arith, nat_tests)

call_kind : (r : Record) → eqb r.operation 3 ≡ true → operation_of r ≡ machines.near_call
call_kind r = grind (arith, nat_tests)

ret_test : (o : ℕ) → o ≤ 5 → eqb o 0 ≡ false → (eqb o 1 || eqb o 2) ≡ false → eqb o 3 ≡ false → eqb o 5 ≡ false → eqb o 4 ≡ true
ret_test o = grind (arith, nat_tests)

ret_kind : (r : Record) → eqb r.operation 4 ≡ true → operation_of r ≡ machines.ret
ret_kind r = grind (arith, nat_tests)

module _ (x : CoreExecuteArgs) (s : State) (store : List ℕ) where
  -- what a finished call does
  abbrev Done : Outcome State → Type 0
  Done o = Advances core (execute x) s o × Performs core (core.kept s) x s store o

  abbrev Viewed : Staged ExecuteAnswer → List ℕ → Type 0
  Viewed r after = View execute_numbers s store (outcome_in r after) (Done (outcome_in r after))

  abbrev want : ℕ
  want = want_in x.input s

  abbrev opened_store : List ℕ
  opened_store = saved_store store s.depth (caller_in 16 x.settings want s)

  module _ (at : stage_of s.stage ≡ machines.addressed) where
    nop_view : operation_of (record_of s) ≡ machines.neither → Viewed (nop_done 16 x.settings s) store
    unfolding nop_done moved_state finished_state with_pc lasting_of
    nop_view e =
        done refl (
          record { stage_before = at; stage_after = refl },
          rw e (record { ergs_less = add-zero s.current.ergs_remaining; lasting_same = refl; depth_same = refl; store_same = refl }),
        )

    sum_view : operation_of (record_of s) ≡ machines.neither
        → Viewed (arithmetic_done 16 x.settings (sources_in x.input s).src0.value (sources_in x.input s).src1.value s) store
    unfolding arithmetic_done written_state moved_state finished_state with_pc lasting_of
    sum_view e =
        done refl (
          record { stage_before = at; stage_after = refl },
          rw e (record { ergs_less = add-zero s.current.ergs_remaining; lasting_same = refl; depth_same = refl; store_same = refl }),
        )

    call_view : operation_of (record_of s) ≡ machines.near_call → bad_store x.settings s store ≡ false → eqb s.depth x.settings.depth_limit ≡ false
        → Viewed (near_call_done 16 x.settings want s) opened_store
    unfolding near_call_done switched_state finished_state opened_of caller_of lasting_of machines.machine_row machines.first_rows
    call_view e b l =
        let free : s.depth < whole_rows store = (room x.settings.depth_limit s.depth (length store) b (eqb-false s.depth x.settings.depth_limit l)).0 in
        let row = saved_row store s.depth (caller_in 16 x.settings want s) free in
        done refl (
          record { stage_before = at; stage_after = refl },
          rw e
              (record {
                depth_up = add-one s.depth;
                local_new = refl;
                passed = refl;
                kept_back =
                    ap (λ (l : List ℕ). (frame_of l).ergs_remaining + passed_in x.settings want s) row
                    ∙ sub-add_cancel (passed_le (wanted_ergs want x.settings.near_call_multiplier) s.current.ergs_remaining);
                lasting_saved = ap (λ (l : List ℕ). lasting_of (frame_of l)) row ∙ lasting_row (caller_in 16 x.settings want s);
                below_same = saved_below store s.depth (caller_in 16 x.settings want s) s.depth (omega arith);
              }),
        )

    return_view : operation_of (record_of s) ≡ machines.ret → eqb s.depth 0 ≡ false → Viewed (close_done x.settings (top_frame s store) s) store
    unfolding close_done switched_state finished_state resumed_with resumed_of lasting_of machines.machine_row
    return_view e d =
        done refl (
          record { stage_before = at; stage_after = refl },
          rw e (record { depth_down = omega (arith, eqb-false s.depth 0 d); lasting_back = refl; ergs_back = λ l. refl; store_same = refl }),
        )

pub execute_view : (x : CoreExecuteArgs) (s : State) (store : List ℕ)
    → View execute_numbers s store (execute_outcome x s store)
    (Advances core (execute x) s (execute_outcome x s store) × Performs core (core.kept s) x s store (execute_outcome x s store))
unfolding execute_of execute_store execute_done
execute_view x s store =
    both (Viewed x s store) (eqb n 0) (execute_done 16 x.settings x.input s store) (refused_with s n)
    (cond (eqb o 3) (opened_store x s store) store) store
    (λ t.
    let c = clear checks tt (eqb-true n 0 t) in
    chosen (turn s.stage 3 c.1.0) c.0 (good_operation (record_of s) (not-false (good_record (record_of s)) c.1.1.0)) c.1.1.1.0
    (λ e. second_false _ _ c.1.1.1.1.1.1.1.0 e)
    (λ e. first_false _ _ (second_false _ _ c.1.1.1.1.1.1.0 e))
    (eqb o 0) (eqb o 1 || eqb o 2) (eqb o 3) refl refl refl)
    (λ f. checked execute_numbers tt s store checks tt (eqb-false n 0 f))
  where
    o : ℕ
    o = s.kept.instruction.operation

    n : ℕ
    n = execute_refusal 16 x.settings x.input s store

    checks : List Check
    checks = execute_checks 16 x.settings x.input s store

    chosen : stage_of s.stage ≡ machines.addressed → bad_store x.settings s store ≡ false → o ≤ 5 → eqb o 5 ≡ false
        → (eqb o 3 ≡ true → eqb s.depth x.settings.depth_limit ≡ false) → (eqb o 4 ≡ true → eqb s.depth 0 ≡ false)
        → (p q r : Bool) → eqb o 0 ≡ p → (eqb o 1 || eqb o 2) ≡ q → eqb o 3 ≡ r
        → Viewed x s store
        (cond p (nop_done 16 x.settings s)
        (cond q (arithmetic_done 16 x.settings (sources_in x.input s).src0.value (sources_in x.input s).src1.value s)
        (cond r (near_call_done 16 x.settings (want x s store) s) (close_done x.settings (top_frame s store) s))))
        (cond r (opened_store x s store) store)
    chosen at sized l e5 call ret true q true e0 e12 e3 = absurd (grind (arith, nat_tests))
    chosen at sized l e5 call ret true q false e0 e12 e3 = nop_view x s store at (nop_kind (record_of s) e0)
    chosen at sized l e5 call ret false true true e0 e12 e3 = absurd (grind (arith, nat_tests))
    chosen at sized l e5 call ret false true false e0 e12 e3 = sum_view x s store at (sum_kind (record_of s) e12)
    chosen at sized l e5 call ret false false true e0 e12 e3 = call_view x s store at (call_kind (record_of s) e3) sized (call e3)
    chosen at sized l e5 call ret false false false e0 e12 e3 =
        let e4 = ret_test o l e0 e12 e3 e5 in
        return_view x s store at (ret_kind (record_of s) e4) (ret e4)
