-- Execute. Document 01: operations 0 nop, 1 add, 2 sub, 3 near call, 4 return; "Checks run by number", all of them in Checks.antt. Nop is in
-- Helpers.antt, each other operation in a file of its name, with its event.
use Rattle.std.specs.Prelude.{ℕ, cond, List, ◌==◌}
use Rattle.u256.specs.U256.{low_of}
use Rattle.refusal.specs.Refusal.{first_of}
use Rattle.frame.specs.Store.{saved_store}
use Rattle.records.specs.declared.Settings.{Settings}
use Rattle.records.specs.Record.{is_nop, is_arithmetic, is_near_call}
use Rattle.stages.specs.declared.State.{State}
use Rattle.stages.specs.declared.Staged.{Staged}
use Rattle.stages.specs.declared.ExecuteInput.{ExecuteInput}
use Rattle.stages.specs.declared.ExecuteAnswer.{ExecuteAnswer}
use Rattle.stages.specs.State.{record_of, refused_with, settled}
use Rattle.stages.specs.Checks.{sources_in, top_frame, execute_checks}
use Rattle.stages.specs.Helpers.{nop_done}
use Rattle.stages.specs.Arithmetic.{arithmetic_done}
use Rattle.stages.specs.NearCall.{caller_in, near_call_done}
use Rattle.stages.specs.Ret.{close_done}

abbrev pub execute_refusal : ℕ → Settings → ExecuteInput → State → List ℕ → ℕ
execute_refusal w settings input s store = first_of (execute_checks w settings input s store)

-- what a near call requests: "the low 32 bits of src0"
abbrev pub want_in : ExecuteInput → State → ℕ
want_in input s = low_of 32 (sources_in input s).src0.value

-- by the operation: where nothing is refused, it is a return if it is none of the others
unfoldable pub execute_done : ℕ → Settings → ExecuteInput → State → List ℕ → Staged ExecuteAnswer
execute_done w settings input s store =
    cond (is_nop (record_of s)) (nop_done w settings s)
    (cond (is_arithmetic (record_of s)) (arithmetic_done w settings (sources_in input s).src0.value (sources_in input s).src1.value s)
    (cond (is_near_call (record_of s)) (near_call_done w settings (want_in input s) s)
    (close_done settings (top_frame s store) s)))

unfoldable pub execute_of : ℕ → Settings → ExecuteInput → State → List ℕ → Staged ExecuteAnswer
execute_of w settings input s store =
    settled (execute_refusal w settings input s store) (refused_with s) (execute_done w settings input s store)

-- the store afterwards: a near call alone writes it, its caller as the first free row
unfoldable pub execute_store : ℕ → Settings → ExecuteInput → State → List ℕ → List ℕ
execute_store w settings input s store =
    cond (execute_refusal w settings input s store == 0)
    (cond (is_near_call (record_of s)) (saved_store store s.depth (caller_in w settings (want_in input s) s)) store)
    store
