-- Execute by operation, for the contracts of the private functions that it calls; no public contract names these. Each goes by the part of execute's list that is about
-- it. What that part does not look at is left empty: the word read, the store, and but for a return the top row.
use Rattle.std.specs.Prelude.{ℕ, Bool, true, false, cond, List, [], ◌==◌, drop}
use Rattle.u256.specs.declared.U256.{U256}
use Rattle.u256.specs.U256.{empty_word}
use Rattle.refusal.specs.Refusal.{Check, first_of}
use Rattle.frame.specs.declared.Frame.{Frame}
use Rattle.frame.specs.Row.{good_row}
use Rattle.frame.specs.Store.{saved_store}
use Rattle.records.specs.declared.Settings.{Settings}
use Rattle.stages.specs.declared.State.{State}
use Rattle.stages.specs.declared.Staged.{Staged}
use Rattle.stages.specs.declared.ExecuteInput.{ExecuteInput}
use Rattle.stages.specs.declared.ExecuteAnswer.{ExecuteAnswer}
use Rattle.stages.specs.State.{refused_with, settled}
use Rattle.stages.specs.Checks.{checks_of, top_row, top_frame}
use Rattle.stages.specs.Helpers.{nop_done}
use Rattle.stages.specs.Arithmetic.{arithmetic_done}
use Rattle.stages.specs.NearCall.{caller_in, near_call_done}
use Rattle.stages.specs.Ret.{close_done}

abbrev no_word : ExecuteInput
no_word = record { word = empty_word; pointer = false }

-- the list from 7 on, and from 10 on
abbrev pub operation_checks : Bool → Bool → Bool → Frame → Settings → State → List Check
operation_checks ret near_call good caller settings s = drop 5 (checks_of ret near_call good caller settings no_word s [])

abbrev pub closing_checks : Settings → Frame → State → List Check
closing_checks settings caller s = drop 8 (checks_of true false true caller settings no_word s [])

-- of nop, add and sub: 14 alone is about them
abbrev pub late_refusal : Settings → State → ℕ
late_refusal settings s = first_of (operation_checks false false true s.current settings s)

unfoldable pub nop_of : ℕ → Settings → State → Staged ExecuteAnswer
nop_of w settings s = settled (late_refusal settings s) (refused_with s) (nop_done w settings s)

unfoldable pub arithmetic_of : ℕ → Settings → U256 → U256 → State → Staged ExecuteAnswer
arithmetic_of w settings a b s = settled (late_refusal settings s) (refused_with s) (arithmetic_done w settings a b s)

abbrev pub call_refusal : Settings → State → ℕ
call_refusal settings s = first_of (operation_checks false true true s.current settings s)

unfoldable pub near_call_of : ℕ → Settings → ℕ → State → Staged ExecuteAnswer
near_call_of w settings want s = settled (call_refusal settings s) (refused_with s) (near_call_done w settings want s)

unfoldable pub near_call_store : ℕ → Settings → ℕ → State → List ℕ → List ℕ
near_call_store w settings want s store = cond (call_refusal settings s == 0) (saved_store store s.depth (caller_in w settings want s)) store

-- a return to this caller, and a return
unfoldable pub close_of : Settings → Frame → State → Staged ExecuteAnswer
close_of settings caller s = settled (first_of (closing_checks settings caller s)) (refused_with s) (close_done settings caller s)

unfoldable pub return_of : ℕ → Settings → State → List ℕ → Staged ExecuteAnswer
return_of w settings s store =
    settled (first_of (operation_checks true false (good_row w (top_row s store)) (top_frame s store) settings s)) (refused_with s)
    (close_done settings (top_frame s store) s)
