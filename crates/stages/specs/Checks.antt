-- The refusals of the stages: for each stage one list of checks, in the order of document 01's table, whose words stand beside them. "Checks run by number", so the first
-- that holds decides. 15 is the tally's. Of every stage: 1, "limit 0 or above the store's whole rows, or depth above limit", and 2, "stage out of turn"; of all but fetch
-- 3, whose words are in records/specs/Record.antt. w is the width of sp, pc, handler and immediates, 16 in the production encoding, here and in the definitions of the
-- stages.
use Rattle.std.specs.Prelude.{ℕ, ◌-◌, Bool, not, ◌&&◌, ◌||◌, List, [], ◌∷◌, ◌==◌}
use Rattle.refusal.specs.Refusal.{Check, ◌refuses◌}
use Rattle.frame.specs.declared.Frame.{Frame}
use Rattle.frame.specs.Kernel.{kernel_mode}
use Rattle.frame.specs.Row.{frame_of, good_row}
use Rattle.frame.specs.Store.{row_at}
use Rattle.records.specs.declared.Settings.{Settings}
use Rattle.records.specs.declared.Records.{Records}
use Rattle.records.specs.Record.{good_record, is_near_call, is_return, is_other, is_return_ok, bad_records}
use Rattle.decoding.specs.declared.ErrorFlags.{ErrorFlags}
use Rattle.decoding.specs.Charge.{error_flags, any_error}
use Rattle.addressing.specs.declared.Sources.{Sources}
use Rattle.addressing.specs.Address.{lacks_stack_page, lacks_write_time}
use Rattle.addressing.specs.Sources.{sources_of, pointer_refused}
use Rattle.operations.specs.Ret.{pubdata_after, counter_after, is_outside, is_bad_counter, ergs_past, is_shrunk}
use Rattle.operations.specs.Time.{is_late}
use Rattle.stages.specs.declared.State.{State}
use Rattle.stages.specs.declared.ExecuteInput.{ExecuteInput}
use Rattle.stages.specs.State.{at_fetch, at_decode, at_operands, at_execute, is_ended, record_of, bad_store, out_of_turn}

-- ---- fetch
-- "fetch: ended and pending"
abbrev pub fetch_checks : Settings → State → List ℕ → List Check
fetch_checks settings s store =
    (bad_store settings s store refuses 1) ∷ (out_of_turn at_fetch s refuses 2) ∷ ((is_ended s && s.pending_exception) refuses 4) ∷ []

-- ---- decode
-- the flags that the plain record sets
abbrev pub errors_of : Settings → Records → State → ErrorFlags
errors_of settings records s = error_flags s.current s.depth settings.depth_limit records.plain

abbrev pub decode_checks : Settings → Records → State → List ℕ → List Check
decode_checks settings records s store =
    (bad_store settings s store refuses 1)
    ∷ (out_of_turn at_decode s refuses 2)
    ∷ (bad_records records (is_ended s) s.pending_exception (any_error (errors_of settings records s)) refuses 3)
    ∷ []

-- ---- operands
-- "page of a stack kind", and the "time of a memory write", of which document 02, CR 1, says: "Its part of refusal 14 moves from execute to operands."
abbrev pub lacks_page_or_time : State → Bool
lacks_page_or_time s = lacks_stack_page (record_of s) s.current.base_memory_page || lacks_write_time (record_of s) s.timestamp

-- "On later stages 3 is about the kept record." 14 is "above 32 bits".
abbrev pub operands_checks : Settings → State → List ℕ → List Check
operands_checks settings s store =
    (bad_store settings s store refuses 1)
    ∷ (out_of_turn at_operands s refuses 2)
    ∷ (not (good_record (record_of s)) refuses 3)
    ∷ (lacks_page_or_time s refuses 14)
    ∷ []

-- ---- execute
-- the operands, by the word read and its pointer bit
abbrev pub sources_in : ExecuteInput → State → Sources
sources_in input s = sources_of (record_of s) s.registers s.pointers input.word input.pointer

abbrev pub pointer_in : ExecuteInput → State → Bool
pointer_in input s = pointer_refused (kernel_mode s.current) (record_of s) (sources_in input s).src0.is_pointer (sources_in input s).src1.is_pointer

-- the sums of a return to this caller
abbrev pub bad_pubdata : State → Frame → Bool
bad_pubdata s caller = is_outside (pubdata_after (is_return_ok (record_of s)) caller.total_pubdata_spent.0 s.current.total_pubdata_spent.0)

abbrev pub bad_reverts : State → Bool
bad_reverts s = is_bad_counter (counter_after (is_return_ok (record_of s)) s.pubdata_revert_counter.0 s.current.total_pubdata_spent.0)

-- "time after the cycle, cycle counter"
abbrev pub late_in : Settings → State → Bool
late_in settings s = is_late s.timestamp settings.time_step s.monotonic_cycle_counter (is_ended s)

-- The list. It is told whether the kept record is a return or a near call, whether the top row is good, and which frame it holds: a check is made where it is about
-- the operation.
abbrev pub checks_of : Bool → Bool → Bool → Frame → Settings → ExecuteInput → State → List ℕ → List Check
checks_of ret near_call good caller settings input s store =
    -- as on the other stages
    (bad_store settings s store refuses 1)
    ∷ (out_of_turn at_execute s refuses 2)
    ∷ (not (good_record (record_of s)) refuses 3)
    -- "execute: operation 5"
    ∷ (is_other (record_of s) refuses 5)
    -- "execute: after the swap, pointer in a place that may not hold one, not kernel"
    ∷ (pointer_in input s refuses 6)
    -- "return from a frame that is not local"
    ∷ ((ret && not s.current.is_local_frame) refuses 7)
    -- "return at depth 0, or the top row is not good"
    ∷ ((ret && (is_ended s || not good)) refuses 8)
    -- "near call at depth equal to limit"
    ∷ ((near_call && s.depth == settings.depth_limit) refuses 9)
    -- "return ok: pubdata sum outside 32 signed bits"
    ∷ ((ret && bad_pubdata s caller) refuses 10)
    -- "return: revert counter after it (on ok, as it is) outside 32 signed bits or below 0"
    ∷ ((ret && bad_reverts s) refuses 11)
    -- "return: ergs sum above 4,294,967,295"
    ∷ ((ret && ergs_past caller.ergs_remaining s.current.ergs_remaining) refuses 12)
    -- "return: a heap bound below the caller's"
    ∷ ((ret && is_shrunk caller s.current) refuses 13)
    -- "time after the cycle, cycle counter; above 32 bits"
    ∷ (late_in settings s refuses 14)
    ∷ []

-- the top row, and the caller that it holds; a row that is not good has refused before that is looked at
abbrev pub top_row : State → List ℕ → List ℕ
top_row s store = row_at store (s.depth - 1)

abbrev pub top_frame : State → List ℕ → Frame
top_frame s store = frame_of (top_row s store)

-- by the kept record and the store
abbrev pub execute_checks : ℕ → Settings → ExecuteInput → State → List ℕ → List Check
execute_checks w settings input s store =
    checks_of (is_return (record_of s)) (is_near_call (record_of s)) (good_row w (top_row s store)) (top_frame s store) settings input s store
