-- What the query and the stages are to tell, in the numbers of Answers.antt, each by the rule of document 01 or, of the times, of document 02's
-- CR 1; a refusal tells nothing.
use Rattle.std.specs.Prelude.{ℕ, ◌+◌, min, cond, not, ◌&&◌, ◌||◌, List, [], ◌∷◌, ◌++◌, ◌==◌, nat_lt}
use mir.Val.{bool_byte}
use Rattle.u256.specs.declared.U256.{U256}
use Rattle.u256.specs.U256.{value_of}
use Rattle.u256.specs.Word.{wrapping_difference}
use Rattle.frame.specs.Kernel.{kernel_mode}
use Rattle.registers.specs.Registers.{register_of}
use Rattle.records.specs.declared.Settings.{Settings}
use Rattle.records.specs.declared.Records.{Records}
use Rattle.records.specs.Record.{is_nop, is_arithmetic, is_near_call, is_return, is_return_ok}
use Rattle.decoding.specs.Code.{super_pc, sub_pc, code_bits}
use Rattle.addressing.specs.Address.{vaddr_of}
use Rattle.stages.specs.declared.State.{State}
use Rattle.stages.specs.declared.ExecuteInput.{ExecuteInput}
use Rattle.stages.specs.State.{is_ended, record_of}
use Rattle.stages.specs.Checks.{sources_in}
use Rattle.stages.specs.Helpers.{is_stored}
use Rattle.stages.specs.Fetch.{code_wanted, code_word, fetch_refusal}
use Rattle.stages.specs.Decode.{price_in, decode_refusal}
use Rattle.stages.specs.Operands.{stack_page, operands_refusal}
use Rattle.stages.specs.Arithmetic.{result_in}
use Rattle.stages.specs.Execute.{execute_refusal}
use Rattle.stages.specs.Answers.{location_case}

-- ---- what the query, fetch and decode are to tell
-- "whether a code read is wanted, and from which page and index"; its time is that of any read (D80)
abbrev pub query_tells : State → List ℕ
query_tells s = cond (code_wanted s) (1 ∷ 2 ∷ s.current.code_page ∷ super_pc s.current.pc ∷ s.timestamp ∷ []) (0 ∷ [])

-- "nop (ended)", "exception (pending)", or the 64 bits of the code word that sub pc picks
abbrev pub fetch_tells : Settings → U256 → State → List ℕ → List ℕ
fetch_tells settings word s store =
    cond (fetch_refusal settings s store == 0)
    (cond (is_ended s) (2 ∷ []) (cond s.pending_exception (1 ∷ []) (0 ∷ code_bits (code_word s word) (sub_pc s.current.pc) ∷ [])))
    []

-- "Price above ergs", "explicit panic, kernel only, static, depth equal to limit"; "A charge is the smaller of the price and the ergs held."
abbrev pub decode_tells : Settings → Records → State → List ℕ → List ℕ
decode_tells settings records s store =
    cond (decode_refusal settings records s store == 0)
    (bool_byte records.plain.explicit_panic
    ∷ bool_byte (nat_lt s.current.ergs_remaining (price_in records s))
    ∷ bool_byte (records.plain.kernel_only && not (kernel_mode s.current))
    ∷ bool_byte (not records.plain.allowed_when_static && s.current.is_static)
    ∷ bool_byte (s.depth == settings.depth_limit)
    ∷ min (price_in records s) s.current.ergs_remaining
    ∷ [])
    []

-- ---- what operands is to tell, at the width w of sp and immediates
-- "vaddr is the low 16 bits of the register plus the immediate, modulo 65,536", of the source and of the destination
abbrev pub source_vaddr : ℕ → State → ℕ
source_vaddr w s = vaddr_of w (register_of s.registers (record_of s).src0) (record_of s).imm_0

abbrev pub destination_vaddr : ℕ → State → ℕ
destination_vaddr w s = vaddr_of w (register_of s.registers (record_of s).dst0) (record_of s).imm_1

-- sp after the source, which a pop alone moves
abbrev pub sp_after_source : ℕ → State → ℕ
sp_after_source w s = cond ((record_of s).source_kind == 2) (wrapping_difference w s.current.sp (source_vaddr w s)) s.current.sp

-- "Nop reads nothing". Kinds 2 push/pop and 3 stack offset lie at sp minus vaddr, 4 code page and 5 absolute stack at vaddr. A source's
-- time is "the state's time for a read".
abbrev pub source_tells : ℕ → State → List ℕ
source_tells w s =
    cond (is_nop (record_of s)) (0 ∷ [])
    (cond ((record_of s).source_kind == 2 || (record_of s).source_kind == 3)
    (1 ∷ 1 ∷ stack_page s ∷ wrapping_difference w s.current.sp (source_vaddr w s) ∷ s.timestamp ∷ [])
    (cond ((record_of s).source_kind == 4) (1 ∷ 2 ∷ s.current.code_page ∷ source_vaddr w s ∷ s.timestamp ∷ [])
    (cond ((record_of s).source_kind == 5) (1 ∷ 1 ∷ stack_page s ∷ source_vaddr w s ∷ s.timestamp ∷ []) (0 ∷ []))))

-- "3 more for a write", formed "only for add and sub; any other operation's write location carries 0"
abbrev pub destination_time : State → ℕ
destination_time s = cond (is_arithmetic (record_of s)) (s.timestamp + 3) 0

-- "destination on the changed sp": a push "writes at the old sp", the others as a source
abbrev pub destination_tells : ℕ → State → List ℕ
destination_tells w s =
    cond ((record_of s).destination_kind == 2) (1 ∷ 1 ∷ stack_page s ∷ sp_after_source w s ∷ destination_time s ∷ [])
    (cond ((record_of s).destination_kind == 3) (1 ∷ 1 ∷ stack_page s ∷ wrapping_difference w (sp_after_source w s) (destination_vaddr w s) ∷ destination_time s ∷ [])
    (cond ((record_of s).destination_kind == 5) (1 ∷ 1 ∷ stack_page s ∷ destination_vaddr w s ∷ destination_time s ∷ []) (0 ∷ [])))

abbrev pub operands_tells : ℕ → Settings → State → List ℕ → List (List ℕ)
operands_tells w settings s store = cond (operands_refusal settings s store == 0) (source_tells w s ∷ destination_tells w s ∷ []) []

-- ---- what execute is to tell
-- where a location is kept add and sub write their result there, at its time, with the pointer bit off
abbrev pub write_tells : ExecuteInput → State → List ℕ
write_tells input s =
    cond (is_arithmetic (record_of s) && is_stored s.kept.write)
    (location_case s.kept.write ++ (value_of (result_in (sources_in input s).src0.value (sources_in input s).src1.value s).0 ∷ 0 ∷ []))
    (0 ∷ [])

-- a near call opens a frame, a return closes one; revert and panic count as panicked
abbrev pub event_tells : State → List ℕ
event_tells s = cond (is_near_call (record_of s)) (1 ∷ []) (cond (is_return (record_of s)) (2 ∷ bool_byte (not (is_return_ok (record_of s))) ∷ []) (0 ∷ []))

abbrev pub execute_tells : ℕ → Settings → ExecuteInput → State → List ℕ → List (List ℕ)
execute_tells w settings input s store = cond (execute_refusal w settings input s store == 0) (write_tells input s ∷ event_tells s ∷ []) []
