-- Document 01's listing as a list of stage calls, with refused ones between: its figures come out by computation, and the claim on near calls applies to it. The
-- request of a near call is the word that execute is given, as no call of a stage sets a register. Assumes nothing.
use Prim.Native.Nat.{ℕ, zero, suc, ◌+◌, ◌<◌}
use mathlib.Core.Bool.{false}
use mathlib.Core.Logic.{◌≢◌}
use mathlib.Core.Path.{◌≡◌, refl}
use mathlib.Core.List.{List, [], ◌∷◌, ◌++◌, map}
use mathlib.Core.Option.{none}
use native.Mathlib.Omega.{arith}
use native.Mathlib.Nat.{lt_irrefl}
use lib.ListN.{take, drop}
use Rattle.u256.specs.U256.{empty_word, low_of}
use Rattle.frame.specs.Fields.{with_ergs, with_sp, with_pc}
use Rattle.frame.specs.Kernel.{kernel_mode}
use Rattle.frame.specs.Row.{row_of, frame_of}
use Rattle.frame.specs.Store.{saved_store, saved_ergs}
use Rattle.signed.specs.Signed.{checked_of, word_of, signed_of}
use Rattle.u256.specs.U256.{one_word, overflowing_sum, overflowing_difference, is_zero}
use Rattle.decoding.specs.Code.{code_bits}
use Rattle.records.specs.Record.{bad_records, instruction}
use Rattle.records.specs.declared.OperandFields.{OperandFields}
use Rattle.decoding.specs.Charge.{error_flags}
use Rattle.addressing.specs.Address.{source_at, destination_at, places_of}
use Rattle.addressing.specs.Sources.{sources_of}
use Rattle.operations.specs.NearCall.{caller_of, opened_of}
use Rattle.operations.specs.Ret.{resumed_with, resumed_of}
use Rattle.operations.specs.Arithmetic.{flags_after}
use Rattle.stages.specs.declared.State.{State}
use Rattle.stages.specs.Effects.{finished_state, moved_state, written_state, switched_state}
use Rattle.stages.specs.Fetch.{fetched_state, fetch_done, fetch_of}
use Rattle.stages.specs.Decode.{decoded_state, decode_done, decode_of}
use Rattle.stages.specs.Operands.{addressed_state, operands_done, operands_of}
use Rattle.stages.specs.Helpers.{nop_done}
use Rattle.stages.specs.NearCall.{near_call_done}
use Rattle.stages.specs.Arithmetic.{arithmetic_done}
use Rattle.stages.specs.Ret.{close_done}
use Rattle.stages.specs.Execute.{execute_done, execute_of, execute_store}
use Rattle.lists.specs.Machine.{Outcome, near_call, charge_of}
use Rattle.lists.specs.Lists.{Call, fetch, decode, operands, execute, CallMade, made, trace, finished_of, Cycle, calls_made, charge, charges, operation, opened, closed, sum, before, result, outcome_of, InTurn}
use Rattle.lists.specs.Claims.{ClosesWithLast, CallerResumes, span}
use Rattle.lists.proofs.Resume.{callers_resume}
use Rattle.claims.specs.Core.{lasting_of, core, execute_outcome}
use Rattle.claims.proofs.CoreLaws.{laws}
use Rattle.start.specs.Start.{records_of, start_state, settings_of, empty_store}

-- a source on the code page
abbrev from_code : OperandFields
from_code = record { source_kind = 4; destination_kind = 0; src0 = 0; src1 = 0; dst0 = 0; imm_0 = 0; imm_1 = 0 }

-- a line of the listing: operation, return kind, price, request. Operands are called with a limit of 0, which is refusal 1, and fetch out of its turn, which is 2.
abbrev pub line : ℕ → ℕ → ℕ → ℕ → List (Call core)
line operation kind price want =
    fetch (record { settings = settings_of 4 1; word = empty_word })
    ∷ decode (record { settings = settings_of 4 1; records = records_of (instruction operation kind from_code price false) })
    ∷ operands (settings_of 0 1)
    ∷ operands (settings_of 4 1)
    ∷ fetch (record { settings = settings_of 4 1; word = one_word 7 })
    ∷ execute (record { settings = settings_of 4 1; input = record { word = one_word want; pointer = false } })
    ∷ []

abbrev pub listing : List (Call core)
listing = line 1 0 6 0 ++ (line 3 0 25 300 ++ (line 1 0 6 0 ++ (line 4 0 5 0 ++ (line 3 0 25 0 ++ line 4 1 5 0))))

abbrev pub start : State
start = start_state 1000 0

-- of a finished decode the charge; of a finished execute the depth, the ergs of the frame that is current then, and those of all frames
abbrev pub figure : CallMade core → List ℕ
figure (made (fetch x) s store) = []
figure (made (decode x) s store) = charge_of core x s ∷ []
figure (made (operands x) s store) = []
figure (made (execute x) s store) =
    let o = execute_outcome x s store in
    o.state.depth ∷ o.state.current.ergs_remaining ∷ (o.state.current.ergs_remaining + saved_ergs o.state.depth o.store) ∷ []

abbrev pub joined : List (List ℕ) → List ℕ
joined [] = []
joined (l ∷ ls) = l ++ joined ls

-- charge, depth, held and total of the six lines
pub figures : joined (map figure (finished_of core (trace core listing start (empty_store 4))))
    ≡ (6 ∷ 1 ∷ 994 ∷ 994 ∷ [])
    ++ ((25 ∷ 2 ∷ 300 ∷ 969 ∷ [])
    ++ ((6 ∷ 2 ∷ 294 ∷ 963 ∷ []) ++ ((5 ∷ 1 ∷ 958 ∷ 958 ∷ []) ++ ((25 ∷ 2 ∷ 933 ∷ 933 ∷ []) ++ (5 ∷ 1 ∷ 928 ∷ 928 ∷ [])))))
unfolding finished_of trace charge_of with_ergs with_sp with_pc kernel_mode low_of checked_of word_of signed_of overflowing_sum overflowing_difference is_zero code_bits bad_records error_flags source_at destination_at places_of sources_of caller_of opened_of resumed_with resumed_of saved_store flags_after finished_state moved_state written_state switched_state fetched_state fetch_done fetch_of decoded_state decode_done decode_of addressed_state operands_done operands_of nop_done near_call_done arithmetic_done close_done execute_done execute_of execute_store
figures = refl

-- ---- the first near call, from its own cycle to the one that closes its frame: the premises of the claim hold, and so does what it says
abbrev made_calls : List (CallMade core)
made_calls = finished_of core (trace core listing start (empty_store 4))

-- what calls from the start lead to
abbrev pub run : List (Call core) → State → List ℕ → Outcome State
run [] s store = record { refusal = none; state = s; store = store }
run (c ∷ cs) s store = run cs (outcome_of core c s store).state (outcome_of core c s store).store

-- the cycle of a line that comes after these calls: of its six, the first, second, fourth and sixth
abbrev pub cycle_of : List (Call core) → ℕ → ℕ → ℕ → ℕ → Cycle core
cycle_of earlier operation kind price want = record {
  fetch = record { input = record { settings = settings_of 4 1; word = empty_word }; state = (at 0).state; store = (at 0).store };
  decode = record {
    input = record { settings = settings_of 4 1; records = records_of (instruction operation kind from_code price false) };
    state = (at 1).state;
    store = (at 1).store;
  };
  operands = record { input = settings_of 4 1; state = (at 3).state; store = (at 3).store };
  execute = record { input = record { settings = settings_of 4 1; input = record { word = one_word want; pointer = false } }; state = (at 5).state; store = (at 5).store };
}
  where
    at : ℕ → Outcome State
    at n = run (earlier ++ take n (line operation kind price want)) start (empty_store 4)

abbrev pub call : Cycle core
call = cycle_of (line 1 0 6 0) 3 0 25 300

abbrev pub add : Cycle core
add = cycle_of (line 1 0 6 0 ++ line 3 0 25 300) 1 0 6 0

abbrev pub close : Cycle core
close = cycle_of (line 1 0 6 0 ++ (line 3 0 25 300 ++ line 1 0 6 0)) 4 0 5 0

abbrev pub calling : List (Cycle core)
calling = span core call (add ∷ []) close

in_turn : InTurn core listing start (empty_store 4) calling
unfolding calls_made finished_of trace charge_of with_ergs with_sp with_pc kernel_mode low_of checked_of word_of signed_of overflowing_sum overflowing_difference is_zero code_bits bad_records error_flags source_at destination_at places_of sources_of caller_of opened_of resumed_with resumed_of saved_store flags_after finished_state moved_state written_state switched_state fetched_state fetch_done fetch_of decoded_state decode_done decode_of addressed_state operands_done operands_of nop_done near_call_done arithmetic_done close_done execute_done execute_of execute_store
in_turn = record { earlier = take 4 made_calls; later = drop 16 made_calls; found = refl }

opens_frame : operation core call ≡ near_call
unfolding operation finished_of trace charge_of with_ergs with_sp with_pc kernel_mode low_of checked_of word_of signed_of overflowing_sum overflowing_difference is_zero code_bits bad_records error_flags source_at destination_at places_of sources_of caller_of opened_of resumed_with resumed_of saved_store flags_after finished_state moved_state written_state switched_state fetched_state fetch_done fetch_of decoded_state decode_done decode_of addressed_state operands_done operands_of nop_done near_call_done arithmetic_done close_done execute_done execute_of execute_store
opens_frame = refl

closes_last : ClosesWithLast core calling
unfolding operation opened closed sum finished_of trace charge_of with_ergs with_sp with_pc kernel_mode low_of checked_of word_of signed_of overflowing_sum overflowing_difference is_zero code_bits bad_records error_flags source_at destination_at places_of sources_of caller_of opened_of resumed_with resumed_of saved_store flags_after finished_state moved_state written_state switched_state fetched_state fetch_done fetch_of decoded_state decode_done decode_of addressed_state operands_done operands_of nop_done near_call_done arithmetic_done close_done execute_done execute_of execute_store
closes_last = record { as_many = refl; not_before = before_last }
  where
    some : ◌≡◌ {A = ℕ} 1 0 → ⊥
    some e = omega arith

    none : (i : ℕ) → suc (suc (suc i)) < 3 → ⊥
    none i h = omega arith

    before_last : (i : ℕ) → 0 < i → i < 3 → opened core (take i calling) ≢ closed core (take i calling)
    before_last zero h k e = absurd (lt_irrefl 0 h)
    before_last (suc zero) h k e = some e
    before_last (suc (suc zero)) h k e = some e
    before_last (suc (suc (suc i))) h k e = absurd (none i k)

pub resumes : CallerResumes core call close (charges core calling)
resumes = callers_resume core laws listing start (empty_store 4) call (add ∷ []) close in_turn opens_frame closes_last

-- 994 before the call, 958 after the close, and 25 + 6 + 5 charged between
pub resumed_figures : (core.ergs (before core call) ≡ 994) × (core.ergs (result core close).state ≡ 958) × (charges core calling ≡ 36)
unfolding charge charges sum finished_of trace charge_of with_ergs with_sp with_pc kernel_mode low_of checked_of word_of signed_of overflowing_sum overflowing_difference is_zero code_bits bad_records error_flags source_at destination_at places_of sources_of caller_of opened_of resumed_with resumed_of saved_store flags_after finished_state moved_state written_state switched_state fetched_state fetch_done fetch_of decoded_state decode_done decode_of addressed_state operands_done operands_of nop_done near_call_done arithmetic_done close_done execute_done execute_of execute_store
resumed_figures = (refl, refl, refl)

-- the called frame has the counter before the call's cycle, the second; its caller, current where the listing starts, has its 0 before and after
pub opening_figures : ((result core call).state.current.opening_cycle ≡ 1)
    × ((before core call).current.opening_cycle ≡ 0)
    × ((result core close).state.current.opening_cycle ≡ 0)
unfolding charge charges sum finished_of trace charge_of with_ergs with_sp with_pc kernel_mode low_of checked_of word_of signed_of overflowing_sum overflowing_difference is_zero code_bits bad_records error_flags source_at destination_at places_of sources_of caller_of opened_of resumed_with resumed_of saved_store flags_after finished_state moved_state written_state switched_state fetched_state fetch_done fetch_of decoded_state decode_done decode_of addressed_state operands_done operands_of nop_done near_call_done arithmetic_done close_done execute_done execute_of execute_store
opening_figures = (refl, refl, refl)

-- ---- what lasts of a frame, on one whose words all differ: all but sp, pc, ergs, the two heap bounds and pubdata
abbrev words : List ℕ
words = 1 ∷ 2 ∷ 3 ∷ 4 ∷ 5 ∷ 6 ∷ 7 ∷ 8 ∷ 9 ∷ 10 ∷ 11 ∷ 12 ∷ 13 ∷ 14 ∷ 15 ∷ 16 ∷ 17 ∷ 18 ∷ 19 ∷ 20 ∷ 21 ∷ 22 ∷ 23 ∷ 24 ∷ 1 ∷ 1 ∷ 27 ∷ 28 ∷ 29 ∷ 30 ∷ 31 ∷ 32 ∷ 33 ∷ 34 ∷ 35 ∷ []

pub lasts : row_of (lasting_of (frame_of words)) ≡ 1 ∷ 2 ∷ 3 ∷ 4 ∷ 5 ∷ 6 ∷ 7 ∷ 8 ∷ 9 ∷ 10 ∷ 11 ∷ 12 ∷ 13 ∷ 14 ∷ 15 ∷ 16 ∷ 17 ∷ 0 ∷ 0 ∷ 20 ∷ 0 ∷ 22 ∷ 23 ∷ 24 ∷ 1 ∷ 1 ∷ 27 ∷ 28 ∷ 29 ∷ 30 ∷ 0 ∷ 0 ∷ 0 ∷ 34 ∷ 35 ∷ []
unfolding lasting_of word_of signed_of
lasts = refl
