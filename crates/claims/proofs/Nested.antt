-- A near call inside a near call, the inner frame closed by a panic for lack of ergs: the claim on near calls applies to the outer one, and its figures come out by
-- computation. Assumes nothing.
use Prim.Native.Nat.{ℕ, zero, suc, ◌<◌}
use mathlib.Core.Logic.{◌≢◌}
use mathlib.Core.Path.{◌≡◌, refl, sym, ap, ◌∙◌}
use mathlib.Core.List.{List, [], ◌∷◌, ◌++◌, map}
use native.Mathlib.Omega.{arith}
use native.Mathlib.Nat.{lt_irrefl}
use lib.ListN.{get_or, take}
use Rattle.frame.specs.Fields.{with_ergs, with_sp, with_pc}
use Rattle.frame.specs.Kernel.{kernel_mode}
use Rattle.frame.specs.Store.{saved_store}
use Rattle.signed.specs.Signed.{checked_of, word_of, signed_of}
use Rattle.u256.specs.U256.{low_of, overflowing_sum, overflowing_difference, is_zero}
use Rattle.decoding.specs.Code.{code_bits}
use Rattle.records.specs.Record.{bad_records}
use Rattle.decoding.specs.Charge.{error_flags}
use Rattle.addressing.specs.Address.{source_at, destination_at, places_of}
use Rattle.addressing.specs.Sources.{sources_of}
use Rattle.operations.specs.NearCall.{caller_of, opened_of}
use Rattle.operations.specs.Ret.{resumed_with, resumed_of}
use Rattle.operations.specs.Arithmetic.{flags_after}
use Rattle.stages.specs.Effects.{finished_state, moved_state, written_state, switched_state}
use Rattle.stages.specs.Fetch.{fetched_state, fetch_done, fetch_of}
use Rattle.stages.specs.Decode.{decoded_state, decode_done, decode_of}
use Rattle.stages.specs.Operands.{addressed_state, operands_done, operands_of}
use Rattle.stages.specs.Helpers.{nop_done}
use Rattle.stages.specs.NearCall.{near_call_done}
use Rattle.stages.specs.Arithmetic.{arithmetic_done}
use Rattle.stages.specs.Ret.{close_done}
use Rattle.stages.specs.Execute.{execute_done, execute_of, execute_store}
use Rattle.lists.specs.Machine.{FrameOperation, near_call, ret, neither, charge_of}
use Rattle.lists.specs.Lists.{Call, trace, finished_of, Cycle, calls_made, charge, charges, operation, opened, closed, sum, before, result, share, InTurn}
use Rattle.lists.specs.Claims.{ClosesWithLast, CallerResumes, span}
use Rattle.lists.proofs.Resume.{callers_resume}
use Rattle.claims.specs.Core.{core}
use Rattle.claims.proofs.CoreLaws.{laws}
use Rattle.start.specs.Start.{empty_store}
use Rattle.claims.proofs.Example.{line, start, cycle_of}

-- a near call that requests 300; in its frame one that requests 100; in that an add at a price of 500; then a return ok
abbrev calls : List (Call core)
calls = line 3 0 25 300 ++ (line 3 0 25 100 ++ (line 1 0 500 0 ++ line 4 0 5 0))

abbrev outer : Cycle core
outer = cycle_of [] 3 0 25 300

abbrev inner : Cycle core
inner = cycle_of (line 3 0 25 300) 3 0 25 100

-- the add that becomes a panic, as 100 ergs are held
abbrev short : Cycle core
short = cycle_of (line 3 0 25 300 ++ line 3 0 25 100) 1 0 500 0

abbrev last : Cycle core
last = cycle_of (line 3 0 25 300 ++ (line 3 0 25 100 ++ line 1 0 500 0)) 4 0 5 0

abbrev cycles : List (Cycle core)
cycles = span core outer (inner ∷ short ∷ []) last

-- All that the claim asks of the four cycles, and its figures: the outer caller holds 1000 before and 845 after, of which it kept 675 back and 300 were passed. The
-- inner frame loses the 100 ergs that it held and no more.
pub figures : (finished_of core (trace core calls start (empty_store 4)) ≡ calls_made core cycles)
    × (map (operation core) cycles ≡ near_call ∷ near_call ∷ ret ∷ ret ∷ [])
    × (map (charge core) cycles ≡ 25 ∷ 25 ∷ 100 ∷ 5 ∷ [])
    × (map (λ (i : ℕ). opened core (take i cycles)) (1 ∷ 2 ∷ 3 ∷ 4 ∷ []) ≡ 1 ∷ 2 ∷ 2 ∷ 2 ∷ [])
    × (map (λ (i : ℕ). closed core (take i cycles)) (1 ∷ 2 ∷ 3 ∷ 4 ∷ []) ≡ 0 ∷ 0 ∷ 1 ∷ 2 ∷ [])
    × (charges core cycles ≡ 155)
    × (core.ergs (before core outer) ≡ 1000)
    × (core.ergs (result core last).state ≡ 845)
    × (share core outer ≡ 675)
    × (core.passes outer.execute.input outer.execute.state ≡ 300)
unfolding calls_made operation opened closed sum charge charges share finished_of trace charge_of with_ergs with_sp with_pc kernel_mode low_of checked_of word_of signed_of overflowing_sum overflowing_difference is_zero code_bits bad_records error_flags source_at destination_at places_of sources_of caller_of opened_of resumed_with resumed_of saved_store flags_after finished_state moved_state written_state switched_state fetched_state fetch_done fetch_of decoded_state decode_done decode_of addressed_state operands_done operands_of nop_done near_call_done arithmetic_done close_done execute_done execute_of execute_store
figures = (refl, refl, refl, refl, refl, refl, refl, refl, refl, refl)

in_turn : InTurn core calls start (empty_store 4) cycles
unfolding calls_made
in_turn = record { earlier = []; later = []; found = figures.0 }

opens_frame : operation core outer ≡ near_call
opens_frame = ap (λ (l : List FrameOperation). get_or l 0 neither) figures.1

closes_last : ClosesWithLast core cycles
closes_last = record { as_many = nth 3 figures.3 ∙ sym (nth 3 figures.4); not_before = before_last }
  where
    nth : {l m : List ℕ} (i : ℕ) → l ≡ m → get_or l i 0 ≡ get_or m i 0
    nth i e = ap (λ (l : List ℕ). get_or l i 0) e

    before_last : (i : ℕ) → 0 < i → i < 4 → opened core (take i cycles) ≢ closed core (take i cycles)
    before_last zero h k e = absurd (lt_irrefl 0 h)
    before_last (suc zero) h k e = omega (arith, nth 0 figures.3, nth 0 figures.4, e)
    before_last (suc (suc zero)) h k e = omega (arith, nth 1 figures.3, nth 1 figures.4, e)
    before_last (suc (suc (suc zero))) h k e = omega (arith, nth 2 figures.3, nth 2 figures.4, e)
    before_last (suc (suc (suc (suc i)))) h k e = omega arith

-- the claim, applied to the outer near call
pub resumes : CallerResumes core outer last (charges core cycles)
resumes = callers_resume core laws calls start (empty_store 4) outer (inner ∷ short ∷ []) last in_turn opens_frame closes_last
