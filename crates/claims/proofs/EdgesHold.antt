-- The edges, by computation. Assumes nothing.
use mathlib.Core.Path.{refl}
use Rattle.frame.specs.Fields.{with_ergs, with_sp, with_pc}
use Rattle.frame.specs.Kernel.{kernel_mode}
use Rattle.frame.specs.Store.{saved_store}
use Rattle.u256.specs.U256.{overflowing_sum, overflowing_difference, is_zero, low_of}
use Rattle.records.specs.Record.{bad_records}
use Rattle.decoding.specs.Charge.{error_flags}
use Rattle.addressing.specs.Address.{source_at, destination_at, places_of}
use Rattle.addressing.specs.Sources.{sources_of}
use Rattle.operations.specs.NearCall.{caller_of, opened_of}
use Rattle.operations.specs.Arithmetic.{flags_after}
use Rattle.stages.specs.Effects.{finished_state, moved_state, written_state, switched_state}
use Rattle.decoding.specs.Code.{code_bits}
use Rattle.stages.specs.Fetch.{query_of, fetched_state, fetch_done, fetch_of}
use Rattle.stages.specs.Decode.{decoded_state, decode_done, decode_of}
use Rattle.stages.specs.Operands.{addressed_state, operands_done, operands_of}
use Rattle.stages.specs.Helpers.{nop_done}
use Rattle.stages.specs.NearCall.{near_call_done}
use Rattle.stages.specs.Arithmetic.{arithmetic_done}
use Rattle.stages.specs.Execute.{execute_done, execute_of, execute_store}
use Rattle.cycle.specs.Cycle.{cycle_of}
use Rattle.claims.specs.Edges.{edges, AllHold}

pub edges_hold : AllHold edges
unfolding with_ergs with_sp with_pc kernel_mode saved_store overflowing_sum overflowing_difference is_zero low_of bad_records error_flags source_at destination_at places_of sources_of caller_of opened_of flags_after finished_state moved_state written_state switched_state query_of code_bits fetched_state fetch_done fetch_of decoded_state decode_done decode_of addressed_state operands_done operands_of nop_done near_call_done arithmetic_done execute_done execute_of execute_store cycle_of
edges_hold =
    (refl, (refl, (refl, (refl, (refl, (refl, (refl, (refl, (refl, (refl, (refl, (refl, (refl, (refl, (refl, (refl, tt))))))))))))))))
