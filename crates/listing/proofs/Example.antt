-- Document 01's listing, computed: its input gives its output, byte for byte. Assumes nothing.
use mathlib.Core.Path.{◌≡◌, refl}
use Rattle.u256.specs.U256.{low_of}
use Rattle.frame.specs.Fields.{with_ergs, with_sp, with_pc}
use Rattle.frame.specs.Kernel.{kernel_mode}
use Rattle.frame.specs.Store.{saved_store}
use Rattle.signed.specs.Signed.{checked_of, word_of, signed_of}
use Rattle.u256.specs.U256.{overflowing_sum, overflowing_difference, is_zero}
use Rattle.decoding.specs.Code.{code_bits}
use Rattle.records.specs.Record.{bad_records}
use Rattle.decoding.specs.Charge.{error_flags}
use Rattle.addressing.specs.Address.{source_at, destination_at, places_of}
use Rattle.addressing.specs.Sources.{sources_of}
use Rattle.operations.specs.NearCall.{caller_of, opened_of}
use Rattle.operations.specs.Ret.{resumed_with, resumed_of}
use Rattle.operations.specs.Arithmetic.{flags_after}
use Rattle.stages.specs.Effects.{finished_state, moved_state, written_state, switched_state}
use Rattle.stages.specs.Fetch.{fetched_state, fetch_done, fetch_of, query_of}
use Rattle.stages.specs.Decode.{decoded_state, decode_done, decode_of}
use Rattle.stages.specs.Operands.{addressed_state, operands_done, operands_of}
use Rattle.stages.specs.Helpers.{nop_done}
use Rattle.stages.specs.NearCall.{near_call_done}
use Rattle.stages.specs.Arithmetic.{arithmetic_done}
use Rattle.stages.specs.Ret.{close_done}
use Rattle.stages.specs.Execute.{execute_done, execute_of, execute_store}
use Rattle.cycle.specs.Cycle.{cycle_of, cycle_store}
use Rattle.tally.specs.Tally.{enter_of, tally_after}
use Rattle.text.specs.Bytes.{bytes_of}
use Rattle.text.specs.Number.{number_in}
use Rattle.text.specs.Pair.{pair_in}
use Rattle.table.specs.Line.{op_of, line_of, start_of}
use Rattle.line_cycle.specs.LineCycle.{input_of, requested_state, line_answer, store_after, entries_after, printed_row}
use Rattle.listing.specs.Listing.{from_columns_line, from_values_line, from_names_line, listing_of}

pub example : listing_of (bytes_of "ergs limit\n1000 4\nop price want\nadd 6 0\ncall 25 300\nadd 6 0\nok 5 0\ncall 25 0\nrevert 5 0\n")
    ≡ bytes_of "cycle op charge depth held total own\n1 add 6 1 994 994 6\n2 call 25 2 300 969 0\n3 add 6 2 294 963 6\n4 ok 5 1 958 958 42\n5 call 25 2 933 933 0\n6 revert 5 1 928 928 72\n"
unfolding listing_of from_names_line from_values_line from_columns_line number_in pair_in op_of line_of start_of input_of requested_state line_answer store_after entries_after printed_row cycle_of cycle_store enter_of tally_after query_of with_ergs with_sp with_pc kernel_mode low_of checked_of word_of signed_of overflowing_sum overflowing_difference is_zero code_bits bad_records error_flags source_at destination_at places_of sources_of caller_of opened_of resumed_with resumed_of saved_store flags_after finished_state moved_state written_state switched_state fetched_state fetch_done fetch_of decoded_state decode_done decode_of addressed_state operands_done operands_of nop_done near_call_done arithmetic_done close_done execute_done execute_of execute_store
example = refl
