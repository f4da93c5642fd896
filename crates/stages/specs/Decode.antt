-- Decode. Document 01: "Price is 0 when ended. Price above ergs: ergs become 0 and NOT_ENOUGH_ERGS is set." "Some flag set: the panic record is kept.
-- Otherwise condition false: the nop record. The delayed changes show from here. The answer gives the flags and the charge." Demand 3: "A charge is the smaller of
-- the price and the ergs held."
use Rattle.std.specs.Prelude.{ℕ, ◌-◌, min, false, cond, List, None, Ok, is_some, unwrap_or}
use Rattle.refusal.specs.Refusal.{first_of}
use Rattle.frame.specs.Fields.{with_ergs}
use Rattle.records.specs.declared.Settings.{Settings}
use Rattle.records.specs.declared.Record.{Record}
use Rattle.records.specs.declared.Records.{Records}
use Rattle.addressing.specs.declared.Location.{Location}
use Rattle.decoding.specs.Code.{super_pc}
use Rattle.decoding.specs.Charge.{price_of, any_error}
use Rattle.decoding.specs.Condition.{condition_holds}
use Rattle.stages.specs.declared.State.{State}
use Rattle.stages.specs.declared.Staged.{Staged}
use Rattle.stages.specs.declared.DecodeAnswer.{DecodeAnswer}
use Rattle.stages.specs.State.{at_operands, is_ended, refused_with, settled}
use Rattle.stages.specs.Checks.{errors_of, decode_checks}

-- the price of the plain record, and the charge
abbrev pub price_in : Records → State → ℕ
price_in records s = price_of (is_ended s) records.plain.price

abbrev pub charge_in : Records → State → ℕ
charge_in records s = min (price_in records s) s.current.ergs_remaining

-- the record that is kept
abbrev pub kept_of : Settings → Records → State → Record
kept_of settings records s =
    cond (any_error (errors_of settings records s)) records.panic
    (cond (condition_holds records.plain.condition s.flags) records.plain records.nop)

abbrev pub decode_refusal : Settings → Records → State → List ℕ → ℕ
decode_refusal settings records s store = first_of (decode_checks settings records s store)

-- the delayed changes: the word that fetch read, if any, and its super pc; the code page; no exception pending. Then the ergs and the kept record.
unfoldable pub decoded_state : State → ℕ → Record → State
decoded_state s ergs instruction = record {
  current = with_ergs s.current ergs;
  previous_code_word = unwrap_or s.fetched_word s.previous_code_word;
  fetched_word = None;
  kept = record { instruction = instruction; write = Location.None };
  previous_code_memory_page = s.current.code_page;
  previous_super_pc = cond (is_some s.fetched_word) (super_pc s.current.pc) s.previous_super_pc;
  stage = at_operands;
  pending_exception = false;
  -- the rest as it was
  registers = s.registers;
  flags = s.flags;
  timestamp = s.timestamp;
  monotonic_cycle_counter = s.monotonic_cycle_counter;
  depth = s.depth;
  pubdata_revert_counter = s.pubdata_revert_counter;
  pointers = s.pointers;
}

unfoldable pub decode_done : Settings → Records → State → Staged DecodeAnswer
decode_done settings records s = record {
  state = decoded_state s (s.current.ergs_remaining - price_in records s) (kept_of settings records s);
  answer = Ok (record { charge = charge_in records s; errors = errors_of settings records s });
}

unfoldable pub decode_of : Settings → Records → State → List ℕ → Staged DecodeAnswer
decode_of settings records s store =
    settled (decode_refusal settings records s store) (refused_with s) (decode_done settings records s)
