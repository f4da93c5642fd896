-- The edges that document 01 marks P, in its words and order, and then the times of document 02's CR 1, each computed by the definitions that the stages are proved
-- equal to.
use Rattle.std.specs.Prelude.{ℕ, ◌-◌, ◌^◌, true, false, ◌≡◌, List, [], ◌∷◌, ◌++◌, Option, None, Some, Result, Ok, Err, replicate}
use mir.Val.{bool_byte}
use Rattle.u256.specs.U256.{empty_word, value_of, words_of, one_word}
use Rattle.refusal.specs.declared.Refusal.{Refusal}
use Rattle.refusal.specs.Refusal.{paper_number}
use Rattle.frame.specs.Row.{frame_of}
use Rattle.frame.specs.Store.{row_at}
use Rattle.registers.specs.Registers.{register_of}
use Rattle.records.specs.declared.Flags.{Flags}
use Rattle.records.specs.declared.OperandFields.{OperandFields}
use Rattle.records.specs.Record.{instruction, from_register}
use Rattle.decoding.specs.Charge.{any_error}
use Rattle.stages.specs.declared.State.{State}
use Rattle.stages.specs.declared.Staged.{Staged}
use Rattle.stages.specs.declared.DecodeAnswer.{DecodeAnswer}
use Rattle.stages.specs.declared.ExecuteInput.{ExecuteInput}
use Rattle.stages.specs.declared.OperandsAnswer.{OperandsAnswer}
use Rattle.stages.specs.declared.Event.{Event}
use Rattle.stages.specs.declared.ExecuteAnswer.{ExecuteAnswer}
use Rattle.stages.specs.State.{at_fetch, at_decode, at_operands, at_execute}
use Rattle.stages.specs.Effects.{finished_state, moved_state, no_record}
use Rattle.stages.specs.Fetch.{query_of, fetch_of}
use Rattle.stages.specs.Decode.{decode_of}
use Rattle.stages.specs.Operands.{operands_of}
use Rattle.stages.specs.Execute.{execute_of, execute_store}
use Rattle.stages.specs.Answers.{location_case, write_case, fetch_case}
use Rattle.cycle.specs.declared.Input.{Input}
use Rattle.cycle.specs.declared.CycleAnswer.{CycleAnswer}
use Rattle.cycle.specs.declared.CycleRefusal.{CycleRefusal}
use Rattle.cycle.specs.Cycle.{cycle_of}
use Rattle.start.specs.Start.{records_of, state_at, settings_of, empty_store}

pub record Edge : Type 0 where
  pub computed : List ℕ
  pub stated : List ℕ

-- decode of an add with this price at so many ergs: the ergs left, whether there is a flag, NOT_ENOUGH_ERGS, the charge, the operation and the return kind kept
abbrev figures : State → Result DecodeAnswer Refusal → List ℕ
figures s (Ok answer) =
    s.current.ergs_remaining
    ∷ bool_byte (any_error answer.errors)
    ∷ bool_byte answer.errors.not_enough_ergs
    ∷ answer.charge
    ∷ s.kept.instruction.operation
    ∷ s.kept.instruction.return_kind
    ∷ []
figures s (Err refusal) = paper_number refusal ∷ []

abbrev pub decodes : ℕ → ℕ → List ℕ
decodes ergs price = figures after.state after.answer
  where
    after : Staged DecodeAnswer
    after =
        decode_of (settings_of 4 1) (records_of (instruction 1 0 (from_register 0) price false)) (state_at at_decode (replicate 15 empty_word) ergs 0 no_record)
        (empty_store 4)

-- a near call that requests so much, at this multiplier and so many ergs: the depth afterwards, what is given, and what is kept in the caller's row
abbrev opening : State → Option Event → List ℕ → List ℕ
opening s (Some Event.Opened) row = s.depth ∷ s.current.ergs_remaining ∷ (frame_of row).ergs_remaining ∷ []
opening s (Some (Event.Closed panicked)) row = []
opening s None row = []

abbrev division : State → Result ExecuteAnswer Refusal → List ℕ → List ℕ
division s (Ok answer) row = opening s answer.event row
division s (Err refusal) row = paper_number refusal ∷ []

-- no word is read
abbrev no_input : ExecuteInput
no_input = record { word = empty_word; pointer = false }

abbrev pub calls : ℕ → ℕ → ℕ → List ℕ
calls multiplier held want =
    division after.state after.answer (row_at (execute_store 16 (settings_of 4 multiplier) no_input s (empty_store 4)) 1)
  where
    s : State
    s = state_at at_execute (one_word want ∷ replicate 14 empty_word) held 0 (instruction 3 0 (from_register 1) 0 false)

    after : Staged ExecuteAnswer
    after = execute_of 16 (settings_of 4 multiplier) no_input s (empty_store 4)

-- operands of an add of these kinds (2 is push/pop) with these immediates, at this sp and time 0: the source and the destination, each 0 for none or 1, memory kind,
-- page, index and time, and sp afterwards
abbrev places : State → Result OperandsAnswer Refusal → List ℕ
places s (Ok answer) = location_case answer.source ++ (location_case answer.destination ++ (s.current.sp ∷ []))
places s (Err refusal) = paper_number refusal ∷ []

-- operands of these kinds and immediates
abbrev placed : ℕ → ℕ → ℕ → ℕ → OperandFields
placed source destination imm0 imm1 = record { source_kind = source; destination_kind = destination; src0 = 0; src1 = 0; dst0 = 0; imm_0 = imm0; imm_1 = imm1 }

abbrev pub addresses : ℕ → ℕ → ℕ → ℕ → ℕ → List ℕ
addresses source destination imm0 imm1 sp = places after.state after.answer
  where
    after : Staged OperandsAnswer
    after = operands_of 16 (settings_of 4 1) (state_at at_operands (replicate 15 empty_word) 0 sp (instruction 1 0 (placed source destination imm0 imm1) 0 false)) (empty_store 4)

-- an operation (1 add, 2 sub) of registers 1 and 2 into register 3, with set flags: the result, then overflow, equal, greater
abbrev bits : Flags → List ℕ
bits f = bool_byte f.overflow_or_less_than_flag ∷ bool_byte f.equality_flag ∷ bool_byte f.greater_than_flag ∷ []

-- these three registers
abbrev combined : OperandFields
combined = record { source_kind = 0; destination_kind = 0; src0 = 1; src1 = 2; dst0 = 3; imm_0 = 0; imm_1 = 0 }

abbrev pub combines : ℕ → ℕ → ℕ → List ℕ
combines operation a b = value_of (register_of after.registers 3) ∷ bits after.flags
  where
    after : State
    after =
        (execute_of 16 (settings_of 4 1) no_input
        (state_at at_execute (words_of a ∷ words_of b ∷ replicate 13 empty_word) 0 0 (instruction operation 0 combined 0 true)) (empty_store 4)).state

-- a nop at this pc: the code word that the query asks for, as a location; what fetch answers, 0 for code and the part of the word (each part holds its number, the
-- highest 64 bits 0); and pc afterwards
abbrev pub steps : ℕ → List ℕ
steps pc =
    location_case (query_of (at at_fetch))
    ++ (fetch_case (fetch_of (settings_of 4 1) (record { w0 = 3; w1 = 2; w2 = 1; w3 = 0 }) (at at_fetch) (empty_store 4)).answer
    ++ ((execute_of 16 (settings_of 4 1) no_input (at at_execute) (empty_store 4)).state.current.pc ∷ []))
  where
    at : ℕ → State
    at stage = moved_state (state_at stage (replicate 15 empty_word) 0 0 no_record) pc

-- a whole cycle of an operation (1 add, 3 near call) with a pop of 1 and a push of 2, at time 8, sp 10 and pc 65,535: the code read, the source and the destination,
-- each with its time, and the write
abbrev times : Result CycleAnswer CycleRefusal → List ℕ
times (Ok answer) =
    location_case answer.read
    ++ (location_case answer.operands.source ++ (location_case answer.operands.destination ++ write_case answer.execute.write))
times (Err refused) = paper_number refused.refusal ∷ []

abbrev pub timed : ℕ → List ℕ
timed operation = times (cycle_of input s (empty_store 4)).answer
  where
    s : State
    s = moved_state (finished_state (state_at at_fetch (replicate 15 empty_word) 0 10 no_record) 8 0) 65535

    input : Input
    input = record {
      code = empty_word;
      execute = no_input;
      settings = settings_of 4 1;
      records = records_of (instruction operation 0 (placed 2 2 1 2) 0 false);
    }

abbrev pub edges : List Edge
edges =
    -- "ergs 100: price 100 leaves 0, no flag; price 101 leaves 0, panic, charge 100"
    record { computed = decodes 100 100; stated = 0 ∷ 0 ∷ 0 ∷ 100 ∷ 1 ∷ 0 ∷ [] }
    ∷ record { computed = decodes 100 101; stated = 0 ∷ 1 ∷ 1 ∷ 100 ∷ 4 ∷ 2 ∷ [] }
    -- "held 969: want 300 gives 300 and keeps 669; want 0, 969 or 970 gives 969 and keeps 0"
    ∷ record { computed = calls 1 969 300; stated = 2 ∷ 300 ∷ 669 ∷ [] }
    ∷ record { computed = calls 1 969 0; stated = 2 ∷ 969 ∷ 0 ∷ [] }
    ∷ record { computed = calls 1 969 969; stated = 2 ∷ 969 ∷ 0 ∷ [] }
    ∷ record { computed = calls 1 969 970; stated = 2 ∷ 969 ∷ 0 ∷ [] }
    -- "want 2,147,483,648 times 2 passes all"
    ∷ record { computed = calls 2 969 2147483648; stated = 2 ∷ 969 ∷ 0 ∷ [] }
    -- "sp 0, pop 1: index and sp 65,535"
    ∷ record { computed = addresses 2 0 1 0 0; stated = 1 ∷ 1 ∷ 1 ∷ 65535 ∷ 0 ∷ 0 ∷ 65535 ∷ [] }
    -- "sp 65,535, push 1: index 65,535, sp 0"
    ∷ record { computed = addresses 0 2 0 1 65535; stated = 0 ∷ 1 ∷ 1 ∷ 1 ∷ 65535 ∷ 3 ∷ 0 ∷ [] }
    -- "sp 10, pop 1 and push 2 together: both index 9, sp 11"
    ∷ record { computed = addresses 2 2 1 2 10; stated = 1 ∷ 1 ∷ 1 ∷ 9 ∷ 0 ∷ 1 ∷ 1 ∷ 1 ∷ 9 ∷ 3 ∷ 11 ∷ [] }
    -- "(2^256 - 1) + 1: 0, overflow and equal"
    ∷ record { computed = combines 1 (2 ^ 256 - 1) 1; stated = 0 ∷ 1 ∷ 1 ∷ 0 ∷ [] }
    -- "0 - 1: overflow only"
    ∷ record { computed = combines 2 0 1; stated = (2 ^ 256 - 1) ∷ 1 ∷ 0 ∷ 0 ∷ [] }
    -- "5 - 5: equal only"
    ∷ record { computed = combines 2 5 5; stated = 0 ∷ 0 ∷ 1 ∷ 0 ∷ [] }
    -- "pc 65,535: super 16,383, sub 3, next 0"
    ∷ record { computed = steps 65535; stated = 1 ∷ 2 ∷ 0 ∷ 16383 ∷ 0 ∷ 0 ∷ 3 ∷ 0 ∷ [] }
    -- "the state's time for a read, 3 more for a write"; "Execute's write carries the kept time"
    ∷ record {
      computed = timed 1;
      stated = 1 ∷ 2 ∷ 0 ∷ 16383 ∷ 8 ∷ 1 ∷ 1 ∷ 1 ∷ 9 ∷ 8 ∷ 1 ∷ 1 ∷ 1 ∷ 9 ∷ 11 ∷ 1 ∷ 1 ∷ 1 ∷ 9 ∷ 11 ∷ 0 ∷ 0 ∷ [];
    }
    -- "any other operation's write location carries 0"
    ∷ record { computed = timed 3; stated = 1 ∷ 2 ∷ 0 ∷ 16383 ∷ 8 ∷ 1 ∷ 1 ∷ 1 ∷ 9 ∷ 8 ∷ 1 ∷ 1 ∷ 1 ∷ 9 ∷ 0 ∷ 0 ∷ [] }
    ∷ []

-- every line of the table holds
abbrev pub AllHold : List Edge → Type 0
AllHold [] = Unit {0}
AllHold (e ∷ es) = (e.computed ≡ e.stated) × AllHold es
