-- The answers of the stages, case by case: what a finished answer tells, in numbers. Tells.antt says which numbers are to be told.
use Rattle.std.specs.Prelude.{ℕ, List, [], ◌∷◌, ◌++◌, Option, None, Some, Result, Ok, Err}
use mir.Val.{bool_byte}
use Rattle.u256.specs.U256.{value_of}
use Rattle.refusal.specs.declared.Refusal.{Refusal}
use Rattle.addressing.specs.declared.Location.{Location}
use Rattle.stages.specs.declared.Write.{Write}
use Rattle.stages.specs.declared.Event.{Event}
use Rattle.stages.specs.declared.FetchAnswer.{FetchAnswer}
use Rattle.stages.specs.declared.DecodeAnswer.{DecodeAnswer}
use Rattle.stages.specs.declared.OperandsAnswer.{OperandsAnswer}
use Rattle.stages.specs.declared.ExecuteAnswer.{ExecuteAnswer}

-- ---- what a finished answer tells, by case: the number of the case, then its values; a refusal tells nothing but its number
-- "64 bits of code, or exception (pending), or nop (ended)": 0, 1 and 2
abbrev pub fetch_case : Result FetchAnswer Refusal → List ℕ
fetch_case (Ok (FetchAnswer.Code bits)) = 0 ∷ bits ∷ []
fetch_case (Ok FetchAnswer.Exception) = 1 ∷ []
fetch_case (Ok FetchAnswer.Nop) = 2 ∷ []
fetch_case (Err refusal) = []

-- "The answer gives the flags and the charge": explicit panic, NOT_ENOUGH_ERGS, kernel only, static, depth equal to limit, then the charge
abbrev pub decode_case : Result DecodeAnswer Refusal → List ℕ
decode_case (Ok answer) =
    bool_byte answer.errors.invalid_opcode
    ∷ bool_byte answer.errors.not_enough_ergs
    ∷ bool_byte answer.errors.privilaged_access_not_from_kernel
    ∷ bool_byte answer.errors.write_in_static_context
    ∷ bool_byte answer.errors.callstack_is_full
    ∷ answer.charge
    ∷ []
decode_case (Err refusal) = []

-- "either no location or a memory kind, page and index", and document 02's CR 1: "location now carries its time". 0, or 1 and these; memory kinds 1 stack, 2 code.
abbrev pub location_case : Location → List ℕ
location_case Location.None = 0 ∷ []
location_case (Location.At kind index page time) = 1 ∷ kind ∷ page ∷ index ∷ time ∷ []

-- where and when a write is made
abbrev pub place_of : Option Write → Location
place_of None = Location.None
place_of (Some w) = Location.At w.memory_type w.index w.page w.time

-- "Execute's write carries the kept time": 0 where nothing is written, or what its location has, the value and its pointer bit
abbrev pub write_case : Option Write → List ℕ
write_case None = 0 ∷ []
write_case (Some w) = location_case (place_of (Some w)) ++ (value_of w.value.value ∷ bool_byte w.value.is_pointer ∷ [])

-- "Events: frame opened, frame closed with its panicked bit": 1 and 2, 0 where there is none
abbrev pub event_case : Option Event → List ℕ
event_case None = 0 ∷ []
event_case (Some Event.Opened) = 1 ∷ []
event_case (Some (Event.Closed panicked)) = 2 ∷ bool_byte panicked ∷ []

-- the source and the destination
abbrev pub operands_case : Result OperandsAnswer Refusal → List (List ℕ)
operands_case (Ok answer) = location_case answer.source ∷ location_case answer.destination ∷ []
operands_case (Err refusal) = []

-- the write and the event
abbrev pub execute_case : Result ExecuteAnswer Refusal → List (List ℕ)
execute_case (Ok answer) = write_case answer.write ∷ event_case answer.event ∷ []
execute_case (Err refusal) = []
