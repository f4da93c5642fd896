-- Where and when execute writes. Document 02, CR 1: "The operand stage's location now carries its time"; "Execute's write carries the kept time."
use Rattle.std.specs.Prelude.{ℕ, cond, ◌≡◌, List, Ok}
use Rattle.records.specs.declared.Settings.{Settings}
use Rattle.records.specs.Record.{is_arithmetic}
use Rattle.addressing.specs.declared.Location.{Location}
use Rattle.stages.specs.declared.State.{State}
use Rattle.stages.specs.declared.ExecuteInput.{ExecuteInput}
use Rattle.stages.specs.declared.OperandsAnswer.{OperandsAnswer}
use Rattle.stages.specs.declared.ExecuteAnswer.{ExecuteAnswer}
use Rattle.stages.specs.State.{record_of}
use Rattle.stages.specs.Operands.{operands_of}
use Rattle.stages.specs.Execute.{execute_of}
use Rattle.stages.specs.Answers.{place_of}

-- where the kept operation writes, of the place that was answered for it: add and sub there, its time with it, and nowhere where it is none; the others nowhere
abbrev pub place_written : State → Location → Location
place_written s place = cond (is_arithmetic (record_of s)) place Location.None

-- execute writes so at the destination that operands answered, with whatever settings, store and word it is called
abbrev pub WritesWhereAnswered : Type 0
WritesWhereAnswered =
    (settings : Settings) (s : State) (store : List ℕ) (told : OperandsAnswer) → (operands_of 16 settings s store).answer ≡ Ok told
    → (later : Settings) (after : List ℕ) (input : ExecuteInput) (answer : ExecuteAnswer)
    → (execute_of 16 later input (operands_of 16 settings s store).state after).answer ≡ Ok answer
    → place_of answer.write ≡ place_written s told.destination
