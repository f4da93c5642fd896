-- A whole cycle. Document 01: "A cycle is a fetch, decode, operands and execute of the list, all finished, in turn". Each stage is given the state that the one before
-- it handed back; the first refusal ends it. The cycles in a list of calls are in lists/specs/Lists.antt.
use Rattle.std.specs.Prelude.{ℕ, Bool, cond, ◌&&◌, List, Result, Ok, Err}
use Rattle.std.specs.Result.{is_ok}
use Rattle.refusal.specs.declared.Refusal.{Refusal}
use Rattle.refusal.specs.Refusal.{paper_number}
use Rattle.stages.specs.declared.State.{State}
use Rattle.stages.specs.declared.Staged.{Staged}
use Rattle.stages.specs.declared.FetchAnswer.{FetchAnswer}
use Rattle.stages.specs.declared.OperandsAnswer.{OperandsAnswer}
use Rattle.stages.specs.declared.ExecuteAnswer.{ExecuteAnswer}
use Rattle.stages.specs.declared.DecodeAnswer.{DecodeAnswer}
use Rattle.stages.specs.Fetch.{query_of, fetch_of}
use Rattle.stages.specs.Decode.{decode_of}
use Rattle.stages.specs.Operands.{operands_of}
use Rattle.stages.specs.Execute.{execute_of, execute_store}
use Rattle.cycle.specs.declared.Input.{Input}
use Rattle.cycle.specs.declared.Cycled.{Cycled}
use Rattle.cycle.specs.declared.CycleAnswer.{CycleAnswer}
use Rattle.cycle.specs.declared.CycleRefusal.{CycleRefusal}
use Rattle.stages.specs.declared.Stage.{Stage}

-- the stages, each from the state that the one before it handed back
abbrev pub fetch_in : Input → State → List ℕ → Staged FetchAnswer
fetch_in input s store = fetch_of input.settings input.code s store

abbrev pub decode_in : Input → State → List ℕ → Staged DecodeAnswer
decode_in input s store = decode_of input.settings input.records (fetch_in input s store).state store

abbrev pub operands_in : Input → State → List ℕ → Staged OperandsAnswer
operands_in input s store = operands_of 16 input.settings (decode_in input s store).state store

abbrev pub execute_in : Input → State → List ℕ → Staged ExecuteAnswer
execute_in input s store = execute_of 16 input.settings input.execute (operands_in input s store).state store

-- a cycle that ends with a refusal: the state that was handed back, the refusal and its stage
abbrev pub refused_at : State → Refusal → Stage → Cycled
refused_at s refusal stage = record { state = s; answer = Err (record { refusal = refusal; stage = stage }) }

-- what follows a finished answer, and a refusal
abbrev pub then_or : {A : Type 0} → Result A Refusal → (A → Cycled) → (Refusal → Cycled) → Cycled
then_or (Ok answer) next refused = next answer
then_or (Err refusal) next refused = refused refusal

unfoldable pub cycle_of : Input → State → List ℕ → Cycled
cycle_of input s store =
    then_or (fetch_in input s store).answer
    (λ fetch. then_or (decode_in input s store).answer
    (λ decode. then_or (operands_in input s store).answer
    (λ operands. then_or (execute_in input s store).answer
    (λ execute. record {
      state = (execute_in input s store).state;
      answer = Ok (record { read = query_of s; fetch = fetch; decode = decode; operands = operands; execute = execute });
    })
    (λ r. refused_at (execute_in input s store).state r Stage.Execute))
    (λ r. refused_at (operands_in input s store).state r Stage.Operands))
    (λ r. refused_at (decode_in input s store).state r Stage.Decode))
    (λ r. refused_at (fetch_in input s store).state r Stage.Fetch)

-- whether execute is reached
abbrev pub is_reached : Input → State → List ℕ → Bool
is_reached input s store = is_ok (fetch_in input s store).answer && is_ok (decode_in input s store).answer && is_ok (operands_in input s store).answer

-- the store afterwards: execute alone writes it
unfoldable pub cycle_store : Input → State → List ℕ → List ℕ
cycle_store input s store =
    cond (is_reached input s store)
    (execute_store 16 input.settings input.execute (operands_in input s store).state store)
    store

-- ---- the number and the charge of a cycle's answer, whatever tells its refusal; the number is that of document 01's table
abbrev pub cycle_refusal_number : CycleRefusal → ℕ
cycle_refusal_number refused = paper_number refused.refusal

abbrev pub cycle_number : {E : Type 0} → (E → ℕ) → Result CycleAnswer E → ℕ
cycle_number number (Ok answer) = 0
cycle_number number (Err refused) = number refused

abbrev pub decode_charge : Result DecodeAnswer Refusal → ℕ
decode_charge (Ok answer) = answer.charge
decode_charge (Err refusal) = 0

abbrev pub cycle_charge : {E : Type 0} → Result CycleAnswer E → ℕ
cycle_charge (Ok answer) = answer.decode.charge
cycle_charge (Err refused) = 0
