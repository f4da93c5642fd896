-- Every call of a stage answers. Assumes nothing.
use Prim.Native.Nat.{ℕ}
use mathlib.Core.Path.{◌≡◌, refl}
use mathlib.Core.List.{List}
use Rattle.records.specs.declared.Settings.{Settings}
use Rattle.stages.specs.declared.State.{State}
use Rattle.stages.specs.declared.ExecuteInput.{ExecuteInput}
use Rattle.stages.specs.Checks.{execute_checks}
use Rattle.lists.specs.Lists.{fetch, decode, operands, execute}
use Rattle.claims.specs.Answers.{execute_numbers, EveryCallAnswers}
use Rattle.claims.proofs.Views.{either, numbers_in}
use Rattle.claims.proofs.Stages.{fetch_view, decode_view, operands_view}
use Rattle.claims.proofs.ExecuteView.{execute_view}

pub every_call_answers : EveryCallAnswers
every_call_answers (fetch x) s store = either (fetch_view x s store)
every_call_answers (decode x) s store = either (decode_view x s store)
every_call_answers (operands x) s store = either (operands_view x s store)
every_call_answers (execute x) s store = either (execute_view x s store)

-- the numbers listed for execute are those of its checks, no more and no fewer
pub execute_listed : (settings : Settings) (input : ExecuteInput) (s : State) (store : List ℕ)
    → numbers_in (execute_checks 16 settings input s store) ≡ execute_numbers
execute_listed settings input s store = refl
