-- What execute writes is where and when operands answered. Assumes nothing.
use Rattle.std.proofs.Common.{◌≡◌, ℕ, Bool, true, false, List, refl, sym, ap, ◌∙◌, arith}
use Rattle.std.specs.Prelude.{Result, Ok, Err}
use Rattle.refusal.specs.declared.Refusal.{Refusal}
use Rattle.records.specs.declared.Settings.{Settings}
use Rattle.records.specs.Record.{is_nop, is_arithmetic, is_near_call}
use Rattle.addressing.specs.declared.Location.{Location}
use Rattle.addressing.specs.declared.PrimitiveValue.{PrimitiveValue}
use Rattle.stages.specs.declared.State.{State}
use Rattle.stages.specs.declared.ExecuteInput.{ExecuteInput}
use Rattle.stages.specs.declared.OperandsAnswer.{OperandsAnswer}
use Rattle.stages.specs.declared.ExecuteAnswer.{ExecuteAnswer}
use Rattle.stages.specs.State.{record_of, refused_with}
use Rattle.stages.specs.Helpers.{write_of, nop_done}
use Rattle.stages.specs.Arithmetic.{arithmetic_done}
use Rattle.stages.specs.NearCall.{near_call_done}
use Rattle.stages.specs.Ret.{close_done}
use Rattle.stages.specs.Operands.{operands_refusal, addressed_state, operands_done, operands_of}
use Rattle.stages.specs.Execute.{execute_refusal, execute_done, execute_of}
use Rattle.stages.specs.Answers.{place_of}
use Rattle.claims.specs.WritePlace.{place_written, WritesWhereAnswered}
use Rattle.claims.proofs.Views.{by_number}

-- where a write is made, and where a destination is
abbrev written : Result ExecuteAnswer Refusal → Location
written (Ok answer) = place_of answer.write
written (Err refusal) = Location.None

abbrev destination : Result OperandsAnswer Refusal → Location
destination (Ok answer) = answer.destination
destination (Err refusal) = Location.None

kept_place : (l : Location) (value : PrimitiveValue) → place_of (write_of l value) ≡ l
kept_place Location.None value = refl
kept_place (Location.At kind index page time) value = refl

-- a call that is not refused writes at the kept location
at_kept : (settings : Settings) (s : State) (store : List ℕ) (input : ExecuteInput)
    → written (execute_done 16 settings input s store).answer ≡ place_written s s.kept.write
unfolding execute_done nop_done arithmetic_done near_call_done close_done
at_kept settings s store input = by_test _ _ _ refl refl refl
  where
    by_test : (nop sum call : Bool) → is_nop (record_of s) ≡ nop → is_arithmetic (record_of s) ≡ sum → is_near_call (record_of s) ≡ call
        → written (execute_done 16 settings input s store).answer ≡ place_written s s.kept.write
    by_test true true call e f g = absurd (grind arith)
    by_test true false call e f g = cc
    by_test false true call e f g = rw (e, f) (kept_place s.kept.write _)
    by_test false false true e f g = rw (e, f, g) refl
    by_test false false false e f g = rw (e, f, g) refl

execute_writes : (settings : Settings) (s : State) (store : List ℕ) (input : ExecuteInput) (answer : ExecuteAnswer)
    → (execute_of 16 settings input s store).answer ≡ Ok answer
    → place_of answer.write ≡ place_written s s.kept.write
unfolding execute_of
execute_writes settings s store input answer =
    by_number (λ r. r.answer ≡ Ok answer → place_of answer.write ≡ place_written s s.kept.write)
    (execute_refusal 16 settings input s store) (refused_with s) (execute_done 16 settings input s store)
    (λ z e. sym (ap written e) ∙ at_kept settings s store input)
    (λ h e. absurd (cc))

pub writes_where_answered : WritesWhereAnswered
unfolding operands_of operands_done addressed_state
writes_where_answered settings s store told answered later after input answer =
    by_number
    (λ r. r.answer ≡ Ok told → (execute_of 16 later input r.state after).answer ≡ Ok answer
    → place_of answer.write ≡ place_written s told.destination)
    (operands_refusal settings s store) (refused_with s) (operands_done 16 s)
    (λ z e f. rw (← ap destination e) (execute_writes later (operands_done 16 s).state after input answer f))
    (λ h e f. absurd (cc))
    answered
