-- The number of execute's answer is that of the first check that holds, and what it tells is what document 01 says. Assumes nothing.
use Rattle.std.proofs.Common.{◌≡◌, ℕ, zero, suc, ◌<◌, Bool, true, false, cond, not, ◌&&◌, ◌||◌, T, eqb, List, [], ◌∷◌, ◌++◌, refl, sym, ◌∙◌, arith, eqb-true}
use Rattle.std.proofs.lemmas.Bool.{cond_both, eqb-false}
use mir.Val.{bool_byte}
use Rattle.u256.specs.declared.U256.{U256}
use Rattle.u256.specs.U256.{value_of}
use Rattle.refusal.specs.Refusal.{Check, first_of, refusal_number}
use Rattle.refusal.proofs.NumberLaws.{all_numbered, number_first}
use Rattle.refusal.proofs.RefusalLaws.{clear}
use Rattle.records.specs.declared.Settings.{Settings}
use Rattle.records.specs.Record.{good_record, is_return_ok}
use Rattle.records.proofs.RecordLaws.{good_operation}
use Rattle.addressing.specs.declared.Location.{Location}
use Rattle.stages.specs.declared.State.{State}
use Rattle.stages.specs.declared.Staged.{Staged}
use Rattle.stages.specs.declared.ExecuteInput.{ExecuteInput}
use Rattle.stages.specs.declared.ExecuteAnswer.{ExecuteAnswer}
use Rattle.stages.specs.State.{record_of, refused_with, settled}
use Rattle.stages.specs.Checks.{sources_in, top_frame, execute_checks}
use Rattle.stages.specs.Helpers.{is_stored, write_of, nop_done}
use Rattle.stages.specs.Arithmetic.{result_in, arithmetic_done}
use Rattle.stages.specs.NearCall.{near_call_done}
use Rattle.stages.specs.Ret.{close_done}
use Rattle.stages.specs.Execute.{execute_refusal, want_in, execute_done, execute_of, execute_store}
use Rattle.stages.specs.Answers.{location_case, write_case, execute_case}
use Rattle.stages.specs.Tells.{write_tells, event_tells, execute_tells}

-- an answer with this number, which tells this where the number is 0
record Answers (r : Staged ExecuteAnswer) (n : ℕ) (tells : List (List ℕ)) : Type 0 where
  pub number : refusal_number r.answer ≡ n
  pub told : execute_case r.answer ≡ cond (eqb n 0) tells []

-- an answer by its checks: that of a finished call, or the refusal of the first
answered : (s : State) (cs : List Check) → T (all_numbered cs) → (done : Staged ExecuteAnswer) (tells : List (List ℕ)) → refusal_number done.answer ≡ 0
    → (first_of cs ≡ 0 → execute_case done.answer ≡ tells) → Answers (settled (first_of cs) (refused_with s) done) (first_of cs) tells
answered s cs t done tells d f =
    cond_both (eqb (first_of cs) 0) done (refused_with s (first_of cs)) (λ r. Answers r (first_of cs) tells)
    (λ q. record { number = d ∙ sym (eqb-true (first_of cs) 0 q); told = rw q (f (eqb-true (first_of cs) 0 q)) })
    (λ q. record { number = number_first cs t (eqb-false (first_of cs) 0 q); told = rw q refl })

-- whatever holds of the four operations
of_four : {A : Type 0} (P : A → Type 0) (p q r : Bool) (a b c d : A) → P a → P b → P c → P d → P (cond p a (cond q b (cond r c d)))
of_four P true q r a b c d ha hb hc hd = ha
of_four P false true r a b c d ha hb hc hd = hb
of_four P false false true a b c d ha hb hc hd = hc
of_four P false false false a b c d ha hb hc hd = hd

-- nothing written, and no event
abbrev nothing : List ℕ
nothing = 0 ∷ []

module _ (settings : Settings) (input : ExecuteInput) (s : State) (store : List ℕ) where
  abbrev a : U256
  a = (sources_in input s).src0.value

  abbrev b : U256
  b = (sources_in input s).src1.value

  done_number : refusal_number (execute_done 16 settings input s store).answer ≡ 0
  unfolding execute_done nop_done arithmetic_done near_call_done close_done
  done_number =
      of_four (λ (r : Staged ExecuteAnswer). refusal_number r.answer ≡ 0) _ _ _ (nop_done 16 settings s) (arithmetic_done 16 settings a b s)
      (near_call_done 16 settings (want_in input s) s) (close_done settings (top_frame s store) s) refl refl refl refl

  -- what add and sub write, and what a return tells
  abbrev sum_write : List ℕ
  sum_write = location_case s.kept.write ++ (value_of (result_in a b s).0 ∷ 0 ∷ [])

  abbrev closing : List ℕ
  closing = 2 ∷ bool_byte (not (is_return_ok (record_of s))) ∷ []

  written : (l : Location)
      → write_case (write_of l (record { value = (result_in a b s).0; is_pointer = false })) ∷ nothing ∷ []
      ≡ cond (is_stored l) (location_case l ++ (value_of (result_in a b s).0 ∷ 0 ∷ [])) nothing ∷ nothing ∷ []
  written Location.None = refl
  written (Location.At kind index page time) = refl

  -- what is told by the tests of an operation's number
  told_of : (n : ℕ) → n < 5
      → execute_case
      (cond (eqb n 0) (nop_done 16 settings s)
      (cond (eqb n 1 || eqb n 2) (arithmetic_done 16 settings a b s)
      (cond (eqb n 3) (near_call_done 16 settings (want_in input s) s) (close_done settings (top_frame s store) s)))).answer
      ≡ cond ((eqb n 1 || eqb n 2) && is_stored s.kept.write) sum_write nothing ∷ cond (eqb n 3) (1 ∷ []) (cond (eqb n 4) closing nothing) ∷ []
  unfolding nop_done arithmetic_done near_call_done close_done
  told_of zero h = refl
  told_of (suc zero) h = written s.kept.write
  told_of (suc (suc zero)) h = written s.kept.write
  told_of (suc (suc (suc zero))) h = refl
  told_of (suc (suc (suc (suc zero)))) h = refl
  told_of (suc (suc (suc (suc (suc n))))) h = absurd (omega arith)

  -- the operation of a record that is good and not "other"
  below : (n : ℕ) (good : Bool) → not good ≡ false → eqb n 5 ≡ false → (good ≡ true → n < 6) → n < 5
  below n good g e h = grind (arith, h)

  done_told : first_of (execute_checks 16 settings input s store) ≡ 0
      → execute_case (execute_done 16 settings input s store).answer ≡ write_tells input s ∷ event_tells s ∷ []
  unfolding execute_done
  done_told z =
      let c = clear (execute_checks 16 settings input s store) tt z in
      told_of (record_of s).operation (below (record_of s).operation _ c.1.1.0 c.1.1.1.0 (λ (g : good_record (record_of s) ≡ true). omega (arith, good_operation (record_of s) g)))

  execute_answers : Answers (execute_of 16 settings input s store) (execute_refusal 16 settings input s store) (write_tells input s ∷ event_tells s ∷ [])
  unfolding execute_of
  execute_answers = answered s (execute_checks 16 settings input s store) tt (execute_done 16 settings input s store) _ done_number done_told

  -- what execute ensures
  abbrev pub Ensured : Staged ExecuteAnswer → List ℕ → Type 0
  Ensured r after =
      (r ≡ execute_of 16 settings input s store)
      × (after ≡ execute_store 16 settings input s store)
      × (refusal_number r.answer ≡ execute_refusal 16 settings input s store)
      × (execute_case r.answer ≡ execute_tells 16 settings input s store)

  pub ensured : (r : Staged ExecuteAnswer) (after : List ℕ) → r ≡ execute_of 16 settings input s store → after ≡ execute_store 16 settings input s store
      → Ensured r after
  ensured r after e f = (e, f, rw e execute_answers.number, rw e execute_answers.told)
