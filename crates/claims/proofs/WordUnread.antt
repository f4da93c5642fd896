-- Where operands gave no source location, execute does not look at the word. Assumes nothing.
use Prim.Native.Nat.{ℕ, zero, suc, ◌≤◌}
use mathlib.Core.Bool.{Bool, true, false, cond}
use mathlib.Core.Path.{◌≡◌, refl, ap}
use mathlib.Core.List.{List}
use native.Mathlib.Omega.{arith}
use lib.Dec.{eqb}
use borrow.Author.Tests.{not-false}
use Rattle.u256.specs.declared.U256.{U256}
use Rattle.std.specs.Prelude.{Result, Ok, Err}
use Rattle.refusal.specs.declared.Refusal.{Refusal}
use Rattle.stages.specs.declared.OperandsAnswer.{OperandsAnswer}
use Rattle.records.specs.declared.Settings.{Settings}
use Rattle.records.specs.declared.Record.{Record}
use Rattle.addressing.specs.declared.Location.{Location}
use Rattle.addressing.specs.declared.PrimitiveValue.{PrimitiveValue}
use Rattle.addressing.specs.declared.Sources.{Sources}
use Rattle.records.specs.Record.{good_record, is_nop}
use Rattle.records.proofs.RecordLaws.{good_source}
use Rattle.addressing.specs.Address.{source_read, source_at, places_of}
use Rattle.addressing.specs.Sources.{register_value, sources_of}
use Rattle.refusal.proofs.RefusalLaws.{clear}
use Rattle.stages.specs.declared.State.{State}
use Rattle.stages.specs.declared.ExecuteInput.{ExecuteInput}
use Rattle.stages.specs.State.{record_of, refused_with}
use Rattle.stages.specs.Checks.{sources_in, operands_checks}
use Rattle.stages.specs.Operands.{stack_page, places_in, operands_refusal, addressed_state, operands_done, operands_of}
use Rattle.stages.specs.Execute.{execute_done, execute_of, execute_store}
use Rattle.claims.specs.SourceWord.{ExecutesAlike, WordUnread}
use Rattle.claims.proofs.Views.{by_number}

-- a source with no location is not the word read: it is a register, the immediate, or a nop's
module _ (w stack code sp vaddr time : ℕ) (register immediate empty read other : PrimitiveValue) where
  no_word : (nop : Bool) (kind : ℕ) → kind ≤ 5 → source_read nop (source_at w kind stack code sp vaddr time).location ≡ Location.None
      → cond (eqb kind 0) register (cond (eqb kind 1) immediate (cond nop empty read))
      ≡ cond (eqb kind 0) register (cond (eqb kind 1) immediate (cond nop empty other))
  unfolding source_at
  no_word true kind l e = refl
  no_word false zero l e = refl
  no_word false (suc zero) l e = refl
  no_word false (suc (suc zero)) l e = cc
  no_word false (suc (suc (suc zero))) l e = cc
  no_word false (suc (suc (suc (suc zero)))) l e = cc
  no_word false (suc (suc (suc (suc (suc zero))))) l e = cc
  no_word false (suc (suc (suc (suc (suc (suc kind)))))) l e = absurd (omega arith)

-- the operands of a good record with no source location
sources_same : (r : Record) (words : List U256) (pointers : List Bool) (w stack code sp time later : ℕ) (word other : U256) (pointer bit : Bool) → good_record r ≡ true
    → (places_of w r words stack code sp time later).source ≡ Location.None → sources_of r words pointers word pointer ≡ sources_of r words pointers other bit
unfolding places_of sources_of
sources_same r words pointers w stack code sp time later word other pointer bit good e =
    ap pair (no_word w stack code sp _ time _ _ _ _ _ (is_nop r) r.source_kind (good_source r good) e)
  where
    pair : PrimitiveValue → Sources
    pair v = cond r.swap (record { src0 = register_value words pointers r.src1; src1 = v }) (record { src0 = v; src1 = register_value words pointers r.src1 })

-- execute looks at its input for the operands alone
alike : (settings : Settings) (s : State) (store : List ℕ) (given other : ExecuteInput) → sources_in given s ≡ sources_in other s
    → ExecutesAlike settings s store given other
unfolding execute_of execute_done execute_store
alike settings s store given other e = record { result_same = rw e; store_same = rw e }

-- the source that operands told
abbrev told : Result OperandsAnswer Refusal → Location
told (Ok answer) = answer.source
told (Err refusal) = Location.None

pub word_unread : WordUnread
unfolding operands_of operands_done addressed_state
word_unread settings s store destination told_none later after given other =
    by_number (λ r. r.answer ≡ Ok (record { source = Location.None; destination = destination }) → ExecutesAlike later r.state after given other)
    (operands_refusal settings s store) (refused_with s) (operands_done 16 s)
    (λ z e.
    let c = clear (operands_checks settings s store) tt z in
    let none : (places_in 16 s).source ≡ Location.None = ap told e in
    alike later (operands_done 16 s).state after given other
    (sources_same (record_of s) s.registers s.pointers 16 (stack_page s) s.current.code_page s.current.sp s.timestamp _ given.word other.word given.pointer other.pointer
    (not-false (good_record (record_of s)) c.1.1.0) none))
    (λ h e. absurd (cc))
    told_none
