-- Execute's refusal and its choice of the operation. Assumes nothing.
use Rattle.std.proofs.Common.{◌≡◌, ℕ, ◌<◌, ◌≤◌, Bool, true, false, cond, not, ◌||◌, eqb, List, refl, sym, ◌∙◌, arith}
use Rattle.u256.specs.U256.{low_of}
use Rattle.std.specs.Prelude.{Err}
use Rattle.refusal.specs.declared.Refusal.{Refusal}
use Rattle.refusal.specs.Refusal.{first_of, paper_number}
use Rattle.frame.specs.Kernel.{kernel_mode}
use Rattle.frame.specs.Row.{good_row}
use Rattle.frame.specs.Store.{saved_store}
use Rattle.records.specs.declared.Settings.{Settings}
use Rattle.records.specs.Record.{good_record}
use Rattle.records.proofs.RecordLaws.{good_operation}
use Rattle.addressing.specs.declared.Sources.{Sources}
use Rattle.addressing.specs.Sources.{pointer_refused}
use Rattle.stages.specs.declared.State.{State}
use Rattle.stages.specs.declared.Staged.{Staged}
use Rattle.stages.specs.declared.ExecuteInput.{ExecuteInput}
use Rattle.stages.specs.declared.ExecuteAnswer.{ExecuteAnswer}
use Rattle.stages.specs.State.{at_execute, record_of, bad_store, out_of_turn, refused_with, settled}
use Rattle.stages.specs.Checks.{sources_in, top_row, top_frame, execute_checks}
use Rattle.stages.specs.Helpers.{nop_done}
use Rattle.stages.specs.Arithmetic.{arithmetic_done}
use Rattle.stages.specs.NearCall.{caller_in, near_call_done}
use Rattle.stages.specs.Ret.{close_done}
use Rattle.stages.specs.Execute.{execute_done, execute_of, execute_store}
use Rattle.stages.specs.ByOperation.{operation_checks, nop_of, arithmetic_of, near_call_of, near_call_store, return_of}
use Rattle.stages.proofs.CheckLaws.{not_zero, settled_refused}
use Rattle.stages.proofs.AnswerLaws.{Ensured, ensured}

-- some check holds, and n is the number of the first: the last, and those after it, are not looked at
some : (a b c d e : Bool) (n m : ℕ) → (a || b || c || d || e) ≡ true → n ≡ cond a 1 (cond b 2 (cond c 3 (cond d 5 6)))
    → cond a 1 (cond b 2 (cond c 3 (cond d 5 (cond e 6 m)))) ≡ n
some a b c d e n m t en = grind arith

none : (a b c d e : Bool) (m : ℕ) → (a || b || c || d || e) ≡ false → cond {A = ℕ} a 1 (cond b 2 (cond c 3 (cond d 5 (cond e 6 m)))) ≡ m
none a b c d e m z = grind arith

number : (a b c d : Bool)
    → paper_number (cond a Refusal.Sizes (cond b Refusal.Turn (cond c Refusal.Record (cond d Refusal.Operation Refusal.Pointer))))
    ≡ cond a 1 (cond b 2 (cond c 3 (cond d 5 6)))
number a b c d = grind arith

-- a store that stays either way
same : (n : ℕ) {store : List ℕ} → store ≡ cond (eqb n 0) store store
same n {store} = go (eqb n 0)
  where
    go : (t : Bool) → store ≡ cond t store store
    go true = refl
    go false = refl

sum_tests : (o : ℕ) → (o ≡ 0 → ⊥) → o < 3 → (eqb o 0 ≡ false) × ((eqb o 1 || eqb o 2) ≡ true) × (eqb o 3 ≡ false) × (eqb o 4 ≡ false)
sum_tests o n h = grind arith

-- the operation that is left where it is none of those before
returning : (a b e good : Bool) (o : ℕ) → (a || b || not good || eqb o 5 || e) ≡ false → (good ≡ true → o ≤ 5) → (o ≡ 0 → ⊥) → (o ≡ 3 → ⊥) → 3 ≤ o → o ≡ 4
returning a b e good o z g n m h = grind (arith, g)

module _ (settings : Settings) (input : ExecuteInput) (s : State) (store : List ℕ)
    (sources : Sources) (es : sources ≡ sources_in input s)
    (sizes : Bool) (ez : sizes ≡ bad_store settings s store)
    (turn : Bool) (eu : turn ≡ out_of_turn at_execute s)
    (good : Bool) (eg : good ≡ good_record (record_of s))
    (kernel : Bool) (ek : kernel ≡ kernel_mode s.current)
    (held : Bool) (eh : held ≡ pointer_refused kernel (record_of s) sources.src0.is_pointer sources.src1.is_pointer) where
  abbrev some_holds : Bool
  some_holds = sizes || turn || not good || eqb (record_of s).operation 5 || held

  -- the refusal of the first check, where one of the five holds
  pub refused_by : some_holds ≡ true → (q : Refusal)
      → q
      ≡ cond sizes Refusal.Sizes (cond turn Refusal.Turn (cond (not good) Refusal.Record (cond (eqb (record_of s).operation 5) Refusal.Operation Refusal.Pointer)))
      → (r : Staged ExecuteAnswer) → r ≡ record { state = s; answer = Err q } → Ensured settings input s store r store
  unfolding execute_of execute_store
  refused_by t q eq r e =
      ensured settings input s store r store (rw e (settled_refused s _ q _ first)) (rw (first, not_zero q) refl)
    where
      first : first_of (execute_checks 16 settings input s store) ≡ paper_number q
      first =
          rw (← es, ← ez, ← eu, ← eg, ← ek, ← eh)
          (some sizes turn (not good) (eqb (record_of s).operation 5) held (paper_number q) _ t (rw eq (number sizes turn (not good) (eqb (record_of s).operation 5))))

  -- by the kind of the operation, where none holds: a nop, add or sub, a near call, a return
  module _ (z : some_holds ≡ false) (r : Staged ExecuteAnswer) where
    -- what an operation is refused with, by its part of the checks
    by_operation : (nop sum call ret : Bool) → eqb (record_of s).operation 0 ≡ nop → (eqb (record_of s).operation 1 || eqb (record_of s).operation 2) ≡ sum
        → eqb (record_of s).operation 3 ≡ call → eqb (record_of s).operation 4 ≡ ret
        → (after : List ℕ)
        → r
        ≡ settled (first_of (operation_checks ret call (good_row 16 (top_row s store)) (top_frame s store) settings s)) (refused_with s)
        (cond nop (nop_done 16 settings s)
        (cond sum (arithmetic_done 16 settings sources.src0.value sources.src1.value s)
        (cond call (near_call_done 16 settings (low_of 32 sources.src0.value) s) (close_done settings (top_frame s store) s))))
        → after
        ≡ cond (eqb (first_of (operation_checks ret call (good_row 16 (top_row s store)) (top_frame s store) settings s)) 0)
        (cond call (saved_store store s.depth (caller_in 16 settings (low_of 32 sources.src0.value) s)) store) store
        → Ensured settings input s store r after
    unfolding execute_of execute_done execute_store
    by_operation nop sum call ret en eu' ec et after er ea =
        ensured settings input s store r after (rw (first, en, eu', ec, ← es) er) (rw (first, ec, ← es) ea)
      where
        first : first_of (execute_checks 16 settings input s store) ≡ first_of (operation_checks ret call (good_row 16 (top_row s store)) (top_frame s store) settings s)
        first =
            rw (← es, ← ez, ← eu, ← eg, ← ek, ← eh, ← et, ← ec)
            (none sizes turn (not good) (eqb (record_of s).operation 5) held _ z)

    pub at_nop : (record_of s).operation ≡ 0 → r ≡ nop_of 16 settings s → Ensured settings input s store r store
    unfolding nop_of
    at_nop o e = by_operation true false false false (grind arith) (grind arith) (grind arith) (grind arith) store e (same (first_of (operation_checks false false true s.current settings s)))

    pub at_sum : ((record_of s).operation ≡ 0 → ⊥) → (record_of s).operation < 3
        → r ≡ arithmetic_of 16 settings sources.src0.value sources.src1.value s → Ensured settings input s store r store
    unfolding arithmetic_of
    at_sum n h e =
        let t = sum_tests (record_of s).operation n h in
        by_operation false true false false t.0 t.1 t.2 t.3 store e (same (first_of (operation_checks false false true s.current settings s)))

    pub at_call : (record_of s).operation ≡ 3 → r ≡ near_call_of 16 settings (low_of 32 sources.src0.value) s
        → (after : List ℕ) → after ≡ near_call_store 16 settings (low_of 32 sources.src0.value) s store → Ensured settings input s store r after
    unfolding near_call_of near_call_store
    at_call o e after ea = by_operation false false true false (grind arith) (grind arith) (grind arith) (grind arith) after e ea

    pub at_return : ((record_of s).operation ≡ 0 → ⊥) → ((record_of s).operation ≡ 3 → ⊥) → 3 ≤ (record_of s).operation → r ≡ return_of 16 settings s store
        → Ensured settings input s store r store
    unfolding return_of
    at_return n m h e =
        let o = returning sizes turn held good (record_of s).operation z (λ t. good_operation (record_of s) (sym eg ∙ t)) n m h in
        by_operation false false false true (grind arith) (grind arith) (grind arith) (grind arith) store e (same (first_of (operation_checks true false (good_row 16 (top_row s store)) (top_frame s store) settings s)))
