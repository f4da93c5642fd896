-- The stack page that operands looks at, and what it tells of the places. Assumes nothing.
use Rattle.std.proofs.Common.{◌≡◌, ℕ, ◌+◌, ◌%◌, ◌^◌, List, [], ◌∷◌, Bool, true, false, cond, ◌||◌, not, refl, sym, arith, mod-eq_of_lt}
use Rattle.std.specs.Prelude.{Ok, Err}
use Rattle.records.specs.declared.Settings.{Settings}
use Rattle.records.specs.Record.{good_record}
use Rattle.refusal.specs.declared.Refusal.{Refusal}
use Rattle.refusal.specs.Refusal.{paper_number, refusal_number}
use Rattle.u256.specs.declared.U256.{U256}
use Rattle.records.specs.declared.Record.{Record}
use Rattle.addressing.specs.declared.Places.{Places}
use Rattle.addressing.specs.Address.{lacks_stack_page, write_time, lacks_write_time, source_at, destination_at, places_of}
use Rattle.addressing.proofs.AddressLaws.{places_same}
use Rattle.stages.specs.declared.State.{State}
use Rattle.stages.specs.declared.Staged.{Staged}
use Rattle.stages.specs.declared.OperandsAnswer.{OperandsAnswer}
use Rattle.stages.specs.State.{at_operands, record_of, bad_store, out_of_turn}
use Rattle.stages.specs.Checks.{lacks_page_or_time, operands_checks}
use Rattle.stages.specs.Operands.{places_in, operands_refusal, addressed_state, operands_done, operands_of}
use Rattle.stages.specs.Answers.{location_case, operands_case}
use Rattle.stages.specs.Tells.{source_tells, destination_tells, operands_tells}
use Rattle.stages.proofs.CheckLaws.{refused_first}

-- a stack page that is looked at has 32 bits, and so has a write's time
pub places_exact : (w : ℕ) (r : Record) (registers : List U256) (base code_page sp time : ℕ) → (lacks_stack_page r base || lacks_write_time r time) ≡ false
    → places_of w r registers ((base + 1) % 2 ^ 32) code_page sp time (write_time r time % 2 ^ 32)
    ≡ places_of w r registers (base + 1) code_page sp time (write_time r time)
places_exact w r registers base code_page sp time h =
    places_same w r registers _ _ code_page sp time _ _ (λ k. grind (arith, mod-eq_of_lt)) (λ k. grind (arith, mod-eq_of_lt))

pub places_told : (w : ℕ) (s : State)
    → location_case (places_in w s).source ∷ location_case (places_in w s).destination ∷ [] ≡ source_tells w s ∷ destination_tells w s ∷ []
unfolding places_of source_at destination_at
places_told w s = grind arith

-- no check holds: the answer is that of these places
pub answered : (settings : Settings) (s : State) (store : List ℕ) (sizes : Bool) → sizes ≡ bad_store settings s store
    → (turn : Bool) → turn ≡ out_of_turn at_operands s → (good : Bool) → good ≡ good_record (record_of s) → (lacking : Bool) → lacking ≡ lacks_page_or_time s
    → (sizes || turn || not good || lacking) ≡ false
    → (places : Places) → places ≡ places_in 16 s → (next : State) → next ≡ addressed_state s places.sp places.destination
    → (record { state = next; answer = Ok (record { source = places.source; destination = places.destination }) } ≡ operands_of 16 settings s store)
    × (0 ≡ operands_refusal settings s store)
    × (location_case places.source ∷ location_case places.destination ∷ [] ≡ operands_tells 16 settings s store)
unfolding operands_of operands_done
answered settings s store sizes ez turn eu good eg lacking el z places ep next en =
    let none : operands_refusal settings s store ≡ 0 = rw (← ez, ← eu, ← eg, ← el) (cleared sizes turn good lacking z) in
    (rw (none, en, ep) refl, sym none, rw (none, ep) (places_told 16 s))
  where
    cleared : (a b c d : Bool) → (a || b || not c || d) ≡ false → cond {A = ℕ} a 1 (cond b 2 (cond (not c) 3 (cond d 14 0))) ≡ 0
    cleared a b c d e = grind arith

-- some check holds, and q is the refusal of the first
pub refused : (settings : Settings) (s : State) (store : List ℕ) (sizes : Bool) → sizes ≡ bad_store settings s store
    → (turn : Bool) → turn ≡ out_of_turn at_operands s → (good : Bool) → good ≡ good_record (record_of s) → (lacking : Bool) → lacking ≡ lacks_page_or_time s
    → (sizes || turn || not good || lacking) ≡ true
    → (q : Refusal) → q ≡ cond sizes Refusal.Sizes (cond turn Refusal.Turn (cond (not good) Refusal.Record Refusal.Above32Bits))
    → (r : Staged OperandsAnswer) → r ≡ record { state = s; answer = Err q }
    → (r ≡ operands_of 16 settings s store) × (refusal_number r.answer ≡ operands_refusal settings s store) × (operands_case r.answer ≡ operands_tells 16 settings s store)
unfolding operands_of
refused settings s store sizes ez turn eu good eg lacking el t q eq r er =
    let k = refused_first s (operands_done 16 s) (operands_checks settings s store) tt (rw (← ez, ← eu, ← eg, ← el) t) q
    (rw (eq, ← ez, ← eu, ← eg) (number sizes turn (not good))) in
    rw er (k.0, k.1, rw k.2 refl)
  where
    number : (a b c : Bool)
        → paper_number (cond a Refusal.Sizes (cond b Refusal.Turn (cond c Refusal.Record Refusal.Above32Bits))) ≡ cond a 1 (cond b 2 (cond c 3 14))
    number a b c = grind arith
