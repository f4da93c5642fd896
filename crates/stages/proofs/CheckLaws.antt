-- A stage that branches on whether some check holds, and then answers the refusal of the first. Assumes nothing.
use Rattle.std.proofs.Common.{◌≡◌, ℕ, true, false, T, eqb, List, refl, sym, ap, ◌∙◌, arith}
use Rattle.std.specs.Prelude.{Err}
use Rattle.refusal.specs.declared.Refusal.{Refusal}
use Rattle.refusal.specs.Refusal.{Check, first_of, paper_number, numbered_refusal}
use Rattle.refusal.proofs.NumberLaws.{numbered_number}
use Rattle.refusal.proofs.RefusalLaws as refusals
use Rattle.refusal.proofs.RefusalLaws.{numbered, any_holds, first_number}
use Rattle.stages.specs.declared.State.{State}
use Rattle.stages.specs.declared.Staged.{Staged}
use Rattle.stages.specs.State.{refused_with, settled}

-- no refusal has number 0
pub not_zero : (q : Refusal) → eqb (paper_number q) 0 ≡ false
not_zero q = grind (arith, as_one)
  where
    as_one : paper_number q ≡ 0 → paper_number q ≡ 1
    as_one z = ap paper_number (sym (numbered_number q) ∙ ap numbered_refusal z)

-- a refusal's number settles an answer with it
pub settled_refused : {A : Type 0} (s : State) (done : Staged A) (q : Refusal) (n : ℕ) → n ≡ paper_number q
    → record { state = s; answer = Err q } ≡ settled n (refused_with s) done
settled_refused s done q n e = rw (e, not_zero q, numbered_number q) refl

-- that refusal is the one of the definition: the last check is not looked at
pub refused_first : {A : Type 0} (s : State) (done : Staged A) (cs : List Check) → T (numbered cs) → any_holds cs ≡ true
    → (q : Refusal) → paper_number q ≡ first_number cs
    → (record { state = s; answer = Err q } ≡ settled (first_of cs) (refused_with s) done) × (paper_number q ≡ first_of cs) × (eqb (first_of cs) 0 ≡ false)
refused_first s done cs t h q e =
    rw (← (refusals.refused cs t h (paper_number q) e).0, not_zero q, numbered_number q) (refl, refl, refl)
