-- A refusal and its number. Assumes nothing.
use Rattle.std.proofs.Common.{◌≡◌, ℕ, Bool, true, T, eqb, List, [], ◌∷◌, refl, arith}
use Rattle.std.proofs.lemmas.Bool.Decides.{nat_tests}
use Rattle.std.specs.List.{list_all, list_any}
use Rattle.refusal.specs.declared.Refusal.{Refusal}
use Rattle.refusal.specs.Refusal.{Check, first_of, paper_number, numbered_refusal}

-- each refusal is the one of its number
pub numbered_number : (r : Refusal) → numbered_refusal (paper_number r) ≡ r
numbered_number Refusal.Sizes = refl
numbered_number Refusal.Turn = refl
numbered_number Refusal.Record = refl
numbered_number Refusal.EndedPending = refl
numbered_number Refusal.Operation = refl
numbered_number Refusal.Pointer = refl
numbered_number Refusal.FarReturn = refl
numbered_number Refusal.NoCaller = refl
numbered_number Refusal.DepthLimit = refl
numbered_number Refusal.PubdataSum = refl
numbered_number Refusal.RevertCounter = refl
numbered_number Refusal.ErgsSum = refl
numbered_number Refusal.HeapBound = refl
numbered_number Refusal.Above32Bits = refl
numbered_number Refusal.TallyEntry = refl

-- whether a number is a refusal's
abbrev pub is_told : ℕ → Bool
is_told n = eqb (paper_number (numbered_refusal n)) n

-- where all numbers of a list are refusals', the refusal of one of them has it
pub told_back : (n : ℕ) (ns : List ℕ) → T (list_all is_told ns) → list_any (eqb n) ns ≡ true → paper_number (numbered_refusal n) ≡ n
told_back n [] t e = absurd (cc)
told_back n (m ∷ ns) t e = grind (arith, nat_tests, told_back n ns)

-- the numbers of checks
abbrev pub numbers_in : List Check → List ℕ
numbers_in [] = []
numbers_in (c ∷ cs) = c.number ∷ numbers_in cs

-- the number of checks that refuse is one of theirs
pub first_in : (cs : List Check) → (first_of cs ≡ 0 → ⊥) → list_any (eqb (first_of cs)) (numbers_in cs) ≡ true
first_in [] h = absurd (h refl)
first_in (c ∷ cs) h = grind (arith, nat_tests, first_in cs)

-- the numbers of the checks are those of refusals
abbrev pub all_numbered : List Check → Bool
all_numbered cs = list_all is_told (numbers_in cs)

-- where a check holds, its refusal has its number
pub number_first : (cs : List Check) → T (all_numbered cs) → (first_of cs ≡ 0 → ⊥) → paper_number (numbered_refusal (first_of cs)) ≡ first_of cs
number_first cs t h = told_back (first_of cs) (numbers_in cs) t (first_in cs h)
