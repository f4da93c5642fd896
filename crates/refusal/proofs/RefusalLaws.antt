-- Checks and the number of the first that holds. Assumes nothing.
use Rattle.std.proofs.Common.{arith, ◌≡◌, ℕ, Bool, true, false, cond, not, ◌&&◌, ◌||◌, T, eqb, List, [], ◌∷◌}
use Rattle.refusal.specs.Refusal.{Check, first_of}

-- none of the checks holds
abbrev pub Clear : List Check → Type 0
Clear [] = Unit {0}
Clear (c ∷ cs) = (c.holds ≡ false) × Clear cs

-- each check has a number of its own, and not 0
abbrev pub numbered : List Check → Bool
numbered [] = true
numbered (c ∷ cs) = not (eqb c.number 0) && numbered cs

pub clear : (cs : List Check) → T (numbered cs) → first_of cs ≡ 0 → Clear cs
clear [] t e = tt
clear (c ∷ cs) t e = grind (arith, clear cs)

-- some check holds
abbrev holds : List Check → Bool
holds [] = false
holds (c ∷ cs) = c.holds || holds cs

-- the same as the code has it, from the left
abbrev holds_after : Bool → List Check → Bool
holds_after b [] = b
holds_after b (c ∷ cs) = holds_after (b || c.holds) cs

abbrev pub any_holds : List Check → Bool
any_holds [] = false
any_holds (c ∷ cs) = holds_after c.holds cs

-- the number of the first that holds, where one does: the last is not looked at
abbrev pub first_number : List Check → ℕ
first_number [] = 0
first_number (c ∷ []) = c.number
first_number (c ∷ d ∷ cs) = cond c.holds c.number (first_number (d ∷ cs))

from_left : (b : Bool) (cs : List Check) → holds_after b cs ≡ (b || holds cs)
from_left b [] = grind arith
from_left b (c ∷ cs) = grind (arith, from_left (b || c.holds) cs)

some_holds : (cs : List Check) → any_holds cs ≡ holds cs
some_holds [] = grind arith
some_holds (c ∷ cs) = from_left c.holds cs

-- where some check holds, that number is the one of the definition of refusals
first_number_same : (cs : List Check) → holds cs ≡ true → first_number cs ≡ first_of cs
first_number_same [] e = grind arith
first_number_same (c ∷ []) e = grind arith
first_number_same (c ∷ d ∷ cs) e = grind (arith, first_number_same (d ∷ cs))

none_holds : (cs : List Check) → holds cs ≡ false → first_of cs ≡ 0
none_holds [] e = grind arith
none_holds (c ∷ cs) e = grind (arith, none_holds cs)

all_clear : (cs : List Check) → Clear cs → holds cs ≡ false
all_clear [] n = grind arith
all_clear (c ∷ cs) n = grind (arith, all_clear cs)

-- ---- a stage branches on whether some check holds, and takes the number inside the branch
-- then the number is the refusal's, and not 0
pub refused : (cs : List Check) → T (numbered cs) → any_holds cs ≡ true → (n : ℕ) → n ≡ first_number cs → (n ≡ first_of cs) × (n ≡ 0 → ⊥)
refused cs t h n en = grind (arith, some_holds cs, first_number_same cs, all_clear cs, clear cs)

-- otherwise nothing is refused
pub passed : (cs : List Check) → any_holds cs ≡ false → first_of cs ≡ 0
passed cs h = grind (arith, some_holds cs, none_holds cs)
