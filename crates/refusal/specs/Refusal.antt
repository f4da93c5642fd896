-- Refusals and their numbers. Document 01: "Checks run by number." A list of checks, each with the number it refuses with: the first that holds decides, and 0 is no
-- refusal.
use Rattle.std.specs.Prelude.{ℕ, ◌-◌, Bool, cond, List, [], ◌∷◌, Result, Ok, Err, get_or}
use Rattle.refusal.specs.declared.Refusal.{Refusal}

infix 20 ◌refuses◌
pub record Check : Type 0 where
  pub holds : Bool
  pub number : ℕ

abbrev pub ◌refuses◌ : Bool → ℕ → Check
b refuses n = record { holds = b; number = n }

abbrev pub first_of : List Check → ℕ
first_of [] = 0
first_of (c ∷ cs) = cond c.holds c.number (first_of cs)

-- document 01's table
abbrev pub paper_number : Refusal → ℕ
paper_number Refusal.Sizes = 1
paper_number Refusal.Turn = 2
paper_number Refusal.Record = 3
paper_number Refusal.EndedPending = 4
paper_number Refusal.Operation = 5
paper_number Refusal.Pointer = 6
paper_number Refusal.FarReturn = 7
paper_number Refusal.NoCaller = 8
paper_number Refusal.DepthLimit = 9
paper_number Refusal.PubdataSum = 10
paper_number Refusal.RevertCounter = 11
paper_number Refusal.ErgsSum = 12
paper_number Refusal.HeapBound = 13
paper_number Refusal.Above32Bits = 14
paper_number Refusal.TallyEntry = 15

-- the same from the number: the fifteen in order, from 1
abbrev pub refusals : List Refusal
refusals =
    Refusal.Sizes
    ∷ Refusal.Turn
    ∷ Refusal.Record
    ∷ Refusal.EndedPending
    ∷ Refusal.Operation
    ∷ Refusal.Pointer
    ∷ Refusal.FarReturn
    ∷ Refusal.NoCaller
    ∷ Refusal.DepthLimit
    ∷ Refusal.PubdataSum
    ∷ Refusal.RevertCounter
    ∷ Refusal.ErgsSum
    ∷ Refusal.HeapBound
    ∷ Refusal.Above32Bits
    ∷ Refusal.TallyEntry
    ∷ []

abbrev pub numbered_refusal : ℕ → Refusal
numbered_refusal n = get_or refusals (n - 1) Refusal.TallyEntry

-- the number of an answer's refusal, 0 where it is none
abbrev pub refusal_number : {A : Type 0} → Result A Refusal → ℕ
refusal_number (Ok answer) = 0
refusal_number (Err refusal) = paper_number refusal

-- the first whose check holds, and the last where none does
abbrev pub first_after : List (Bool × Refusal) → Refusal → Refusal
first_after [] last = last
first_after (c ∷ cs) last = cond c.0 c.1 (first_after cs last)
