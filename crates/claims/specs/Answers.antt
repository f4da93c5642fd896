-- Demand 1: "Whoever calls a stage, with any state, record or frame store, gets a finished answer or one of fifteen refusals, and a refusal hands back the state it was
-- given and alters no word of the frame store or tally."
use Rattle.std.specs.Prelude.{ℕ, Bool, true, false, ◌||◌, ◌≡◌, ◌⊎◌, List, [], ◌∷◌, Ok, Err, eqb}
use Rattle.std.proofs.Math.Option.{some}
use Rattle.refusal.specs.declared.Refusal.{Refusal}
use Rattle.stages.specs.declared.State.{State}
use Rattle.tally.specs.Tally.{enter_of, tally_after}
use Rattle.stages.specs.Decode.{decode_of}
use Rattle.cycle.specs.Cycle.{decode_charge}
use Rattle.lists.specs.Machine.{Outcome, finished, charge_of}
use Rattle.lists.specs.Lists.{Call, fetch, decode, operands, execute, outcome_of}
use Rattle.lists.specs.Laws.{Unchanged}
use Rattle.claims.specs.Core.{core, CoreDecodeArgs, decode_outcome}

abbrev pub is_one_of : ℕ → List ℕ → Bool
is_one_of n [] = false
is_one_of n (m ∷ ms) = eqb n m || is_one_of n ms

-- the numbers that each stage refuses with
abbrev pub fetch_numbers : List ℕ
fetch_numbers = 1 ∷ 2 ∷ 4 ∷ []

abbrev pub decode_numbers : List ℕ
decode_numbers = 1 ∷ 2 ∷ 3 ∷ []

abbrev pub operands_numbers : List ℕ
operands_numbers = 1 ∷ 2 ∷ 3 ∷ 14 ∷ []

abbrev pub execute_numbers : List ℕ
execute_numbers = 1 ∷ 2 ∷ 3 ∷ 5 ∷ 6 ∷ 7 ∷ 8 ∷ 9 ∷ 10 ∷ 11 ∷ 12 ∷ 13 ∷ 14 ∷ []

abbrev pub numbers_of : Call core → List ℕ
numbers_of (fetch x) = fetch_numbers
numbers_of (decode x) = decode_numbers
numbers_of (operands x) = operands_numbers
numbers_of (execute x) = execute_numbers

-- a refusal with one of these numbers, after which all is as it was
pub record Refuses (numbers : List ℕ) (s : State) (store : List ℕ) (o : Outcome State) : Type 0 where
  pub number : ℕ
  pub told : o.refusal ≡ some number
  pub listed : is_one_of number numbers ≡ true
  pub unchanged : Unchanged core s store o

abbrev pub EveryCallAnswers : Type 0
EveryCallAnswers =
    (c : Call core) (s : State) (store : List ℕ)
    → (finished (outcome_of core c s store) ≡ true) ⊎ Refuses (numbers_of c) s store (outcome_of core c s store)

-- the tally refuses with 15 alone
pub record TallyRefusal (tally : List ℕ) (limit before after charge : ℕ) : Type 0 where
  pub told : enter_of tally limit before after charge ≡ Err Refusal.TallyEntry
  pub unchanged : tally_after tally limit before after charge ≡ tally

abbrev pub EveryEntryAnswers : Type 0
EveryEntryAnswers =
    (tally : List ℕ) (limit before after charge : ℕ)
    → (enter_of tally limit before after charge ≡ Ok tt) ⊎ TallyRefusal tally limit before after charge

-- Document 01: "The answer gives the flags and the charge." Where decode finishes, that charge is the one that demand 3 counts.
abbrev pub ChargeAnswered : Type 0
ChargeAnswered =
    (x : CoreDecodeArgs) (s : State) (store : List ℕ) → finished (decode_outcome x s store) ≡ true
    → decode_charge (decode_of x.settings x.records s store).answer ≡ charge_of core x s
