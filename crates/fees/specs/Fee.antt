-- Fee units. Document 02, CR 11: "Bridge operators bill in units of a set number of ergs. For a spend and a unit the answer is the whole units and the ergs over ... Refused:
-- 23 for a unit of 0."
use Rattle.std.specs.Prelude.{ℕ, ◌+◌, ◌*◌, ◌/◌, ◌%◌, ◌≡◌, ◌<◌, cond, Result, Ok, Err, eqb}
use Rattle.fees.specs.declared.FeeUnits.{FeeUnits}
use Rattle.fees.specs.declared.ZeroUnit.{ZeroUnit}

abbrev pub fee_of : ℕ → ℕ → Result FeeUnits ZeroUnit
fee_of spend unit = cond (eqb unit 0) (Err record {}) (Ok record { units = spend / unit; rest = spend % unit })

-- the number of an answer's refusal, 0 where it is none
abbrev pub fee_number : Result FeeUnits ZeroUnit → ℕ
fee_number (Ok fee) = 0
fee_number (Err zero) = 23

-- "units times size plus the rest is the spend, and the rest is below the size"; the size is the unit's, in ergs
abbrev pub AddsUp : ℕ → ℕ → FeeUnits → Type 0
AddsUp spend unit fee = (fee.units * unit + fee.rest ≡ spend) × (fee.rest < unit)

-- that holds of each answer
abbrev pub FeesAddUp : Type 0
FeesAddUp = (spend unit : ℕ) (fee : FeeUnits) → fee_of spend unit ≡ Ok fee → AddsUp spend unit fee

-- and of nothing that is not the answer
abbrev pub NoOtherFee : Type 0
NoOtherFee = (spend unit : ℕ) (fee : FeeUnits) → AddsUp spend unit fee → fee_of spend unit ≡ Ok fee
