-- Lines billed one after the other. Assumes nothing.
use Rattle.std.proofs.Common.{◌≡◌, ℕ, ◌+◌, List, ◌∷◌, ◌++◌}
use Rattle.std.specs.Prelude.{Some, None, Ok, Err}
use Rattle.text.specs.declared.Writer.{Writer}
use Rattle.text.specs.Bytes.{Wrote}
use Rattle.text.specs.Pair.{pair_in}
use Rattle.text.proofs.BytesLaws.{join}
use Rattle.table.specs.Row.{field, bad_line, refused_line}
use Rattle.fees.specs.declared.FeeUnits.{FeeUnits}
use Rattle.fees.specs.declared.ZeroUnit.{ZeroUnit}
use Rattle.fees.specs.Fee.{fee_of, fee_number}
use Rattle.fees.specs.Bill.{bill_row, bill_lines}

-- the parts of a row, written one after the other
pub wrote_row : (w0 : Writer) (spend unit : ℕ) (fee : FeeUnits) {w1 w2 w3 w4 : Writer}
    → Wrote w0 (field spend 32) w1 → Wrote w1 (field unit 32) w2 → Wrote w2 (field fee.units 32) w3 → Wrote w3 (field fee.rest 10) w4
    → Wrote w0 (bill_row spend unit fee) w4
wrote_row w0 spend unit fee {w1} {w2} p1 p2 p3 p4 =
    join w0 (field spend 32) (field unit 32 ++ (field fee.units 32 ++ field fee.rest 10)) p1
    (join w1 (field unit 32) (field fee.units 32 ++ field fee.rest 10) p2
    (join w2 (field fee.units 32) (field fee.rest 10) p3 p4))

-- what the next line prints, with what those after it print
module _ {lines others : List (List ℕ)} {line : List ℕ} (n : ℕ) (next : lines ≡ line ∷ others) where
  pub prints_bad : pair_in 64 line ≡ None → bill_lines n lines ≡ bad_line n
  prints_bad e = rw (next, e)

  module _ {spend unit : ℕ} (pair : pair_in 64 line ≡ Some (spend, unit)) where
    pub prints_refused : (zero : ZeroUnit) → fee_of spend unit ≡ Err zero → bill_lines n lines ≡ refused_line (fee_number (Err zero))
    prints_refused zero e = rw (next, pair, e)

    pub prints_row : (fee : FeeUnits) → fee_of spend unit ≡ Ok fee → bill_lines n lines ≡ bill_row spend unit fee ++ bill_lines (n + 1) others
    prints_row fee e = rw (next, pair, e)
