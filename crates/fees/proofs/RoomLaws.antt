-- A bill fits on its buffer. Assumes nothing.
use Rattle.std.proofs.Common.{◌≡◌, ℕ, ◌+◌, ◌*◌, ◌≤◌, List, [], ◌∷◌, Option, Some, None, Result, Ok, Err, length, drop, get_or, refl, arith, length-append}
use Rattle.text.specs.Bytes.{bytes_of, same_bytes}
use Rattle.text.specs.Parts.{lines_of}
use Rattle.text.specs.Pair.{pair_in}
use Rattle.text.proofs.PartsLaws.{parts_bytes, parts_bytes_drop}
use Rattle.text.proofs.NumberLaws.{digits_length}
use Rattle.text.proofs.PairLaws.{pair_length}
use Rattle.table.proofs.RowLaws.{labelled_length}
use Rattle.table.proofs.PrintedLaws.{printed_length, named_length}
use Rattle.fees.specs.declared.FeeUnits.{FeeUnits}
use Rattle.fees.specs.declared.ZeroUnit.{ZeroUnit}
use Rattle.fees.specs.Fee.{fee_of}
use Rattle.fees.specs.Bill.{bill_names, bill_row, bill_answer, bill_line, bill_lines, bill_from_names, bill_of}

-- a row has 84 bytes at most
row_length : (spend unit : ℕ) (fee : FeeUnits) → length (bill_row spend unit fee) ≤ 84
row_length spend unit fee =
    simp length-append (omega (arith, digits_length 19 spend, digits_length 19 unit, digits_length 19 fee.units, digits_length 19 fee.rest))

-- a line prints at most 21 bytes for each of its own and its end
line_size : (n : ℕ) (pair : Option (ℕ × ℕ)) (bytes : ℕ) (later : List ℕ) (more : ℕ) → ((x y : ℕ) → pair ≡ Some (x, y) → 3 ≤ bytes) → length later ≤ more → 30 ≤ more
    → length (bill_line n pair later) ≤ 21 * (bytes + 1) + more
line_size n None bytes later more long h m = omega (arith, labelled_length (bytes_of "bad line ") n)
line_size n (Some pair) bytes later more long h m = go (fee_of pair.0 pair.1)
  where
    go : (answer : Result FeeUnits ZeroUnit) → length (bill_answer pair.0 pair.1 answer later) ≤ 21 * (bytes + 1) + more
    go (Ok fee) =
        omega (arith, length-append (bill_row pair.0 pair.1 fee) later, row_length pair.0 pair.1 fee, long pair.0 pair.1 refl)
    go (Err zero) = omega (arith, labelled_length (bytes_of "refused ") 23)

lines_size : (n : ℕ) (lines : List (List ℕ)) → length (bill_lines n lines) ≤ 21 * parts_bytes lines + 30
unfolding parts_bytes
lines_size n [] = omega arith
lines_size n (l ∷ ls) =
    let k : length (bill_lines n (l ∷ ls)) ≤ 21 * (length l + 1) + (21 * parts_bytes ls + 30) =
    line_size n (pair_in 64 l) (length l) (bill_lines (n + 1) ls) (21 * parts_bytes ls + 30) (λ x y e. pair_length 64 l x y e) (lines_size (n + 1) ls) (omega arith) in
    omega arith

names_size : (lines : List (List ℕ)) → length (bill_from_names lines) ≤ 21 * parts_bytes lines + 30
unfolding bill_from_names
names_size lines =
    named_length 1 (same_bytes (get_or lines 0 []) (bytes_of "spend unit")) (bill_lines 2 (drop 1 lines)) (21 * parts_bytes lines + 30)
    (omega (arith, lines_size 2 (drop 1 lines), parts_bytes_drop lines)) (omega arith)

-- the buffer has room for the whole bill
pub fits : (input : List ℕ) → length (bill_of input) ≤ 1376384
unfolding bill_of
fits input =
    let lines = lines_of input in
    omega (arith, printed_length bill_names bill_from_names input (21 * 65537 + 30) (omega arith) (λ few. omega (arith, names_size lines, few)))
