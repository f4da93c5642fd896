-- A bill: what is printed for the bytes of an input (docs/UNITS.md, D84). A line of names, then a spend and a unit in each line, numbers of 64 bits as a tally's are. By document
-- 01's words for the listing a line is bad for "a wrong name ..., a field missing or too many, fields not parted by one space, a value not plain decimal digits, above" 64 bits;
-- it "ends it with `bad line N` (from 1; 0 for too long), a refusal with `refused R`".
use Rattle.std.specs.Prelude.{ℕ, ◌+◌, List, [], ◌∷◌, ◌++◌, Option, Some, None, Result, Ok, Err, get_or, drop}
use Rattle.text.specs.Bytes.{bytes_of, same_bytes}
use Rattle.text.specs.Pair.{pair_in}
use Rattle.table.specs.Row.{field, bad_line, refused_line}
use Rattle.table.specs.Printed.{printed, named}
use Rattle.fees.specs.declared.FeeUnits.{FeeUnits}
use Rattle.fees.specs.declared.ZeroUnit.{ZeroUnit}
use Rattle.fees.specs.Fee.{fee_of, fee_number}

abbrev pub bill_names : List ℕ
bill_names = bytes_of "spend unit units rest\n"

-- the two values, the whole units, and the ergs over
abbrev pub bill_row : ℕ → ℕ → FeeUnits → List ℕ
bill_row spend unit fee = field spend 32 ++ (field unit 32 ++ (field fee.units 32 ++ field fee.rest 10))

-- what a line prints for its answer, with what the lines after it print
abbrev pub bill_answer : ℕ → ℕ → Result FeeUnits ZeroUnit → List ℕ → List ℕ
bill_answer spend unit (Ok fee) later = bill_row spend unit fee ++ later
bill_answer spend unit (Err zero) later = refused_line (fee_number (Err zero))

-- the same of line n of the input
abbrev pub bill_line : ℕ → Option (ℕ × ℕ) → List ℕ → List ℕ
bill_line n None later = bad_line n
bill_line n (Some pair) later = bill_answer pair.0 pair.1 (fee_of pair.0 pair.1) later

-- the lines from line n on
abbrev pub bill_lines : ℕ → List (List ℕ) → List ℕ
bill_lines n [] = []
bill_lines n (line ∷ lines) = bill_line n (pair_in 64 line) (bill_lines (n + 1) lines)

-- the first line has the names; if it is missing it is bad as an empty one is
unfoldable pub bill_from_names : List (List ℕ) → List ℕ
bill_from_names lines = named 1 (same_bytes (get_or lines 0 []) (bytes_of "spend unit")) (bill_lines 2 (drop 1 lines))

unfoldable pub bill_of : List ℕ → List ℕ
bill_of input = printed bill_names bill_from_names input
