-- What a line of the listing says. Document 01: "a line of names, then values in that order. `op` is add, call, ok, revert or panic; want is what a call requests;
-- ... limit 1 to 16"; a bad line has "a wrong name or op, a field missing or too many, fields not parted by one space, a value not plain decimal digits, above 32 bits,
-- or a limit outside its range". The two lines of names are in listing/specs/Listing.antt.
use Rattle.std.specs.Prelude.{ℕ, cond, ◌&&◌, List, [], ◌∷◌, Option, Some, None, leb}
use Rattle.std.specs.Bool.{then_some}
use Rattle.std.specs.Option.{option_and_then}
use Rattle.text.specs.Bytes.{bytes_of, same_bytes}
use Rattle.text.specs.Parts.{fields_of}
use Rattle.text.specs.Number.{number_of}
use Rattle.text.specs.Pair.{pair_in}
use Rattle.table.specs.declared.Op.{Op}
use Rattle.table.specs.declared.Line.{Line}
use Rattle.table.specs.declared.Start.{Start}

abbrev pub name_of : Op → List ℕ
name_of Op.Add = bytes_of "add"
name_of Op.Call = bytes_of "call"
name_of Op.Ok = bytes_of "ok"
name_of Op.Revert = bytes_of "revert"
name_of Op.Panic = bytes_of "panic"

-- the op that has this name
unfoldable pub op_of : List ℕ → Option Op
op_of field =
    cond (same_bytes field (name_of Op.Add)) (Some Op.Add)
    (cond (same_bytes field (name_of Op.Call)) (Some Op.Call)
    (cond (same_bytes field (name_of Op.Ok)) (Some Op.Ok)
    (cond (same_bytes field (name_of Op.Revert)) (Some Op.Revert)
    (cond (same_bytes field (name_of Op.Panic)) (Some Op.Panic) None))))

-- a line `op price want`
abbrev pub line_from : Option Op → Option ℕ → Option ℕ → Option Line
line_from None price want = None
line_from (Some op) None want = None
line_from (Some op) (Some price) None = None
line_from (Some op) (Some price) (Some want) = Some record { op = op; price = price; want = want }

abbrev pub line_fields : List (List ℕ) → Option Line
line_fields [] = None
line_fields (a ∷ []) = None
line_fields (a ∷ b ∷ []) = None
line_fields (a ∷ b ∷ c ∷ []) = line_from (op_of a) (number_of b) (number_of c)
line_fields (a ∷ b ∷ c ∷ d ∷ more) = None

unfoldable pub line_of : List ℕ → Option Line
line_of line = line_fields (fields_of line)

-- the second line, `ergs limit`
abbrev pub start_with : ℕ × ℕ → Option Start
start_with pair = then_some (leb 1 pair.1 && leb pair.1 16) record { ergs = pair.0; limit = pair.1 }

unfoldable pub start_of : List ℕ → Option Start
start_of line = option_and_then start_with (pair_in 32 line)
