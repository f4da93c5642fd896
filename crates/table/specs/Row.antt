-- What a line of the output prints. Document 01: "cycle number, op read, charge, depth after, ergs of the current frame, ergs of all frames, its tally"; "A bad line ... ends
-- it with `bad line N`, a refusal with `refused R`; the names line is printed first in every case."
use Rattle.std.specs.Prelude.{ℕ, List, [], ◌∷◌, ◌++◌}
use Rattle.text.specs.Bytes.{bytes_of}
use Rattle.text.specs.Number.{digits_of}
use Rattle.table.specs.declared.Row.{Row}
use Rattle.table.specs.Line.{name_of}

abbrev pub names_line : List ℕ
names_line = bytes_of "cycle op charge depth held total own\n"

-- a number, and the byte after it: a space (32) or a line end (10)
abbrev pub field : ℕ → ℕ → List ℕ
field n separator = digits_of n ++ (separator ∷ [])

abbrev pub row_text : Row → List ℕ
row_text r =
    field r.cycle 32
    ++ (name_of r.op
    ++ ((32 ∷ [])
    ++ (field r.charge 32 ++ (field r.depth 32 ++ (field r.held 32 ++ (field r.total 32 ++ field r.own 10))))))

-- the last two a bill prints, too
abbrev pub bad_line : ℕ → List ℕ
bad_line n = bytes_of "bad line " ++ field n 10

abbrev pub refused_line : ℕ → List ℕ
refused_line number = bytes_of "refused " ++ field number 10
