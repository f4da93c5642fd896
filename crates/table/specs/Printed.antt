-- What is printed for an input of lines. Document 01: "Program nearbook reads standard input, at most 65,536 bytes"; "A bad line ... ends it with `bad line N` (from 1; 0 for
-- too long) ...; the names line is printed first in every case." A bill is printed so, too.
use Rattle.std.specs.Prelude.{ℕ, Bool, cond, List, ◌++◌, ltb, length}
use Rattle.text.specs.Parts.{lines_of}
use Rattle.table.specs.Row.{bad_line}

-- a line of names, and what the lines of the input give
abbrev pub printed : List ℕ → (List (List ℕ) → List ℕ) → List ℕ → List ℕ
printed names text input = names ++ cond (ltb 65536 (length input)) (bad_line 0) (text (lines_of input))

-- line n of the input is to have names; what follows it
abbrev pub named : ℕ → Bool → List ℕ → List ℕ
named n same later = cond same later (bad_line n)
