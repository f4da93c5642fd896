-- The nearbook listing: what is printed for the bytes of an input. Document 01: "A bad line ... ends it with `bad line N` (from 1; 0 for too long), a refusal with
-- `refused R`; the names line is printed first in every case."
use Rattle.std.specs.Prelude.{ℕ, ◌+◌, List, [], ◌∷◌, ◌++◌, Option, Some, None, Result, Ok, Err, get_or, drop}
use Rattle.text.specs.Bytes.{bytes_of, same_bytes}
use Rattle.table.specs.declared.Line.{Line}
use Rattle.table.specs.declared.Start.{Start}
use Rattle.table.specs.Line.{line_of, start_of}
use Rattle.table.specs.Row.{row_text, bad_line, refused_line, names_line}
use Rattle.table.specs.Printed.{printed, named}
use Rattle.refusal.specs.declared.Refusal.{Refusal}
use Rattle.refusal.specs.Refusal.{paper_number}
use Rattle.line_cycle.specs.LineCycle.{Holding, start_holding, line_answer, holding_after, printed_row}

-- what a line's cycle prints, which goes on so where nothing is refused
abbrev pub going_on : Result (Unit {0}) Refusal → List ℕ → List ℕ
going_on (Ok done) text = text
going_on (Err refusal) text = refused_line (paper_number refusal)

-- what a line prints, with what the lines after it print from what it leaves. Cycle n stands on line n + 3.
abbrev pub line_text : ℕ → ℕ → Holding → Option Line → (Holding → List ℕ) → List ℕ
line_text limit n b None later = bad_line (n + 3)
line_text limit n b (Some line) later =
    going_on (line_answer limit line b).answer
    (row_text (printed_row n line.op (line_answer limit line b).charge (holding_after limit line b)) ++ later (holding_after limit line b))

-- the lines from the fourth on, the first of which is cycle n
abbrev pub lines_text : ℕ → ℕ → Holding → List (List ℕ) → List ℕ
lines_text limit n b [] = []
lines_text limit n b (line ∷ lines) = line_text limit n b (line_of line) (λ next. lines_text limit (n + 1) next lines)

-- ---- the first three lines; a line that is missing is bad as an empty one is
unfoldable pub from_columns_line : ℕ → ℕ → List (List ℕ) → List ℕ
from_columns_line ergs limit lines = named 3 (same_bytes (get_or lines 0 []) (bytes_of "op price want")) (lines_text limit 1 (start_holding ergs) (drop 1 lines))

abbrev pub started : Option Start → List (List ℕ) → List ℕ
started None lines = bad_line 2
started (Some start) lines = from_columns_line start.ergs start.limit lines

unfoldable pub from_values_line : List (List ℕ) → List ℕ
from_values_line lines = started (start_of (get_or lines 0 [])) (drop 1 lines)

unfoldable pub from_names_line : List (List ℕ) → List ℕ
from_names_line lines = named 1 (same_bytes (get_or lines 0 []) (bytes_of "ergs limit")) (from_values_line (drop 1 lines))

unfoldable pub listing_of : List ℕ → List ℕ
listing_of input = printed names_line from_names_line input
