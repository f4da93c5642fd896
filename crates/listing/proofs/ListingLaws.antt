-- What the lines of a listing print, one after the other. Assumes nothing.
use Rattle.std.proofs.Common.{◌≡◌, ℕ, ◌+◌, List, ◌∷◌, ◌++◌, Some, None}
use Rattle.std.specs.Prelude.{Ok, Err}
use Rattle.table.specs.declared.Line.{Line}
use Rattle.table.specs.Line.{line_of}
use Rattle.table.specs.Row.{row_text, bad_line, refused_line}
use Rattle.refusal.specs.declared.Refusal.{Refusal}
use Rattle.refusal.specs.Refusal.{paper_number}
use Rattle.line_cycle.specs.LineCycle.{Holding, line_answer, holding_after, printed_row}
use Rattle.listing.specs.Listing.{lines_text}

-- the row of the cycle of a line
abbrev pub cycle_row : ℕ → ℕ → Holding → Line → List ℕ
cycle_row limit n b line = row_text (printed_row n line.op (line_answer limit line b).charge (holding_after limit line b))

-- what the next line prints, with what those after it print
module _ {lines others : List (List ℕ)} {line : List ℕ} (limit n : ℕ) (b : Holding) (next : lines ≡ line ∷ others) where
  pub prints_bad : line_of line ≡ None → lines_text limit n b lines ≡ bad_line (n + 3)
  prints_bad e = rw (next, e)

  module _ {read : Line} (is : line_of line ≡ Some read) where
    pub prints_refused : (refusal : Refusal) → (line_answer limit read b).answer ≡ Err refusal → lines_text limit n b lines ≡ refused_line (paper_number refusal)
    prints_refused refusal e = rw (next, is, e)

    pub prints_row : (line_answer limit read b).answer ≡ Ok tt
        → lines_text limit n b lines ≡ cycle_row limit n b read ++ lines_text limit (n + 1) (holding_after limit read b) others
    prints_row e = rw (next, is, e)
