-- What was spent beside what is held, after any lines. Document 02, CR 5: "From a listing's start, spend at depth 1 equals starting ergs less the total after each line that
-- leaves depth 1, up to the first refusal." Of the rows that nearbook prints: Rows.antt.
use Rattle.std.specs.Prelude.{ℕ, zero, suc, ◌+◌, Bool, true, ◌&&◌, ◌≡◌, ◌⊎◌, List, [], ◌∷◌, get_or}
use Rattle.std.specs.Result.{is_ok}
use Rattle.table.specs.declared.Line.{Line}
use Rattle.line_cycle.specs.LineCycle.{Holding, start_holding, line_answer, holding_after, total_held, spend_at}

-- ---- lines one after the other, from a holding on
-- "up to the first refusal": none of them is refused
unfoldable pub none_refused : ℕ → Holding → List Line → Bool
none_refused limit b [] = true
none_refused limit b (line ∷ lines) = is_ok (line_answer limit line b).answer && none_refused limit (holding_after limit line b) lines

unfoldable pub holding_after_lines : ℕ → Holding → List Line → Holding
holding_after_lines limit b [] = b
holding_after_lines limit b (line ∷ lines) = holding_after_lines limit (holding_after limit line b) lines

-- what they leave "from a listing's start"
abbrev pub from_start : ℕ → ℕ → List Line → Holding
from_start ergs limit lines = holding_after_lines limit (start_holding ergs) lines

-- ---- what was spent
-- what the places from 0 to a depth hold together
unfoldable pub places_to : ℕ → List ℕ → ℕ
places_to zero tally = get_or tally 0 0
places_to (suc depth) tally = get_or tally (suc depth) 0 + places_to depth tally

-- After any lines of which none is refused, at whatever depth they end: what the places of the open frames hold and what all frames hold are together the starting ergs.
abbrev pub ErgsAccounted : Type 0
ErgsAccounted =
    (ergs limit : ℕ) (lines : List Line)
    → none_refused limit (start_holding ergs) lines ≡ true
    → places_to (from_start ergs limit lines).state.depth (from_start ergs limit lines).tally + total_held (from_start ergs limit lines) ≡ ergs

-- "each line that leaves depth 1", in both senses: one that goes on from depth 1, and one after which the depth is 1
abbrev pub LeavesDepth1 : ℕ → Line → Holding → Type 0
LeavesDepth1 limit line b = (b.state.depth ≡ 1) ⊎ ((holding_after limit line b).state.depth ≡ 1)

-- After such a line, where no line before it was refused, nor itself: "spend at depth 1 equals starting ergs less the total". As a sum, so that nothing is cut off at 0.
abbrev pub SpendIsErgsLess : Type 0
SpendIsErgsLess =
    (ergs limit : ℕ) (lines : List Line) (line : Line)
    → none_refused limit (start_holding ergs) lines ≡ true
    → is_ok (line_answer limit line (from_start ergs limit lines)).answer ≡ true
    → LeavesDepth1 limit line (from_start ergs limit lines)
    → spend_at 1 (holding_after limit line (from_start ergs limit lines)) + total_held (holding_after limit line (from_start ergs limit lines)) ≡ ergs
