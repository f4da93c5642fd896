-- What the rows that nearbook prints say of what was spent. Document 02, CR 5: "Wallet makers now quote a frame with all it opened. When a frame closes, its tally, the
-- return's charge included, is added to its caller's"; "From a listing's start, spend at depth 1 equals starting ergs less the total".
use Rattle.std.specs.Prelude.{ℕ, ◌+◌, cond, ◌&&◌, ◌≡◌, List, [], ◌∷◌, ◌++◌, Some, ltb, eqb, get_or}
use Rattle.text.specs.Parts.{lines_of}
use Rattle.table.specs.declared.Start.{Start}
use Rattle.table.specs.declared.Row.{Row}
use Rattle.table.specs.Line.{start_of}
use Rattle.table.specs.Row.{row_text, bad_line, refused_line, names_line}
use Rattle.listing.specs.Listing.{listing_of}

-- ---- the rows of a listing
-- how a listing ends after its last row
pub data Ending (text : List ℕ) : Type 0 where
  all_run : text ≡ [] → Ending text
  ends_bad : (n : ℕ) → text ≡ bad_line n → Ending text
  ends_refused : (number : ℕ) → text ≡ refused_line number → Ending text

abbrev pub rows_text : List Row → List ℕ
rows_text [] = []
rows_text (row ∷ rows) = row_text row ++ rows_text rows

-- ---- what a row says, given the rows before it, the latest first
-- the depth that these lead to: "It starts at depth 1"
abbrev pub depth_after : List Row → ℕ
depth_after [] = 1
depth_after (row ∷ earlier) = row.depth

-- the charges of the rows after the one that opened the frame of a depth, at whatever depth they were made; of all rows, where none opened it
abbrev pub charges_since : ℕ → List Row → ℕ
charges_since depth [] = 0
charges_since depth (row ∷ earlier) = cond (eqb row.depth depth && ltb (depth_after earlier) depth) 0 (row.charge + charges_since depth earlier)

-- all charges so far
abbrev pub all_charges : List Row → ℕ
all_charges [] = 0
all_charges (row ∷ earlier) = row.charge + all_charges earlier

pub record RowAddsUp (ergs : ℕ) (earlier : List Row) (row : Row) : Type 0 where
  -- "a frame with all it opened"
  pub all_inside : row.own ≡ charges_since row.depth (row ∷ earlier)
  -- whatever the depth: all charges so far are the starting ergs less the total
  pub charged_and_total : all_charges (row ∷ earlier) + row.total ≡ ergs
  -- "spend at depth 1 equals starting ergs less the total"
  pub own_and_total : row.depth ≡ 1 → row.own + row.total ≡ ergs

abbrev pub AllAddUp : ℕ → List Row → List Row → Type 0
AllAddUp ergs earlier [] = Unit {0}
AllAddUp ergs earlier (row ∷ rows) = RowAddsUp ergs earlier row × AllAddUp ergs (row ∷ earlier) rows

-- ---- of every listing
-- A text that goes on after some rows, the latest of them first: its own rows, and what follows the last one. Numbers below 10^19 are told apart by their digits, so that
-- these are the rows that stand there.
pub record Listed (ergs : ℕ) (earlier : List Row) (text : List ℕ) : Type 0 where
  pub rows : List Row
  pub end_text : List ℕ
  pub parts : text ≡ rows_text rows ++ end_text
  pub ends : Ending end_text
  pub add_up : AllAddUp ergs earlier rows

-- of every input whose second line gives the starting ergs, what is printed after the line of names
abbrev pub RowsAddUp : Type 0
RowsAddUp =
    (input : List ℕ) (start : Start)
    → start_of (get_or (lines_of input) 1 []) ≡ Some start
    → (text : List ℕ) × (listing_of input ≡ names_line ++ text) × Listed start.ergs [] text
