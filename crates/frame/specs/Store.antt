-- The frame store: rows of words, one after the other, and the answers of saving and reading row i. Document 01: "Depth is the number of saved rows, the
-- oldest first." Who writes it, and when execution has ended: stages, `execute_store` and `is_ended`.
use Rattle.std.specs.Prelude.{ℕ, zero, suc, ◌+◌, ◌*◌, ◌/◌, cond, not, List, [], ◌∷◌, Result, Ok, Err, ◌++◌, ltb, length, take, drop}
use Rattle.frame.specs.declared.Frame.{Frame}
use Rattle.frame.specs.declared.RowError.{RowError}
use Rattle.frame.specs.Row.{row_width, row_of, frame_of, good_row}
use Rattle.refusal.specs.declared.Refusal.{Refusal}
use Rattle.refusal.specs.Refusal.{paper_number, first_of, ◌refuses◌}

-- "the store's whole rows"
abbrev pub whole_rows : List ℕ → ℕ
whole_rows store = length store / row_width

-- the words of row i
abbrev pub row_at : List ℕ → ℕ → List ℕ
row_at store i = take row_width (drop (i * row_width) store)

-- the store with the words of f as row i
abbrev pub store_with : List ℕ → ℕ → Frame → List ℕ
store_with store i f = take (i * row_width) store ++ (row_of f ++ drop ((i + 1) * row_width) store)

-- ---- why a row is not read or saved
-- Document 01 has no number for a missing row. It has that of "limit 0 or above the store's whole rows, or depth above limit", and after that check it cannot come: each
-- row below the limit is then in the store. A row that is not good has that of "the top row is not good", here for any row.
abbrev pub refusal_of : RowError → Refusal
refusal_of RowError.Missing = Refusal.Sizes
refusal_of RowError.NotGood = Refusal.NoCaller

-- the number of an answer, 0 where nothing is refused
abbrev pub row_number : {A : Type 0} → Result A RowError → ℕ
row_number (Ok answer) = 0
row_number (Err error) = paper_number (refusal_of error)

-- ---- saving f as row i
-- a row that is not among the store's whole rows is missing
unfoldable pub save_of : List ℕ → ℕ → Result (Unit {0}) RowError
save_of store i = cond (ltb i (whole_rows store)) (Ok tt) (Err RowError.Missing)

-- the store afterwards: where the row is missing, what was given
unfoldable pub saved_store : List ℕ → ℕ → Frame → List ℕ
saved_store store i f = cond (ltb i (whole_rows store)) (store_with store i f) store

-- the number by its check
abbrev pub save_refusal : List ℕ → ℕ → ℕ
save_refusal store i = first_of ((not (ltb i (whole_rows store)) refuses 1) ∷ [])

-- ---- reading row i, whose sp, pc and handler have w bits
unfoldable pub read_of : ℕ → List ℕ → ℕ → Result Frame RowError
read_of w store i =
    cond (ltb i (whole_rows store))
    (cond (good_row w (row_at store i)) (Ok (frame_of (row_at store i))) (Err RowError.NotGood))
    (Err RowError.Missing)

-- the number by its checks
abbrev pub read_refusal : ℕ → List ℕ → ℕ → ℕ
read_refusal w store i = first_of ((not (ltb i (whole_rows store)) refuses 1) ∷ (not (good_row w (row_at store i)) refuses 8) ∷ [])

-- ---- the ergs of the first rows, as many as are given
abbrev pub saved_ergs : ℕ → List ℕ → ℕ
saved_ergs zero store = 0
saved_ergs (suc i) store = (frame_of (row_at store i)).ergs_remaining + saved_ergs i store
