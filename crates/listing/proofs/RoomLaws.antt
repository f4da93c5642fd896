-- A listing fits on its buffer. Assumes nothing.
use Prim.Native.Nat.{ℕ, ◌+◌, ◌*◌, ◌≤◌}
use Rattle.std.specs.Prelude.{Option, Some, None}
use mathlib.Core.Path.{◌≡◌, refl}
use mathlib.Core.List.{List, [], ◌∷◌, ◌++◌}
use native.Mathlib.Omega.{arith}
use lib.ListN.{length, drop, get_or, length-append}
use Rattle.text.specs.Bytes.{bytes_of, same_bytes}
use Rattle.text.specs.Parts.{lines_of}
use Rattle.text.proofs.PartsLaws.{parts_bytes, parts_bytes_drop}
use Rattle.table.specs.declared.Line.{Line}
use Rattle.table.specs.declared.Start.{Start}
use Rattle.table.specs.Line.{line_of, start_of}
use Rattle.table.specs.Row.{names_line}
use Rattle.table.proofs.LineLaws.{run_length}
use Rattle.table.proofs.PrintedLaws.{printed_length, named_length}
use Rattle.table.proofs.RowLaws.{row_length, labelled_length}
use Rattle.std.specs.Prelude.{Result, Ok, Err}
use Rattle.refusal.specs.declared.Refusal.{Refusal}
use Rattle.refusal.specs.Refusal.{paper_number}
use Rattle.line_cycle.specs.LineCycle.{Holding, start_holding, line_answer, holding_after, printed_row}
use Rattle.listing.proofs.ListingLaws.{cycle_row}
use Rattle.listing.specs.Listing.{going_on, line_text, lines_text, from_columns_line, started, from_values_line, from_names_line, listing_of}

-- a line prints at most 20 bytes for each of its own and its end
line_size : (limit n : ℕ) (b : Holding) (read : Option Line) (bytes : ℕ) → (later : Holding → List ℕ) (more : ℕ)
    → ((line : Line) → read ≡ Some line → 6 ≤ bytes) → ((next : Holding) → length (later next) ≤ more) → 30 ≤ more
    → length (line_text limit n b read later) ≤ 20 * (bytes + 1) + more
line_size limit n b None bytes later more k h m = omega (arith, labelled_length (bytes_of "bad line ") (n + 3))
line_size limit n b (Some line) bytes later more k h m = go (line_answer limit line b).answer
  where
    go : (answer : Result (Unit {0}) Refusal)
        → length (going_on answer (cycle_row limit n b line ++ later (holding_after limit line b)))
        ≤ 20 * (bytes + 1) + more
    go (Ok done) =
        omega (
          arith,
          length-append (cycle_row limit n b line) (later (holding_after limit line b)),
          row_length (printed_row n line.op (line_answer limit line b).charge (holding_after limit line b)),
          h (holding_after limit line b),
          k line refl,
        )
    go (Err refusal) = omega (arith, labelled_length (bytes_of "refused ") (paper_number refusal))

lines_size : (limit n : ℕ) (b : Holding) (lines : List (List ℕ)) → length (lines_text limit n b lines) ≤ 20 * parts_bytes lines + 30
unfolding parts_bytes
lines_size limit n b [] = omega arith
lines_size limit n b (l ∷ ls) =
    let k : length (lines_text limit n b (l ∷ ls)) ≤ 20 * (length l + 1) + (20 * parts_bytes ls + 30) =
    line_size limit n b (line_of l) (length l) (λ next. lines_text limit (n + 1) next ls) (20 * parts_bytes ls + 30)
    (λ line e. run_length l e) (λ next. lines_size limit (n + 1) next ls) (omega arith) in
    omega arith

third_size : (ergs limit : ℕ) (lines : List (List ℕ)) → length (from_columns_line ergs limit lines) ≤ 20 * parts_bytes lines + 30
unfolding from_columns_line
third_size ergs limit lines =
    named_length 3 (same_bytes (get_or lines 0 []) (bytes_of "op price want")) (lines_text limit 1 (start_holding ergs) (drop 1 lines)) (20 * parts_bytes lines + 30)
    (omega (arith, lines_size limit 1 (start_holding ergs) (drop 1 lines), parts_bytes_drop lines)) (omega arith)

started_size : (start : Option Start) (lines : List (List ℕ)) → length (started start lines) ≤ 20 * parts_bytes lines + 30
started_size None lines = omega (arith, labelled_length (bytes_of "bad line ") 2)
started_size (Some start) lines = third_size start.ergs start.limit lines

first_size : (lines : List (List ℕ)) → length (from_names_line lines) ≤ 20 * parts_bytes lines + 30
unfolding from_names_line from_values_line
first_size lines =
    named_length 1 (same_bytes (get_or lines 0 []) (bytes_of "ergs limit")) (from_values_line (drop 1 lines)) (20 * parts_bytes lines + 30)
    (omega (arith, started_size (start_of (get_or (drop 1 lines) 0 [])) (drop 1 (drop 1 lines)), parts_bytes_drop (drop 1 lines), parts_bytes_drop lines)) (omega arith)

-- the buffer has room for the whole listing
pub fits : (input : List ℕ) → length (listing_of input) ≤ 1310848
unfolding listing_of
fits input =
    let lines = lines_of input in
    omega (arith, printed_length names_line from_names_line input (20 * 65537 + 30) (omega arith) (λ few. omega (arith, first_size lines, few)))
