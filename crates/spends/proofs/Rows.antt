-- The rows of a listing say what was spent. Assumes nothing.
use Rattle.std.proofs.Common.{◌≡◌, ℕ, zero, suc, ◌+◌, ◌≤◌, ◌<◌, Bool, true, false, cond, Result, List, [], ◌∷◌, ◌++◌, append_assoc, get_or, ltb, eqb, ◌&&◌, drop, length, refl, sym, ap, ◌∙◌, arith, Ok, Err, Option, Some, None}
use Rattle.std.specs.Result.{is_ok}
use Rattle.refusal.specs.declared.Refusal.{Refusal}
use Rattle.refusal.specs.Refusal.{paper_number}
use Rattle.tally.specs.Tally.{entered, enter_refusal, tally_after}
use borrow.Author.Tests.{eq-eqb}
use Rattle.text.specs.Bytes.{bytes_of, same_bytes}
use Rattle.text.specs.Parts.{lines_of}
use Rattle.table.specs.declared.Line.{Line}
use Rattle.table.specs.declared.Row.{Row}
use Rattle.table.specs.declared.Start.{Start}
use Rattle.table.specs.Line.{line_of, start_of}
use Rattle.table.specs.Row.{row_text, bad_line}
use Rattle.line_cycle.specs.LineCycle.{Holding, start_holding, line_answer, entries_after, holding_after, printed_row}
use Rattle.table.specs.Printed.{named}
use Rattle.listing.specs.Listing.{going_on, line_text, lines_text, from_columns_line, from_values_line, from_names_line, listing_of}
use Rattle.spends.specs.Lines.{places_to}
use Rattle.spends.specs.Rows.{Ending, all_run, ends_bad, ends_refused, rows_text, depth_after, charges_since, all_charges, RowAddsUp, Listed, RowsAddUp}
use Rattle.tally.proofs.TallyLaws.{in_tally}
use Rattle.spends.proofs.Places.{entry_adds, entry_keeps, opened_at_0}
use native.Mathlib.Decide.{dec_lt}
use Rattle.spends.proofs.Lines.{Accounted, taken, line_accounted, start_accounted, own_and_total}

-- the rows so far, the latest first: the charges since the opening of each frame that is open are what its place and those above it hold
record Counted (earlier : List Row) (b : Holding) : Type 0 where
  depth_is : depth_after earlier ≡ b.state.depth
  counts : (d : ℕ) → d < b.state.depth → charges_since (suc d) earlier + places_to d b.tally ≡ places_to b.state.depth b.tally
  all_counted : places_to b.state.depth b.tally ≡ all_charges earlier

-- an entry from depth b to a adds its charge, and keeps the places below both
module _ (t : List ℕ) (limit b a c : ℕ) (e : enter_refusal t limit b a c ≡ 0) where
  abbrev then : List ℕ
  then = entered t b a c

  counts_on : (d since : ℕ) → d < a → (d < b → since + places_to d t ≡ places_to b t)
      → cond (eqb a (suc d) && ltb b (suc d)) 0 (c + since) + places_to d then ≡ places_to a then
  unfolding places_to
  counts_on d since l h = go (dec_lt d b)
    where
      go : Dec (d < b) → cond (eqb a (suc d) && ltb b (suc d)) 0 (c + since) + places_to d then ≡ places_to a then
      go (yes m) = grind (arith, h m, entry_keeps t b a c d m l, entry_adds t limit b a c e)
      go (no m) =
          let n = in_tally t limit b a c e in
          let opened : a ≡ suc d = omega (arith, n) in
          let zero = opened_at_0 t b a c (omega arith) n.1 in
          let place = ap (λ (k : ℕ). get_or then k 0) opened in
          let places : places_to a then ≡ get_or then (suc d) 0 + places_to d then = ap (λ (k : ℕ). places_to k then) opened in
          let test : (eqb a (suc d) && ltb b (suc d)) ≡ true = grind arith in
          rw test (omega (arith, zero, place, places))

-- so the place of the current frame holds the charges since its opening
own_is : (earlier : List Row) (b : Holding) → Counted earlier b → 1 ≤ b.state.depth → get_or b.tally b.state.depth 0 ≡ charges_since b.state.depth earlier
unfolding places_to
own_is earlier b k h = go b.state.depth h k.counts
  where
    go : (n : ℕ) → 1 ≤ n → ((d : ℕ) → d < n → charges_since (suc d) earlier + places_to d b.tally ≡ places_to n b.tally)
        → get_or b.tally n 0 ≡ charges_since n earlier
    go zero l c = absurd (omega arith)
    go (suc d) l c = omega (arith, c d (omega arith))

module _ (limit ergs n : ℕ) (line : Line) (earlier : List Row) (b : Holding) (a : Accounted ergs b) (k : Counted earlier b)
    (e : is_ok (line_answer limit line b).answer ≡ true) where
  -- what the line leaves, and the row that it prints
  abbrev left : Holding
  left = holding_after limit line b

  abbrev row : Row
  row = printed_row n line.op (line_answer limit line b).charge left

  accounted : Accounted ergs left
  accounted = line_accounted limit ergs line b e a

  counted : Counted (row ∷ earlier) left
  unfolding printed_row line_answer entries_after tally_after
  counted =
      let t = taken limit ergs line b e in
      let after = (line_answer limit line b).state.depth in
      let charge = (line_answer limit line b).charge in
      rw (t.finished, eq-eqb _ 0 t.entry)
      (record {
        depth_is = refl;
        counts = λ d l. rw k.depth_is (counts_on b.tally limit b.state.depth after charge t.entry d (charges_since (suc d) earlier) l (k.counts d));
        all_counted = omega (arith, entry_adds b.tally limit b.state.depth after charge t.entry, k.all_counted);
      })

  adds_up : RowAddsUp ergs earlier row
  unfolding printed_row places_to
  adds_up = record {
    all_inside = own_is (row ∷ earlier) left counted accounted.far.deep;
    charged_and_total = omega (arith, counted.all_counted, accounted.sum);
    own_and_total = own_and_total ergs left accounted;
  }

-- ---- lines
-- a listing that ends here
ended : (ergs : ℕ) (earlier : List Row) (text : List ℕ) → Ending text → Listed ergs earlier text
ended ergs earlier text e = record { rows = []; end_text = text; parts = refl; ends = e; add_up = tt }

module _ (limit ergs n : ℕ) (earlier : List Row) (b : Holding) (a : Accounted ergs b) (k : Counted earlier b) (lines : List (List ℕ))
    (later : (earlier : List Row) (b : Holding) → Accounted ergs b → Counted earlier b → Listed ergs earlier (lines_text limit (n + 1) b lines)) where
  run_listed : (line : Line) (answer : Result (Unit {0}) Refusal) → (line_answer limit line b).answer ≡ answer
      → Listed ergs earlier
      (going_on answer
      (row_text (printed_row n line.op (line_answer limit line b).charge (holding_after limit line b)) ++ lines_text limit (n + 1) (holding_after limit line b) lines))
  run_listed line (Err refusal) same = ended ergs earlier _ (ends_refused (paper_number refusal) refl)
  run_listed line (Ok done) same =
      let e : is_ok (line_answer limit line b).answer ≡ true = rw same refl in
      let first = printed_row n line.op (line_answer limit line b).charge (holding_after limit line b) in
      let l = later (first ∷ earlier) (holding_after limit line b) (accounted limit ergs n line earlier b a k e) (counted limit ergs n line earlier b a k e) in
      record {
        rows = first ∷ l.rows;
        end_text = l.end_text;
        parts = ap (λ (t : List ℕ). row_text first ++ t) l.parts ∙ sym (append_assoc (row_text first) (rows_text l.rows) l.end_text);
        ends = l.ends;
        add_up = (adds_up limit ergs n line earlier b a k e, l.add_up);
      }

  line_listed : (read : Option Line) → Listed ergs earlier (line_text limit n b read (λ next. lines_text limit (n + 1) next lines))
  line_listed None = ended ergs earlier _ (ends_bad (n + 3) refl)
  line_listed (Some line) = run_listed line (line_answer limit line b).answer refl

lines_listed : (limit ergs n : ℕ) (earlier : List Row) (b : Holding) (lines : List (List ℕ)) → Accounted ergs b → Counted earlier b
    → Listed ergs earlier (lines_text limit n b lines)
lines_listed limit ergs n earlier b [] a k = ended ergs earlier [] (all_run refl)
lines_listed limit ergs n earlier b (line ∷ lines) a k =
    line_listed limit ergs n earlier b a k lines (λ rows c x y. lines_listed limit ergs (n + 1) rows c lines x y) (line_of line)

start_counted : (ergs : ℕ) → Counted [] (start_holding ergs)
unfolding places_to
start_counted ergs = record { depth_is = refl; counts = λ d l. first d l; all_counted = refl }
  where
    first : (d : ℕ) → d < 1 → 0 + places_to d (start_holding ergs).tally ≡ 0
    first zero l = refl
    first (suc d) l = absurd (omega arith)

-- ---- the lines before them
-- a text that is what follows a test, or a bad line
tested : (ergs n : ℕ) (same : Bool) (text : List ℕ) → Listed ergs [] text → Listed ergs [] (named n same text)
tested ergs n true text l = l
tested ergs n false text l = ended ergs [] (bad_line n) (ends_bad n refl)

second : (lines : List (List ℕ)) → get_or (drop 1 lines) 0 [] ≡ get_or lines 1 []
second [] = refl
second (line ∷ lines) = refl

from_names : (lines : List (List ℕ)) (start : Start) → start_of (get_or lines 1 []) ≡ Some start → Listed start.ergs [] (from_names_line lines)
unfolding from_names_line from_values_line from_columns_line
from_names lines start e =
    rw (second lines, e)
    (tested start.ergs 1 (same_bytes (get_or lines 0 []) (bytes_of "ergs limit")) _
    (tested start.ergs 3 (same_bytes (get_or (drop 1 (drop 1 lines)) 0 []) (bytes_of "op price want")) _
    (lines_listed start.limit start.ergs 1 [] (start_holding start.ergs) (drop 1 (drop 1 (drop 1 lines))) (start_accounted start.ergs) (start_counted start.ergs))))

pub rows_add_up : RowsAddUp
unfolding listing_of
rows_add_up input start e = (_, refl, not_too_long (ltb 65536 (length input)) (from_names (lines_of input) start e))
  where
    not_too_long : (long : Bool) → Listed start.ergs [] (from_names_line (lines_of input))
        → Listed start.ergs [] (cond long (bad_line 0) (from_names_line (lines_of input)))
    not_too_long true l = ended start.ergs [] (bad_line 0) (ends_bad 0 refl)
    not_too_long false l = l
