-- What is printed for an input of lines. Assumes nothing.
use Rattle.std.proofs.Common.{◌≡◌, ℕ, ◌+◌, ◌≤◌, ◌<◌, Bool, true, false, cond, not, ltb, List, ◌++◌, length, refl, arith, length-append}
use borrow.Author.Tests.{lt-ltb, le-ltb, ltb-false}
use Rattle.text.specs.declared.Writer.{Writer}
use Rattle.text.specs.Bytes.{bytes_of, same_bytes, Wrote}
use Rattle.text.specs.Parts.{lines_of}
use Rattle.text.proofs.BytesLaws.{join}
use Rattle.text.proofs.PartsLaws.{parts_bytes, parts_bytes_lines}
use Rattle.table.specs.Row.{bad_line}
use Rattle.table.specs.Printed.{printed, named}
use Rattle.table.proofs.RowLaws.{labelled_length}

module _ (names : List ℕ) (text : List (List ℕ) → List ℕ) (input : List ℕ) where
  module _ {w0 w1 w2 : Writer} (first : Wrote w0 names w1) where
    -- of an input that is too long
    pub wrote_long : 65536 < length input → Wrote w1 (bad_line 0) w2 → Wrote w0 (printed names text input) w2
    wrote_long long w = rw (lt-ltb 65536 (length input) long) (join w0 names (bad_line 0) first w)

    -- of any other
    pub wrote_lines : length input ≤ 65536 → {part : List ℕ} → text (lines_of input) ≡ part → Wrote w1 part w2 → Wrote w0 (printed names text input) w2
    wrote_lines short {part} e w = rw (le-ltb 65536 (length input) short, e) (join w0 names part first w)

  pub printed_length : (most : ℕ) → 30 ≤ most → (parts_bytes (lines_of input) ≤ 65537 → length (text (lines_of input)) ≤ most) → length (printed names text input) ≤ length names + most
  printed_length most m size = go (ltb 65536 (length input)) refl
    where
      go : (t : Bool) → ltb 65536 (length input) ≡ t → length (names ++ cond t (bad_line 0) (text (lines_of input))) ≤ length names + most
      go true e = omega (arith, length-append names (bad_line 0), labelled_length (bytes_of "bad line ") 0)
      go false e =
          omega (arith, length-append names (text (lines_of input)), size (omega (arith, parts_bytes_lines input, ltb-false 65536 (length input) e)))

-- a line that is compared with its names
pub by_names : (n : ℕ) {line found names text : List ℕ} {other : Bool} (later : List ℕ) → found ≡ line → names ≡ text → other ≡ not (same_bytes found names)
    → named n (same_bytes line text) later ≡ cond other (bad_line n) later
by_names n {line} {found} {names} later e f g = rw (g, ← e, ← f) (go (same_bytes found names))
  where
    go : (t : Bool) → cond t later (bad_line n) ≡ cond (not t) (bad_line n) later
    go true = refl
    go false = refl

pub named_length : (n : ℕ) (t : Bool) (later : List ℕ) (most : ℕ) → length later ≤ most → 30 ≤ most → length (named n t later) ≤ most
named_length n true later most h m = h
named_length n false later most h m = omega (arith, labelled_length (bytes_of "bad line ") n)
