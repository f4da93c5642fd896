-- Parts between separators. Assumes nothing.
use Rattle.std.proofs.Common.{◌≡◌, ℕ, suc, ◌+◌, ◌-◌, ◌≤◌, ◌<◌, min, Bool, true, false, cond, not, eqb, List, [], ◌∷◌, ◌++◌, length, get_or, take, drop, Option, Some, None, refl, sym, ap, ◌∙◌, arith, append_assoc, length-append}
use mathlib.Core.Logic.{◌≢◌}
use native.Mathlib.Decide.{dec_lt}
use lib.Seq.{take-suc, get_or-append_seam}
use borrow.Author.Tests.{eqb-true}
use Rattle.std.specs.Option.{MatchOption, unwrap_or}
use Rattle.std.specs.Str.{bytes_eq}
use Rattle.std.specs.List.{position_or_len, slice_split, IsFirstMatchOrLen}
use Rattle.std.proofs.lemmas.List.{take_rest, drop_min, take_at, length-take-le}
use Rattle.std.proofs.lemmas.List.Sums.{position_or_len_is}
use Rattle.std.proofs.lemmas.Slice.Eq.{strip_suffix_is}
use Rattle.std.proofs.lemmas.Bool.Decides.{Decides-eqb}
use denote.Ref.{Bor}
use Rattle.text.specs.Parts.{onto, lines_of, fields_of}

-- where the first line ends: at its line end, or with the bytes
abbrev line_end : List ℕ → ℕ
line_end bytes = position_or_len (λ b. eqb b 10) bytes

-- the first line, and those after its line end
lines_cut : (bytes : List ℕ) → 0 < length bytes → lines_of bytes ≡ take (line_end bytes) bytes ∷ lines_of (drop (line_end bytes + 1) bytes)
lines_cut [] h = absurd (omega arith)
lines_cut (b ∷ bs) h = go (eqb b 10) bs (lines_cut bs)
  where
    shift : (n : ℕ) (bs : List ℕ) → lines_of bs ≡ take n bs ∷ lines_of (drop (n + 1) bs) → onto b (lines_of bs) ≡ take (1 + n) (b ∷ bs) ∷ lines_of (drop (1 + n + 1) (b ∷ bs))
    shift n bs e =
        let k : 1 + n ≡ suc n = omega arith in
        let m : suc n + 1 ≡ suc (n + 1) = omega arith in
        rw (k, m) (ap (onto b) e)

    go : (t : Bool) (bs : List ℕ) → (0 < length bs → lines_of bs ≡ take (line_end bs) bs ∷ lines_of (drop (line_end bs + 1) bs))
        → cond t ([] ∷ lines_of bs) (onto b (lines_of bs))
        ≡ take (cond (not t) (1 + line_end bs) 0) (b ∷ bs) ∷ lines_of (drop (cond (not t) (1 + line_end bs) 0 + 1) (b ∷ bs))
    go true bs more = refl
    go false [] more = refl
    go false (c ∷ cs) more = shift (line_end (c ∷ cs)) (c ∷ cs) (more (omega arith))

-- the first line, from what stands up to and with the first line end, or is all
module _ (bytes : List ℕ) (line : Bor (List ℕ)) (others : List ℕ) {i : ℕ} (parts : bytes ≡ line.now ++ others) (long : length line.now ≡ min (i + 1) (length bytes))
    (first : IsFirstMatchOrLen (λ b. eqb b 10) bytes i) where
  -- where the first line ends
  end_is : line_end bytes ≡ min i (length bytes)
  end_is =
      position_or_len_is (λ b. eqb b 10) bytes (min i (length bytes)) 0 (omega arith) (λ k l. first.0 k 0 (omega arith) (omega arith))
      (λ l. let e : min i (length bytes) ≡ i = omega arith in rw e (first.1 (omega arith) 0))

  -- what was taken off stands in front
  front : take (length line.now) bytes ≡ line.now
  front = ap (take (length line.now)) parts ∙ take_at line.now others (length line.now) refl

  -- and ends with a line end, if there is one
  ended : i < length bytes → line.now ≡ take i bytes ++ (10 ∷ [])
  ended l =
      let n : length line.now ≡ suc i = omega arith in
      let ten : get_or bytes i 0 ≡ 10 = eqb-true (get_or bytes i 0) 10 (first.1 l 0) in
      sym front ∙ rw (n, take-suc bytes i 0 l, ten)

  module _ (cut : Option (Bor (List ℕ)))
      (strip : MatchOption cut (bytes_eq (drop (length line.now - 1) line.now) (10 ∷ []) ≡ false)
      (λ x. (bytes_eq (drop (length line.now - 1) line.now) (10 ∷ []) ≡ true) × (x.now ≡ take (length line.now - 1) line.now) × (length x.now + 1 ≡ length line.now))) where
    -- without that it is the first line
    stripped : (unwrap_or cut line).now ≡ take (line_end bytes) bytes
    stripped = go cut (strip_suffix_is Decides-eqb line.now (10 ∷ []) cut strip) (dec_lt i (length bytes))
      where
        go : (cut : Option (Bor (List ℕ))) → MatchOption cut ((front : List ℕ) → line.now ≢ front ++ (10 ∷ [])) (λ x. line.now ≡ x.now ++ (10 ∷ []))
            → Dec (i < length bytes) → (unwrap_or cut line).now ≡ take (line_end bytes) bytes
        go None none (yes l) = absurd (none (take i bytes) (ended l))
        go None none (no l) = let n : length line.now ≡ line_end bytes = omega (arith, end_is) in rw (← n) (sym front)
        go (Some x) some (yes l) =
            let n : line_end bytes ≡ i = omega (arith, end_is) in
            let k : length x.now ≡ i = omega (arith, simp length-append at (ap length some)) in
            rw n (sym (take_at x.now (10 ∷ []) i k) ∙ ap (take i) (sym some ∙ ended l) ∙ take_at (take i bytes) (10 ∷ []) i (omega (arith, length-take-le i bytes (omega arith))))
        go (Some x) some (no l) =
            let all : bytes ≡ x.now ++ (10 ∷ others) = parts ∙ ap (λ (front : List ℕ). front ++ others) some ∙ append_assoc x.now (10 ∷ []) others in
            let ten : get_or bytes (length x.now) 0 ≡ 10 = rw all (get_or-append_seam x.now 10 others 0) in
            let other : eqb (get_or bytes (length x.now) 0) 10 ≡ false = first.0 (length x.now) 0 (omega arith) (omega (arith, simp length-append at (ap length some))) in
            let clash : eqb 10 10 ≡ false = rw ten at other in
            absurd cc

    -- the lines are this one, and those of what is left
    pub lines_step : 0 < length bytes → lines_of bytes ≡ (unwrap_or cut line).now ∷ lines_of (take (length bytes - length line.now) (drop (length line.now) bytes))
    lines_step h =
        let n : length line.now ≡ min (line_end bytes + 1) (length bytes) = omega (arith, end_is) in
        lines_cut bytes h ∙ rw (take_rest bytes (length line.now), n, drop_min (line_end bytes + 1) bytes, stripped)

-- no more lines than bytes
pub lines_length : (bytes : List ℕ) → length (lines_of bytes) ≤ length bytes
lines_length [] = omega arith
lines_length (b ∷ bs) = go (eqb b 10) (lines_of bs) (lines_length bs)
  where
    go : (t : Bool) (ls : List (List ℕ)) → length ls ≤ length bs → length (cond t ([] ∷ ls) (onto b ls)) ≤ suc (length bs)
    go true ls h = omega arith
    go false [] h = omega arith
    go false (l ∷ ls) h = omega arith

-- the bytes of parts, with one for each part's end
unfoldable pub parts_bytes : List (List ℕ) → ℕ
parts_bytes [] = 0
parts_bytes (line ∷ lines) = length line + 1 + parts_bytes lines

-- of lines no more than the bytes they are of, and one more line end
pub parts_bytes_lines : (bytes : List ℕ) → parts_bytes (lines_of bytes) ≤ length bytes + 1
unfolding parts_bytes
parts_bytes_lines [] = omega arith
parts_bytes_lines (b ∷ bs) = go (eqb b 10) (lines_of bs) (parts_bytes_lines bs)
  where
    go : (t : Bool) (rest : List (List ℕ)) → parts_bytes rest ≤ length bs + 1 → parts_bytes (cond t ([] ∷ rest) (onto b rest)) ≤ suc (length bs) + 1
    go true rest h = omega arith
    go false [] h = omega arith
    go false (p ∷ ps) h = omega arith

pub parts_bytes_drop : (lines : List (List ℕ)) → parts_bytes (drop 1 lines) ≤ parts_bytes lines
unfolding parts_bytes
parts_bytes_drop [] = omega arith
parts_bytes_drop (l ∷ ls) = omega arith

-- fields are std's parts
pub fields_split : (line : List ℕ) → slice_split (λ b. eqb b 32) line ≡ fields_of line
fields_split [] = refl
fields_split (b ∷ bs) = ap (λ ps. cond (eqb b 32) ([] ∷ ps) (onto b ps)) (fields_split bs)

-- of fields the line's bytes, and one more
pub parts_bytes_fields : (line : List ℕ) → parts_bytes (fields_of line) ≡ length line + 1
unfolding parts_bytes
parts_bytes_fields [] = refl
parts_bytes_fields (b ∷ bs) = go (eqb b 32) (fields_of bs) (parts_bytes_fields bs)
  where
    go : (t : Bool) (rest : List (List ℕ)) → parts_bytes rest ≡ length bs + 1 → parts_bytes (cond t ([] ∷ rest) (onto b rest)) ≡ suc (length bs) + 1
    go true rest h = omega arith
    go false [] h = absurd (omega arith)
    go false (p ∷ ps) h = omega arith
