-- Bytes read into a buffer, part by part. Assumes nothing.
use Rattle.std.proofs.Common.{◌≡◌, ℕ, ◌+◌, ◌-◌, ◌≤◌, List, ◌++◌, Option, length, take, drop, ap, ◌∙◌, arith, le_refl, drop_at, length-take-le}
use lib.ListN.{length-append, length-take, length-drop}
use lib.Seq.{take-add, take-append-le}
use borrow.Rule.Slice.PartMut.{put_mid, post_of}
use Rattle.std.specs.Io.KnownBytes.{Consumes, Keeps}
use Rattle.std.proofs.KnownBytes.{Consumes-trans, Consumes-kept}
use Rattle.std.proofs.lemmas.Slice.{take-put_mid_below}

-- a reader's bytes up to here stand in front of the buffer
module _ (a b c : Option (List ℕ)) (at : ℕ) (buffer part : List ℕ) (within : at ≤ length buffer) (before : Consumes a b (take at buffer)) where
  -- after a read of n bytes more they do, too
  pub read_more : (n : ℕ) → n ≤ length part → length part ≡ length buffer - at → Consumes b c (take n part)
      → (at + n ≤ length (put_mid at (length buffer - at) buffer part)) × Consumes a c (take (at + n) (put_mid at (length buffer - at) buffer part))
  read_more n fits long read =
      let new = put_mid at (length buffer - at) buffer part in
      let after = post_of at (length buffer - at) buffer in
      let same : length new ≡ length buffer = simp (length-append, length-take, length-drop) (omega arith) in
      let behind : take n (drop at new) ≡ take n part = ap (take n) (drop_at (take at buffer) (part ++ after) at (length-take-le at buffer within)) ∙ take-append-le n part after fits in
      let front : take (at + n) new ≡ take at buffer ++ take n part =
      take-add at n new ∙ rw (take-put_mid_below at (length buffer - at) buffer part at (le_refl at) within, behind) in
      (omega arith, rw front (Consumes-trans a b c (take at buffer) (take n part) before read))

  -- after a read that failed they do still
  pub read_none : Keeps b c → Consumes a c (take at (put_mid at (length buffer - at) buffer part))
  read_none kept = rw (take-put_mid_below at (length buffer - at) buffer part at (le_refl at) within) (Consumes-kept a b c (take at buffer) before kept)
