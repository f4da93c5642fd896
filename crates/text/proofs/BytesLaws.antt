-- Bytes compared, and written on a buffer. Assumes nothing.
use Prim.Native.Nat.{ℕ, suc, ◌+◌, ◌≤◌, ◌-◌, min}
use mathlib.Core.Bool.{Bool, true, false, ◌&&◌}
use mathlib.Core.Logic.{◌⊎◌, inl, inr}
use mathlib.Core.Path.{◌≡◌, refl, sym, ap, ◌∙◌}
use mathlib.Core.List.{List, [], ◌∷◌, ◌++◌}
use native.Mathlib.Nat.{add-zero, add-suc, suc-add, zero-add, min-eq_left}
use native.Mathlib.Decide.{dec_le}
use native.Mathlib.Omega.{arith}
use lib.Dec.{ltb}
use lib.ListN.{length, take, drop, set, length-append, drop_of_length-le}
use lib.Seq.{sets, sets-eq, length-sets, set_out, take_at, drop_at}
use borrow.Author.Tests.{ltb-false}
use borrow.Rule.Slice.PartMut.{put_mid}
use Rattle.std.proofs.lemmas.Bool.{and_cases}
use Rattle.std.proofs.lemmas.List.{take-append-drop, length-take-le, append_assoc, drop-drop}
use Rattle.std.proofs.lemmas.Slice.Eq.{bytes_eq-Decides}
use Rattle.text.specs.declared.Writer.{Writer}
use Rattle.text.specs.Bytes.{same_bytes, Wrote}

-- bytes of other lengths are not the same
pub same_length : (a b : List ℕ) → (length a ≡ length b → ⊥) → false ≡ same_bytes a b
same_length a b h = go (same_bytes a b) (bytes_eq-Decides a b).0
  where
    go : (t : Bool) → (t ≡ true → a ≡ b) → false ≡ t
    go true same = absurd (h (ap length (same refl)))
    go false same = refl

-- past its end the buffer is not written
sets_out : (buffer : List ℕ) (at : ℕ) (bytes : List ℕ) → length buffer ≤ at → sets buffer at bytes ≡ buffer
sets_out buffer at [] h = refl
sets_out buffer at (b ∷ bs) h = rw (set_out buffer at b h) (sets_out buffer (suc at) bs (omega arith))

-- a position past the end counts as the end
sets_min : (buffer : List ℕ) (at : ℕ) (bytes : List ℕ) → sets buffer (min at (length buffer)) bytes ≡ sets buffer at bytes
sets_min buffer at bytes = go (dec_le at (length buffer))
  where
    go : Dec (at ≤ length buffer) → sets buffer (min at (length buffer)) bytes ≡ sets buffer at bytes
    go (yes h) = rw (min-eq_left h)
    go (no h) = rw (sets_out buffer (min at (length buffer)) bytes (omega arith), sets_out buffer at bytes (omega arith))

-- two texts are written one after the other
sets_append : (buffer : List ℕ) (at : ℕ) (a b : List ℕ) → sets buffer at (a ++ b) ≡ sets (sets buffer at a) (at + length a) b
sets_append buffer at [] b = rw add-zero
sets_append buffer at (x ∷ xs) b = rw (add-suc, ← suc-add) (sets_append (set buffer at x) (suc at) xs b)

-- a text of which i bytes are written: the rest, written from here on, ends it
pub record Putting (old : Writer) (bytes : List ℕ) (now : Writer) (i : ℕ) : Type 0 where
  pub same : now.buffer.ghost_name ≡ old.buffer.ghost_name
  pub size : length now.buffer.now ≡ length old.buffer.now
  pub upto : i ≤ length bytes
  pub next : now.position ≡ min (old.position + i) (length old.buffer.now)
  pub rest : sets old.buffer.now old.position bytes ≡ sets now.buffer.now now.position (drop i bytes)

-- it ends with the bytes, or at the buffer's end
pub putting_done : (old : Writer) (bytes : List ℕ) (now : Writer) (i : ℕ) → Putting old bytes now i
    → (ltb i (length bytes) && ltb now.position (length now.buffer.now)) ≡ false → Wrote old bytes now
putting_done old bytes now i p stop = go (and_cases (ltb i (length bytes)) (ltb now.position (length now.buffer.now)) stop)
  where
    go : (ltb i (length bytes) ≡ false) ⊎ (ltb now.position (length now.buffer.now) ≡ false) → Wrote old bytes now
    go (inl e) =
        let all : length bytes ≤ i = ltb-false i (length bytes) e in
        record { bytes = sym (rw (drop_of_length-le bytes all) at p.rest); position = omega (arith, p.upto, p.next); same = p.same }
    go (inr e) =
        let full : length now.buffer.now ≤ now.position = ltb-false now.position (length now.buffer.now) e in
        record {
          bytes = sym (p.rest ∙ sets_out now.buffer.now now.position (drop i bytes) full);
          position = omega (arith, p.upto, p.next, p.size);
          same = p.same;
        }

-- a text, of which as much is copied as there is room for
pub sets_part : (buffer : List ℕ) (at : ℕ) (bytes : List ℕ) {start size : ℕ} → start ≡ min at (length buffer) → size ≡ min (length bytes) (length buffer - start)
    → {part : List ℕ} → part ≡ take size bytes → sets buffer at bytes ≡ sets (put_mid start (start + size - start) buffer part) (start + size) (drop size bytes)
sets_part buffer at bytes {start} {size} e f {part} g =
    let k : start + size - start ≡ size = omega arith in
    let long : length (take size bytes) ≡ size = length-take-le size bytes (omega arith) in
    let parts : sets buffer start (take size bytes ++ drop size bytes) ≡ sets (sets buffer start (take size bytes)) (start + size) (drop size bytes) =
    sets_append buffer start (take size bytes) (drop size bytes) ∙ rw long in
    let copy : sets buffer start (take size bytes) ≡ put_mid start (start + size - start) buffer part =
    sets-eq (take size bytes) buffer start (omega arith) ∙ rw (g, k, long, append_assoc, drop-drop size start buffer) in
    sym (rw e (sets_min buffer at bytes)) ∙ rw take-append-drop at parts ∙ ap (λ (l : List ℕ). sets l (start + size) (drop size bytes)) copy

-- what is written after what was written is written with it
pub join : (old : Writer) (a b : List ℕ) {between new : Writer} → Wrote old a between → Wrote between b new → Wrote old (a ++ b) new
join old a b {between} u v =
    let buffer = old.buffer.now in
    let at = old.position in
    let same : length between.buffer.now ≡ length buffer = ap length u.bytes ∙ length-sets buffer at a in
    let position : between.position ≡ min (at + length a) (length between.buffer.now) = u.position ∙ ap (min (at + length a)) (sym same) in
    record {
      bytes =
          v.bytes ∙ ap (λ (r : ℕ). sets between.buffer.now r b) position ∙ sets_min between.buffer.now (at + length a) b
          ∙ ap (λ (p : List ℕ). sets p (at + length a) b) u.bytes ∙ sym (sets_append buffer at a b);
      position = omega (arith, v.position, length-append a b);
      same = v.same ∙ u.same;
    }

module _ (old : Writer) where
  -- the same text, said in another way
  pub wrote_same : {a b : List ℕ} {new : Writer} → b ≡ a → Wrote old a new → Wrote old b new
  wrote_same e w = rw e w

  -- the buffer stays as long as it was
  wrote_length : (text : List ℕ) {new : Writer} → Wrote old text new → length new.buffer.now ≡ length old.buffer.now
  wrote_length text w = ap length w.bytes ∙ length-sets old.buffer.now old.position text

-- Of a text that is written from one writer on the rest is unwritten at another: written from there on it ends the text.
pub record Unwritten (old : Writer) (text rest : List ℕ) (now : Writer) : Type 0 where
  pub inside : now.position ≤ length now.buffer.now
  pub ends : (new : Writer) → Wrote now rest new → Wrote old text new

pub unwritten_whole : (old : Writer) (text : List ℕ) → old.position ≤ length old.buffer.now → Unwritten old text text old
unwritten_whole old text within = record { inside = within; ends = λ new w. w }

module _ {old : Writer} {text rest : List ℕ} {now : Writer} (p : Unwritten old text rest now) where
  -- nothing is left
  pub unwritten_none : rest ≡ [] → Wrote old text now
  unwritten_none e = rw e at p.ends now record { bytes = refl; position = omega (arith, p.inside); same = refl }

  module _ {new : Writer} where
    -- the last part is written
    pub unwritten_last : {part : List ℕ} → rest ≡ part → Wrote now part new → Wrote old text new
    unwritten_last e w = p.ends new (rw e w)

    -- a part is written, and others are left
    pub unwritten_part : (part later : List ℕ) → rest ≡ part ++ later → Wrote now part new → Unwritten old text later new
    unwritten_part part later e w = record {
      inside = omega (arith, w.position, wrote_length now part w);
      ends = λ end z. p.ends end (rw e (join now part later w z));
    }

-- a text that is written from the front of a buffer with room for it stands there, and the rest of the buffer is as it was
pub wrote_front : (text : List ℕ) (old : Writer) {new : Writer} → old.position ≡ 0 → length text ≤ length old.buffer.now → Wrote old text new
    → (new.position ≡ length text) × (take new.position new.buffer.now ≡ text) × (drop new.position new.buffer.now ≡ drop new.position old.buffer.now)
wrote_front text old {new} start room wrote =
    let buffer = old.buffer.now in
    let front : sets buffer 0 text ≡ text ++ drop (length text) buffer = sets-eq text buffer 0 (omega arith) ∙ rw zero-add in
    let n : new.position ≡ length text = omega (arith, wrote.position) in
    let written : new.buffer.now ≡ text ++ drop (length text) buffer = rw start at wrote.bytes ∙ front in
    (n, rw (n, written) (take_at text (drop (length text) buffer) (length text) refl), rw (n, written) (drop_at text (drop (length text) buffer) (length text) refl))
