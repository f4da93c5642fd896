-- Bytes: those of a text, whether two are the same, and a buffer that they are written on.
use Rattle.std.specs.Prelude.{ℕ, ◌+◌, min, Bool, List, [], ◌∷◌, ◌≡◌, bytes_eq, length}
use Prim.Native.Char.{code}
use Prim.Native.String as string
use Prim.Native.String.{String}
use Rattle.std.proofs.lemmas.List.Edits.{sets}
use Rattle.text.specs.declared.Writer.{Writer}

-- the bytes of a text in ASCII
abbrev pub bytes_of : String → List ℕ
bytes_of string.[] = []
bytes_of (string.◌∷◌ c cs) = code c ∷ bytes_of cs

abbrev pub same_bytes : List ℕ → List ℕ → Bool
same_bytes = bytes_eq

-- text is written from a position of the buffer on, as far as there is room: the buffer afterwards, and the position after the text
abbrev pub buffer_after : List ℕ → ℕ → List ℕ → List ℕ
buffer_after buffer at text = sets buffer at text

abbrev pub position_after : List ℕ → ℕ → List ℕ → ℕ
position_after buffer at text = min (at + length text) (length buffer)

-- both, of the writer before and after; the buffer is still the one that was lent
pub record Wrote (old : Writer) (text : List ℕ) (new : Writer) : Type 0 where
  pub bytes : new.buffer.now ≡ buffer_after old.buffer.now old.position text
  pub position : new.position ≡ position_after old.buffer.now old.position text
  pub same : new.buffer.ghost_name ≡ old.buffer.ghost_name
