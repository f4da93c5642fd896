-- The parts of some bytes between separators: the lines of an input, the fields of a line. Document 01: "fields not parted by one space"; "The last line may lack
-- its line end."
use Rattle.std.specs.Prelude.{ℕ, cond, List, [], ◌∷◌, eqb}
use Rattle.std.specs.List.{onto_first}

-- a byte in front of the first part
abbrev pub onto : ℕ → List (List ℕ) → List (List ℕ)
onto = onto_first

-- the parts of bytes; `end` is what no bytes give
abbrev pub cut : ℕ → List (List ℕ) → List ℕ → List (List ℕ)
cut separator end [] = end
cut separator end (b ∷ bs) = cond (eqb b separator) ([] ∷ cut separator end bs) (onto b (cut separator end bs))

-- lines: each has its line end (byte 10), which the last may lack, so nothing is left after a last line end
abbrev pub lines_of : List ℕ → List (List ℕ)
lines_of bytes = cut 10 [] bytes

-- fields: parted by one space (byte 32), so an empty field is left after a last space
abbrev pub fields_of : List ℕ → List (List ℕ)
fields_of line = cut 32 ([] ∷ []) line
