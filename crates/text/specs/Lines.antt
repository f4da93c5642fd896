-- The lines that are left of some bytes; what a line is, Parts.antt says.
use Rattle.std.specs.Prelude.{ℕ, List}
use Rattle.text.specs.declared.Lines.{Lines}
use Rattle.text.specs.Parts.{lines_of}

abbrev pub lines_left : Lines → List (List ℕ)
lines_left s = lines_of s.rest.now
