-- A line of two numbers, parted by one space; the width w is a parameter.
use Rattle.std.specs.Prelude.{ℕ, List, [], ◌∷◌, Option, None}
use Rattle.std.specs.Option.{option_zip}
use Rattle.text.specs.Parts.{fields_of}
use Rattle.text.specs.Number.{number_in}

-- two fields, each a number of w bits
abbrev pub pair_fields : ℕ → List (List ℕ) → Option (ℕ × ℕ)
pair_fields w [] = None
pair_fields w (a ∷ []) = None
pair_fields w (a ∷ b ∷ []) = option_zip (number_in w a) (number_in w b)
pair_fields w (a ∷ b ∷ c ∷ more) = None

unfoldable pub pair_in : ℕ → List ℕ → Option (ℕ × ℕ)
pair_in w line = pair_fields w (fields_of line)
