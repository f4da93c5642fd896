-- The ranges of a good row's words, which the private reading of a row requires; no public contract names them. sp, pc and handler have w bits.
use Rattle.std.specs.Prelude.{ℕ, ◌^◌, ◌≤◌, ◌<◌, List, length}
use Rattle.frame.specs.Row.{row_width, row_word}

pub record Bounds (w : ℕ) (row : List ℕ) : Type 0 where
  pub size : row_width ≤ length row
  pub sp : row_word row 17 < 2 ^ w
  pub pc : row_word row 18 < 2 ^ w
  pub handler : row_word row 19 < 2 ^ w
  pub this_shard : row_word row 21 < 2 ^ 8
  pub caller_shard : row_word row 22 < 2 ^ 8
  pub code_shard : row_word row 23 < 2 ^ 8
  pub static : row_word row 24 < 2
  pub local : row_word row 25 < 2
