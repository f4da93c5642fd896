-- Conditions. Document 01: "condition 0 to 7 in the order of the Rust's `match`": always, greater, less, equal, greater or equal, less or equal, not equal, greater
-- or less.
use Rattle.std.specs.Prelude.{ℕ, Bool, true, false, not, ◌||◌, List, [], ◌∷◌, slice_index_or}
use Rattle.records.specs.declared.Flags.{Flags}

abbrev pub conditions : Flags → List Bool
conditions f =
    true
    ∷ f.greater_than_flag
    ∷ f.overflow_or_less_than_flag
    ∷ f.equality_flag
    ∷ (f.greater_than_flag || f.equality_flag)
    ∷ (f.overflow_or_less_than_flag || f.equality_flag)
    ∷ not f.equality_flag
    ∷ (f.greater_than_flag || f.overflow_or_less_than_flag)
    ∷ []

abbrev pub condition_holds : ℕ → Flags → Bool
condition_holds n f = slice_index_or (conditions f) n false
