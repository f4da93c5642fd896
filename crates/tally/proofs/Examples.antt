-- The charges of document 01's listing, at limit 4. Assumes nothing.
use mathlib.Core.Path.{◌≡◌, refl}
use mathlib.Core.List.{[], ◌∷◌}
use Rattle.tally.specs.Tally.{tally_after}

-- lines 1 to 4: 6 at depth 1, 25 there as a call opens depth 2, 6 at depth 2, 5 there as it closes
pub lines_1_to_4 : tally_after (tally_after (tally_after (tally_after (0 ∷ 0 ∷ 0 ∷ 0 ∷ 0 ∷ []) 4 1 1 6) 4 1 2 25) 4 2 2 6) 4 2 1 5 ≡ 0 ∷ 42 ∷ 11 ∷ 0 ∷ 0 ∷ []
unfolding tally_after
lines_1_to_4 = refl

-- line 5: a second call sets depth 2 to 0
pub line_5 : tally_after (0 ∷ 42 ∷ 11 ∷ 0 ∷ 0 ∷ []) 4 1 2 25 ≡ 0 ∷ 67 ∷ 0 ∷ 0 ∷ 0 ∷ []
unfolding tally_after
line_5 = refl
