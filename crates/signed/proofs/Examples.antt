-- Sums and differences at both ends of 32 signed bits, and one past. Assumes nothing.
use mathlib.Core.Path.{◌≡◌, refl}
use lib.IntN.{pos, negsuc}
use Rattle.std.specs.Prelude.{Some, None}
use Rattle.signed.specs.Signed.{checked_of, checked_sum, checked_difference}

-- 2,147,483,646 + 1 and 2,147,483,647 + 1
pub sum_top : (checked_sum (pos 2147483646) (pos 1) ≡ Some (pos 2147483647)) × (checked_sum (pos 2147483647) (pos 1) ≡ None)
unfolding checked_of
sum_top = (refl, refl)

-- -2,147,483,647 + -1 and -2,147,483,648 + -1
pub sum_bottom : (checked_sum (negsuc 2147483646) (negsuc 0) ≡ Some (negsuc 2147483647)) × (checked_sum (negsuc 2147483647) (negsuc 0) ≡ None)
unfolding checked_of
sum_bottom = (refl, refl)

-- -1 - -2,147,483,648 and 0 - -2,147,483,648
pub difference_top : (checked_difference (negsuc 0) (negsuc 2147483647) ≡ Some (pos 2147483647)) × (checked_difference (pos 0) (negsuc 2147483647) ≡ None)
unfolding checked_of
difference_top = (refl, refl)

-- -2,147,483,648 - 0 and -2,147,483,648 - 1
pub difference_bottom : (checked_difference (negsuc 2147483647) (pos 0) ≡ Some (negsuc 2147483647)) × (checked_difference (negsuc 2147483647) (pos 1) ≡ None)
unfolding checked_of
difference_bottom = (refl, refl)
