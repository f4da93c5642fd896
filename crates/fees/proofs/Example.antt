-- A bill, computed: an input gives its output, byte for byte. Assumes nothing.
use mathlib.Core.Path.{◌≡◌, refl}
use Rattle.text.specs.Bytes.{bytes_of}
use Rattle.text.specs.Number.{number_in}
use Rattle.text.specs.Pair.{pair_in}
use Rattle.fees.specs.Bill.{bill_from_names, bill_of}

pub example : bill_of (bytes_of "spend unit\n72 10\n42 10\n9 10\n928 1000\n18446744073709551615 4294967296\n5 0\n7 2\n")
    ≡ bytes_of "spend unit units rest\n72 10 7 2\n42 10 4 2\n9 10 0 9\n928 1000 0 928\n18446744073709551615 4294967296 4294967295 4294967295\nrefused 23\n"
unfolding bill_of bill_from_names number_in pair_in
example = refl
