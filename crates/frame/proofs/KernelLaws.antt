-- Kernel mode by the address's words. Assumes nothing.
use Prim.Native.Nat.{ℕ}
use mathlib.Core.Bool.{◌&&◌, and_assoc}
use mathlib.Core.List.{List, ◌++◌}
use mathlib.Core.Path.{◌≡◌}
use native.Mathlib.Omega.{arith}
use lib.Dec.{eqb, ltb}
use lib.ListN.{take}
use Rattle.frame.specs.declared.Frame.{Frame}
use Rattle.frame.specs.Kernel.{word_bytes, all_zero, kernel_mode}
use Rattle.std.proofs.lemmas.Bool.Decides.{nat_tests}

-- a word is 0 where its four bytes are
word_zero : (w : ℕ) (rest : List ℕ) → all_zero (word_bytes w ++ rest) ≡ (eqb w 0 && all_zero rest)
word_zero w rest = grind (arith, nat_tests)

-- a word is below 65,536 where its first two bytes are 0
first_two_bytes : (w : ℕ) → all_zero (take 2 (word_bytes w)) ≡ ltb w 65536
first_two_bytes w = grind (arith, nat_tests)

pub kernel : (f : Frame)
    → (eqb f.this_address.a0 0 && eqb f.this_address.a1 0 && eqb f.this_address.a2 0 && eqb f.this_address.a3 0 && ltb f.this_address.a4 65536)
    ≡ kernel_mode f
unfolding kernel_mode
kernel f =
    let a = f.this_address in
    simp and_assoc
    (rw (
      word_zero a.a0 (word_bytes a.a1 ++ (word_bytes a.a2 ++ (word_bytes a.a3 ++ take 2 (word_bytes a.a4)))),
      word_zero a.a1 (word_bytes a.a2 ++ (word_bytes a.a3 ++ take 2 (word_bytes a.a4))),
      word_zero a.a2 (word_bytes a.a3 ++ take 2 (word_bytes a.a4)),
      word_zero a.a3 (take 2 (word_bytes a.a4)),
      first_two_bytes a.a4,
    ))
