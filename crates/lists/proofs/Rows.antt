-- Rows of two stores whose first rows are the same. Assumes nothing.
use Prim.Native.Nat.{ℕ, zero, suc, ◌+◌, ◌*◌, ◌≤◌, ◌<◌}
use mathlib.Core.Path.{◌≡◌, refl, sym, ap, ◌∙◌}
use mathlib.Core.List.{List}
use native.Mathlib.Omega.{arith}
use native.Mathlib.Nat.{mul-le-mul_right}
use lib.ListN.{take, drop}
use lib.Seq.{take-take}
use Rattle.std.proofs.lemmas.List.{drop-take}
use Rattle.lists.specs.Machine.{Machine, machine_row, first_rows}

module _ (M : Machine) where
  open M use {row_width, row_ergs}

  module _ (store other : List ℕ) (n : ℕ) (e : first_rows M n store ≡ first_rows M n other) where
    words_same : (k : ℕ) → k ≤ n * row_width → take k store ≡ take k other
    unfolding first_rows
    words_same k h = sym (take-take k (n * row_width) store h) ∙ ap (take k) e ∙ take-take k (n * row_width) other h

    pub fewer_same : (i : ℕ) → i ≤ n → first_rows M i store ≡ first_rows M i other
    unfolding first_rows
    fewer_same i h = words_same (i * row_width) (mul-le-mul_right row_width h)

    pub row_same : (i : ℕ) → i < n → machine_row M store i ≡ machine_row M other i
    unfolding machine_row
    row_same i h =
        sym (drop-take (i * row_width) row_width store)
        ∙ ap (drop (i * row_width)) (words_same (i * row_width + row_width) (omega (arith, mul-le-mul_right row_width h)))
        ∙ drop-take (i * row_width) row_width other

  -- the ergs in k rows from row i on
  unfoldable pub saved_ergs : List ℕ → ℕ → ℕ → ℕ
  saved_ergs store i zero = 0
  saved_ergs store i (suc k) = saved_ergs store i k + row_ergs (machine_row M store (i + k))

  pub saved_same : (store other : List ℕ) (i k : ℕ) → first_rows M (i + k) store ≡ first_rows M (i + k) other → saved_ergs store i k ≡ saved_ergs other i k
  unfolding saved_ergs
  saved_same store other i zero e = refl
  saved_same store other i (suc k) e =
      let p = saved_same store other i k (fewer_same store other (i + suc k) e (i + k) (omega arith)) in
      let q = row_same store other (i + suc k) e (i + k) (omega arith) in
      cc
