-- The words of a chunk. Assumes nothing.
use Rattle.std.proofs.Common.{◌≡◌, ℕ, zero, suc, ◌+◌, ◌*◌, ◌/◌, ◌%◌, ◌<◌, ◌≤◌, List, length, get_or, drop, ◌∙◌, ap, arith, add-zero, lit<}
use Rattle.std.proofs.lemmas.Bool.Decides.{nat_tests}
use Rattle.std.proofs.lemmas.List.{get_or-take, get_or-drop}
use Rattle.std.proofs.lemmas.Nat.{mod_below}
use Rattle.std.specs.Simd.{first_chunks}
use Rattle.bench_lines.specs.Line.{word_at}
use Rattle.bench_staged.specs.Memory.{word_indexed}

-- word i of chunk j, of k chunks of n words
pub get_or-first_chunks : (n k j i : ℕ) (xs chunk : List ℕ) → j < k → i < n → get_or (get_or (first_chunks n k xs) j chunk) i 0 ≡ get_or xs (j * n + i) 0
get_or-first_chunks n zero j i xs chunk h hi = grind arith
get_or-first_chunks n (suc k) zero i xs chunk h hi = get_or-take n xs i 0 hi ∙ ap (λ m. get_or xs m 0) (omega arith)
get_or-first_chunks n (suc k) (suc j) i xs chunk h hi =
    get_or-first_chunks n k j i (drop n xs) chunk (omega arith) hi ∙ get_or-drop n xs (j * n + i) 0 ∙ ap (λ m. get_or xs m 0) (omega arith)

-- the chunk of an index is its word
pub word_at-chunk : (words : List ℕ) (chunks : List (List ℕ)) (index : ℕ) (chunk : List ℕ)
    → chunks ≡ first_chunks 4 (length words / 4) words → length chunks ≡ length words / 4 → 0 < length chunks
    → word_at (get_or chunks (index % length chunks) chunk) 0 ≡ word_indexed words index
word_at-chunk words chunks index chunk e el some =
    let k : ℕ = length words / 4 in
    let h : index % k < k = mod_below index k (omega arith) in
    let whole : 4 ≤ length words = omega arith in
    rw (
      el,
      e,
      get_or-first_chunks 4 k (index % k) 0 words chunk h (lit< tt),
      get_or-first_chunks 4 k (index % k) 1 words chunk h (lit< tt),
      get_or-first_chunks 4 k (index % k) 2 words chunk h (lit< tt),
      get_or-first_chunks 4 k (index % k) 3 words chunk h (lit< tt),
      add-zero,
    ) (grind (arith, nat_tests))
