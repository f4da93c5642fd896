-- Rows of the frame store: saved, read back, and left as they were. Assumes nothing.
use Prim.Native.Nat.{ℕ, zero, suc, min, ◌+◌, ◌-◌, ◌*◌, ◌/◌, ◌≤◌, ◌<◌}
use mathlib.Core.Bool.{Bool, true, false, cond}
use mathlib.Core.Path.{◌≡◌, refl, sym, ap, ◌∙◌}
use mathlib.Core.Logic.{◌↔◌, ◌⊎◌, inl, inr}
use mathlib.Core.List.{List, [], ◌∷◌, ◌++◌, append-nil}
use Rattle.std.specs.Prelude.{Result, Ok, Err}
use native.Mathlib.Omega.{arith}
use native.Mathlib.Nat.{zero-add, add-zero, suc-add}
use lib.Dec.{ltb, leb}
use lib.ListN.{length, take, drop, length-drop, length-append}
use lib.Seq.{take_all, drop-length, drop-drop, drop_at, take-take, take-append-le, drop-append-add, length-take-le, ext_get_or}
use borrow.Author.Tests.{lt-ltb, le-ltb, le-leb, ltb-true, ltb-false}
use Rattle.std.proofs.lemmas.Bool.{cond_both}
use Rattle.std.proofs.lemmas.List.{drop-take, drop_all}
use Rattle.frame.specs.declared.Frame.{Frame}
use Rattle.frame.specs.declared.RowError.{RowError}
use Rattle.frame.specs.Bounds.{Bounds}
use Rattle.frame.specs.Row.{row_width, row_of, row_word, frame_of, good_row}
use Rattle.frame.specs.Store.{whole_rows, row_at, store_with, row_number, save_of, saved_store, save_refusal, read_of, read_refusal, saved_ergs}
use Rattle.frame.proofs.RowLaws.{Ranges, bounds, good_of_frame, frame_of_row}

-- a row that the store has lies in it whole
fits : (n i : ℕ) → i < n / row_width → (i + 1) * row_width ≤ n
fits n i h = omega arith

next_row : (i : ℕ) → i * row_width + row_width ≡ (i + 1) * row_width
next_row i = omega arith

row_size : (store : List ℕ) (i : ℕ) → i < whole_rows store → length (row_at store i) ≡ row_width
row_size store i h =
    length-take-le row_width (drop (i * row_width) store) (omega (arith, length-drop (i * row_width) store, fits (length store) i h))

-- the last row of the first k + 1 rows
row_of_front : (store : List ℕ) (k : ℕ) → drop (k * row_width) (take ((k + 1) * row_width) store) ≡ row_at store k
row_of_front store k = ap (λ (n : ℕ). drop (k * row_width) (take n store)) (sym (next_row k)) ∙ drop-take (k * row_width) row_width store

-- ---- reading
module _ (w : ℕ) (store : List ℕ) (i : ℕ) where
  -- an answer, with its number
  abbrev pub Read : Result Frame RowError → Type 0
  Read r = (r ≡ read_of w store i) × (row_number r ≡ read_refusal w store i)

  pub read_missing : whole_rows store ≤ i → Read (Err RowError.Missing)
  unfolding read_of
  read_missing h = rw (le-ltb i (whole_rows store) h) (refl, refl)

  -- the words are the first of the part of the store that begins at the row
  module _ (h : i < whole_rows store) (words : List ℕ) (first : words ≡ take row_width (take (length store - i * row_width) (drop (i * row_width) store)))
      (b : Bool) (e : b ≡ good_row w words) where
    same : words ≡ row_at store i
    same = first ∙ take-take row_width (length store - i * row_width) (drop (i * row_width) store) (omega (arith, fits (length store) i h))

    pub good_bounds : b ≡ true → Bounds w words
    good_bounds t = bounds w words (rw same (omega (arith, row_size store i h))) (sym e ∙ t)

    pub read_good : b ≡ true → (f : Frame) → f ≡ frame_of words → Read (Ok f)
    unfolding read_of
    read_good t f q = rw (lt-ltb i (whole_rows store) h, ← same, ← e, t, q) (refl, refl)

    pub read_not_good : b ≡ false → Read (Err RowError.NotGood)
    unfolding read_of
    read_not_good t = rw (lt-ltb i (whole_rows store) h, ← same, ← e, t) (refl, refl)

-- ---- saving
module _ (store : List ℕ) (i : ℕ) (f : Frame) where
  -- an answer, with its number, and the store after it
  abbrev pub Saves : Result (Unit {0}) RowError → List ℕ → Type 0
  Saves r after = (r ≡ save_of store i) × (row_number r ≡ save_refusal store i) × (after ≡ saved_store store i f)

  pub save_missing : whole_rows store ≤ i → Saves (Err RowError.Missing) store
  unfolding save_of saved_store
  save_missing h = rw (le-ltb i (whole_rows store) h) (refl, refl, refl)

  -- what a callee wrote at the front of the part that begins at the row, said of the whole store
  module _ (h : i < whole_rows store) (last : List ℕ)
      (e : last ≡ (let part : List ℕ = take (length store - i * row_width) (drop (i * row_width) store) in cond (leb row_width (length part)) (row_of f ++ drop row_width part) part)) where
    written : take (i * row_width) store ++ (last ++ drop (length store - i * row_width) (drop (i * row_width) store)) ≡ store_with store i f
    written =
        let all : take (length store - i * row_width) (drop (i * row_width) store) ≡ drop (i * row_width) store =
        take_all (length store - i * row_width) (drop (i * row_width) store) (omega (arith, length-drop (i * row_width) store)) in
        let none : drop (length store - i * row_width) (drop (i * row_width) store) ≡ [] =
        ap (λ (n : ℕ). drop n (drop (i * row_width) store)) (sym (length-drop (i * row_width) store)) ∙ drop-length (drop (i * row_width) store) in
        let next : drop row_width (drop (i * row_width) store) ≡ drop ((i + 1) * row_width) store =
        drop-drop row_width (i * row_width) store ∙ ap (λ (n : ℕ). drop n store) (next_row i) in
        let room : leb row_width (length (drop (i * row_width) store)) ≡ true =
        le-leb row_width (length (drop (i * row_width) store)) (omega (arith, length-drop (i * row_width) store, fits (length store) i h)) in
        rw (e, all, room, none, append-nil (row_of f ++ drop row_width (drop (i * row_width) store)), next)

    pub save_done : Saves (Ok tt) (take (i * row_width) store ++ (last ++ drop (length store - i * row_width) (drop (i * row_width) store)))
    unfolding save_of saved_store
    save_done = rw (lt-ltb i (whole_rows store) h) (refl, refl, written)

-- ---- what a saved row leaves, and what is read from it
module _ (store : List ℕ) (i : ℕ) (f : Frame) where
  module _ (h : i < whole_rows store) where
    before : length (take (i * row_width) store) ≡ i * row_width
    before = length-take-le (i * row_width) store (omega (arith, fits (length store) i h))

    with_length : length (store_with store i f) ≡ length store
    with_length = simp (length-append, length-drop, before) (omega (arith, fits (length store) i h))

    with_below : (k : ℕ) → k ≤ i → take (k * row_width) (store_with store i f) ≡ take (k * row_width) store
    with_below k l =
        take-append-le (k * row_width) (take (i * row_width) store) _ (omega (arith, before))
        ∙ take-take (k * row_width) (i * row_width) store (omega arith)

    with_row : row_at (store_with store i f) i ≡ row_of f
    with_row = rw (drop_at (take (i * row_width) store) (row_of f ++ drop ((i + 1) * row_width) store) (i * row_width) before)

    with_above : (k : ℕ) → i < k → drop (k * row_width) (store_with store i f) ≡ drop (k * row_width) store
    with_above k l =
        let m = k * row_width - (i + 1) * row_width in
        let there : k * row_width ≡ length (take (i * row_width) store) + (row_width + m) = omega (arith, before) in
        let back : (i + 1) * row_width + m ≡ k * row_width = omega arith in
        ap (λ (n : ℕ). drop n (store_with store i f)) there
        ∙ drop-append-add (take (i * row_width) store) _ (row_width + m)
        ∙ drop-append-add (row_of f) (drop ((i + 1) * row_width) store) m
        ∙ drop-drop m ((i + 1) * row_width) store
        ∙ ap (λ (n : ℕ). drop n store) back

  -- whatever a store with the row has, and the store itself, the saved store has
  saved : (P : List ℕ → Type 0) → (i < whole_rows store → P (store_with store i f)) → P store → P (saved_store store i f)
  unfolding saved_store
  saved P done left = cond_both (ltb i (whole_rows store)) _ _ P (λ e. done (ltb-true i (whole_rows store) e)) (λ e. left)

  pub saved_length : length (saved_store store i f) ≡ length store
  saved_length = saved (λ s. length s ≡ length store) with_length refl

  -- the rows below
  pub saved_below : (k : ℕ) → k ≤ i → take (k * row_width) (saved_store store i f) ≡ take (k * row_width) store
  saved_below k l = saved (λ s. take (k * row_width) s ≡ take (k * row_width) store) (λ h. with_below h k l) refl

  -- the rows above
  pub saved_above : (k : ℕ) → i < k → drop (k * row_width) (saved_store store i f) ≡ drop (k * row_width) store
  saved_above k l = saved (λ s. drop (k * row_width) s ≡ drop (k * row_width) store) (λ h. with_above h k l) refl

  -- each other row
  pub saved_other : (k : ℕ) → (k ≡ i → ⊥) → row_at (saved_store store i f) k ≡ row_at store k
  saved_other k ne = go (ltb k i) refl
    where
      go : (t : Bool) → ltb k i ≡ t → row_at (saved_store store i f) k ≡ row_at store k
      go true e =
          let l = ltb-true k i e in
          sym (row_of_front (saved_store store i f) k) ∙ ap (drop (k * row_width)) (saved_below (k + 1) (omega arith)) ∙ row_of_front store k
      go false e = ap (take row_width) (saved_above k (omega (arith, ltb-false k i e, ne)))

  -- the row itself
  pub saved_row : i < whole_rows store → row_at (saved_store store i f) i ≡ row_of f
  unfolding saved_store
  saved_row h = rw (lt-ltb i (whole_rows store) h) (with_row h)

  -- reading what was saved gives the frame back
  pub read_saved : (w : ℕ) → i < whole_rows store → Ranges w f → read_of w (saved_store store i f) i ≡ Ok f
  unfolding read_of
  read_saved w h r =
      rw (saved_length, lt-ltb i (whole_rows store) h, saved_row h, good_of_frame w f r, frame_of_row f r.spent)

-- rows i and j of two stores agree exactly where their words do
pub rows_agree : (s t : List ℕ) (i j : ℕ) → i < whole_rows s → j < whole_rows t
    → (row_at s i ≡ row_at t j) ↔ ((k : ℕ) → k < row_width → row_word (row_at s i) k ≡ row_word (row_at t j) k)
rows_agree s t i j hs ht = (
  λ e k l. ap (λ (row : List ℕ). row_word row k) e,
  λ e. ext_get_or 0 (row_at s i) (row_at t j) (row_size s i hs ∙ sym (row_size t j ht)) (λ k l. e k (omega (arith, row_size s i hs))),
)

-- ---- the ergs of the saved rows
-- a chunk of at most w elements, and what is left after it
chunk : (w : ℕ) (xs ys : List ℕ) → length xs ≡ min w (length (xs ++ ys)) → (xs ≡ take w (xs ++ ys)) × (ys ≡ drop w (xs ++ ys))
chunk zero [] ys h = (refl, refl)
chunk (suc w) [] [] h = (refl, refl)
chunk (suc w) [] (y ∷ ys) h = absurd (omega arith)
chunk zero (x ∷ xs) ys h = absurd (omega arith)
chunk (suc w) (x ∷ xs) ys h =
    let k = chunk w xs ys (omega arith) in
    (ap (λ (zs : List ℕ). x ∷ zs) k.0, k.1)

-- the chunk that comes after i rows is row i, and the rows after it are left
pub next_chunk : (store : List ℕ) (i : ℕ) (rest row left : List ℕ) → rest ≡ drop (i * row_width) store → rest ≡ row ++ left
    → length row ≡ min row_width (length rest) → (row ≡ row_at store i) × (left ≡ drop (suc i * row_width) store)
next_chunk store i rest row left er es el =
    let k = chunk row_width row left (rw (← es) el) in
    let same : row ++ left ≡ drop (i * row_width) store = sym es ∙ er in (
      k.0 ∙ ap (take row_width) same,
      k.1 ∙ ap (drop row_width) same ∙ drop-drop row_width (i * row_width) store ∙ ap (λ (n : ℕ). drop n store) (omega arith),
    )

-- rows past the store's end add nothing
saved_ergs_past : (store : List ℕ) (i k : ℕ) → length store ≤ i * row_width → saved_ergs (k + i) store ≡ saved_ergs i store
saved_ergs_past store i zero h = rw (zero-add i)
saved_ergs_past store i (suc k) h =
    let none : row_at store (k + i) ≡ [] = ap (take row_width) (drop_all ((k + i) * row_width) store (omega (arith, h))) in
    rw (suc-add k i, none, saved_ergs_past store i k h, zero-add (saved_ergs i store))

-- the sum of the first i rows is that of as many as the depth, where none is left to take or the store has no more
pub saved_ergs_all : (store : List ℕ) (i left depth sum : ℕ) → i + left ≡ depth → (left ≡ 0) ⊎ (length (drop (i * row_width) store) ≡ 0) → sum ≡ saved_ergs i store
    → sum ≡ saved_ergs depth store
saved_ergs_all store i left depth sum h (inl n) e = rw (← h, n, add-zero i) e
saved_ergs_all store i left depth sum h (inr n) e =
    let split : left + i ≡ depth = omega (arith, h) in
    e ∙ sym (saved_ergs_past store i left (omega (arith, n, length-drop (i * row_width) store))) ∙ ap (λ n. saved_ergs n store) split
