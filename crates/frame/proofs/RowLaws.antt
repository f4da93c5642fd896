-- A frame's row and a row's frame. Assumes nothing.
use Prim.Native.Nat.{ℕ, zero, suc, ◌+◌, ◌*◌, ◌/◌, ◌%◌, ◌^◌, ◌≤◌, ◌<◌}
use mathlib.Core.Bool.{Bool, true, false}
use mathlib.Core.Path.{◌≡◌, refl, sym, ap, ◌∙◌}
use mathlib.Core.Logic.{◌↔◌}
use mathlib.Core.List.{List, [], ◌∷◌}
use native.Mathlib.Omega.{arith}
use native.Mathlib.Nat.{mod-add-div}
use lib.Dec.{eqb, ltb}
use lib.ListN.{length, drop, drop_of_length-le}
use lib.Seq.{drop-cons}
use mir.Val.{bool_byte}
use borrow.Author.Tests.{lt-ltb}
use Rattle.signed.specs.Signed.{fits_signed}
use Rattle.signed.proofs.SignedLaws.{signed_of_word, word_of_signed}
use Rattle.frame.specs.declared.Frame.{Frame}
use Rattle.frame.specs.Row.{row_width, row_of, row_word, frame_of, good_row}
use Rattle.frame.specs.Bounds.{Bounds}

-- what the test of a good row tells
pub bounds : (w : ℕ) (row : List ℕ) → row_width ≤ length row → good_row w row ≡ true → Bounds w row
bounds w row h e = grind arith

-- ---- there and back
bit_back : (b : Bool) → eqb (bool_byte b) 1 ≡ b
bit_back true = refl
bit_back false = refl

-- the frame of a frame's row is the frame
pub frame_of_row : (f : Frame) → fits_signed 32 f.total_pubdata_spent.0 ≡ true → frame_of (row_of f) ≡ f
frame_of_row f h =
    rw (
      bit_back f.is_static,
      bit_back f.is_local_frame,
      mod-add-div f.context_u128_value.low (2 ^ 32),
      mod-add-div f.context_u128_value.high (2 ^ 32),
      signed_of_word 32 f.total_pubdata_spent.0 h,
    )

-- the ranges of a frame's narrow fields, as its type has them at w = 16
pub record Ranges (w : ℕ) (f : Frame) : Type 0 where
  pub sp : f.sp < 2 ^ w
  pub pc : f.pc < 2 ^ w
  pub handler : f.exception_handler_location < 2 ^ w
  pub this_shard : f.this_shard_id < 2 ^ 8
  pub caller_shard : f.caller_shard_id < 2 ^ 8
  pub code_shard : f.code_shard_id < 2 ^ 8
  pub spent : fits_signed 32 f.total_pubdata_spent.0 ≡ true

bit_below : (b : Bool) → ltb (bool_byte b) 2 ≡ true
bit_below true = refl
bit_below false = refl

-- a frame's row is good
pub good_of_frame : (w : ℕ) (f : Frame) → Ranges w f → good_row w (row_of f) ≡ true
good_of_frame w f r =
    rw (
      lt-ltb f.sp (2 ^ w) r.sp,
      lt-ltb f.pc (2 ^ w) r.pc,
      lt-ltb f.exception_handler_location (2 ^ w) r.handler,
      lt-ltb f.this_shard_id 256 r.this_shard,
      lt-ltb f.caller_shard_id 256 r.caller_shard,
      lt-ltb f.code_shard_id 256 r.code_shard,
      bit_below f.is_static,
      bit_below f.is_local_frame,
    )

-- a row's words, one by one
listed : ℕ → ℕ → List ℕ → List ℕ
listed zero k row = []
listed (suc n) k row = row_word row k ∷ listed n (suc k) row

listed_drop : (n k : ℕ) (row : List ℕ) → k + n ≡ length row → listed n k row ≡ drop k row
unfolding listed
listed_drop zero k row e = sym (drop_of_length-le row {i = k} (omega arith))
listed_drop (suc n) k row e =
    rw (drop-cons row k 0 (omega arith), listed_drop n (suc k) row (omega arith))

bit_word : (n : ℕ) → n < 2 → bool_byte (eqb n 1) ≡ n
bit_word zero h = refl
bit_word (suc zero) h = refl
bit_word (suc (suc n)) h = absurd (none n h)
  where
    none : (n : ℕ) → suc (suc n) < 2 → ⊥
    none n h = omega arith

-- the row of a good row's frame is the row, where its words have 32 bits
pub row_of_frame : (w : ℕ) (row : List ℕ) → length row ≡ row_width → ((k : ℕ) → row_word row k < 2 ^ 32) → good_row w row ≡ true → row_of (frame_of row) ≡ row
unfolding listed
row_of_frame w row e small g =
    let b = bounds w row (omega arith) g in
    let l = two_words (row_word row 26) (row_word row 27) (small 26) in
    let h = two_words (row_word row 28) (row_word row 29) (small 28) in
    rw (bit_word (row_word row 24) b.static, bit_word (row_word row 25) b.local, l.0, l.1, h.0, h.1, word_of_signed 32 (row_word row 32) (small 32))
    (listed_drop row_width 0 row (sym e))
  where
    two_words : (m n : ℕ) → m < 2 ^ 32 → ((m + 2 ^ 32 * n) % 2 ^ 32 ≡ m) × ((m + 2 ^ 32 * n) / 2 ^ 32 ≡ n)
    two_words m n h = omega arith

-- two good rows of 32-bit words hold the same frame exactly where their words agree
pub frames_agree : (w : ℕ) (r s : List ℕ) → length r ≡ row_width → length s ≡ row_width → ((k : ℕ) → row_word r k < 2 ^ 32) → ((k : ℕ) → row_word s k < 2 ^ 32)
    → good_row w r ≡ true → good_row w s ≡ true → (frame_of r ≡ frame_of s) ↔ (r ≡ s)
frames_agree w r s lr ls br bs gr gs = (
  λ e. sym (row_of_frame w r lr br gr) ∙ ap row_of e ∙ row_of_frame w s ls bs gs,
  λ e. ap frame_of e,
)
