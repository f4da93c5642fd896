-- A return by what the top row holds. Assumes nothing.
use Rattle.std.proofs.Common.{◌≡◌, ℕ, ◌-◌, ◌/◌, Bool, true, false, cond, not, ◌||◌, eqb, ltb, List, length, refl, sym, subst, ◌∙◌, arith}
use Rattle.std.specs.Prelude.{Result, Ok, Err}
use Rattle.std.proofs.lemmas.Bool.{or_parts}
use Rattle.refusal.specs.declared.Refusal.{Refusal}
use Rattle.refusal.specs.Refusal.{first_of, paper_number}
use Rattle.frame.specs.declared.Frame.{Frame}
use Rattle.frame.specs.declared.RowError.{RowError}
use Rattle.frame.specs.Row.{row_width, good_row}
use Rattle.frame.specs.Store.{whole_rows, refusal_of, read_of}
use Rattle.records.specs.declared.Settings.{Settings}
use Rattle.stages.specs.declared.State.{State}
use Rattle.stages.specs.declared.Staged.{Staged}
use Rattle.stages.specs.declared.ExecuteAnswer.{ExecuteAnswer}
use Rattle.stages.specs.State.{bad_store}
use Rattle.stages.specs.Checks.{top_row, top_frame}
use Rattle.stages.specs.Ret.{close_done}
use Rattle.stages.specs.ByOperation.{operation_checks, closing_checks, close_of, return_of}
use Rattle.stages.proofs.CheckLaws.{settled_refused}

-- 7 or 8, where one of the first two tests holds
early_number : (a b c : Bool) (m : ℕ) → (a || b) ≡ true → cond a 7 (cond (b || c) 8 m) ≡ paper_number (cond a Refusal.FarReturn Refusal.NoCaller)
early_number a b c m t = grind arith

-- a saved row that the store has
has_row : (limit depth words : ℕ) → (eqb limit 0 || ltb (words / row_width) limit || ltb limit depth) ≡ false → eqb depth 0 ≡ false
    → ltb (depth - 1) (words / row_width) ≡ true
has_row limit depth words e n = grind arith

-- what reading a row tells
read_ok : (a b : Bool) (f g : Frame) → cond {A = Result Frame RowError} a (cond b (Ok g) (Err RowError.NotGood)) (Err RowError.Missing) ≡ Ok f → (b ≡ true) × (f ≡ g)
read_ok a b f g e = grind arith

read_err : (a b : Bool) (g : Frame) (x : RowError) → a ≡ true
    → cond {A = Result Frame RowError} a (cond b (Ok g) (Err RowError.NotGood)) (Err RowError.Missing) ≡ Err x → (b ≡ false) × (x ≡ RowError.NotGood)
read_err a b g x t e = grind arith

module _ (settings : Settings) (s : State) (store : List ℕ) (r : Staged ExecuteAnswer) where
  abbrev checked : ℕ
  checked = first_of (operation_checks true false (good_row 16 (top_row s store)) (top_frame s store) settings s)

  pub early : (not s.current.is_local_frame || eqb s.depth 0) ≡ true
      → (q : Refusal) → q ≡ cond (not s.current.is_local_frame) Refusal.FarReturn Refusal.NoCaller → r ≡ record { state = s; answer = Err q }
      → r ≡ return_of 16 settings s store
  unfolding return_of
  early t q eq e = rw e (settled_refused s _ q _ first)
    where
      first : checked ≡ paper_number q
      first = rw eq (early_number (not s.current.is_local_frame) (eqb s.depth 0) _ _ t)

  module _ (z : (not s.current.is_local_frame || eqb s.depth 0) ≡ false) (row : Result Frame RowError) (er : row ≡ read_of 16 store (s.depth - 1)) where
    -- by whether the row is good
    by_row : checked ≡ cond (not (good_row 16 (top_row s store))) 8 (first_of (closing_checks settings (top_frame s store) s))
    by_row = rw ((or_parts (not s.current.is_local_frame) (eqb s.depth 0) z).0, (or_parts (not s.current.is_local_frame) (eqb s.depth 0) z).1) refl

    pub found : (caller : Frame) → row ≡ Ok caller → r ≡ close_of settings caller s → r ≡ return_of 16 settings s store
    unfolding read_of close_of return_of
    found caller e er' =
        let p = read_ok (ltb (s.depth - 1) (whole_rows store)) (good_row 16 (top_row s store)) caller (top_frame s store) (sym er ∙ e) in
        rw (by_row, p.0) (subst (λ (f : Frame). r ≡ close_of settings f s) p.1 er')

    pub not_found : bad_store settings s store ≡ false → (x : RowError) → row ≡ Err x → (q : Refusal) → q ≡ refusal_of x
        → r ≡ record { state = s; answer = Err q } → r ≡ return_of 16 settings s store
    unfolding read_of return_of
    not_found sized x e q eq er' =
        let there = has_row settings.depth_limit s.depth (length store) sized (or_parts (not s.current.is_local_frame) (eqb s.depth 0) z).1 in
        let p = read_err (ltb (s.depth - 1) (whole_rows store)) (good_row 16 (top_row s store)) (top_frame s store) x there (sym er ∙ e) in
        rw er' (settled_refused s (close_done settings (top_frame s store) s) q checked (rw (by_row, p.0, eq, p.1) refl))
