-- The fields of a line, taken one after the other. Assumes nothing.
use Rattle.std.proofs.Common.{◌≡◌, ℕ, Bool, true, false, eqb, List, [], ◌∷◌, Option, Some, None, refl, sym, ap, ◌∙◌}
use denote.Ref.{Bor}
use denote.Param.Members.{Mut}
use Rattle.std.specs.Fn.{CalledAt}
use Rattle.std.specs.Slice.Iter as slice
use Rattle.std.specs.Option.{is_some}
use Rattle.std.specs.Iterator.{AlwaysYields}
use Rattle.std.proofs.lemmas.Iterator.{YieldsList}
use Rattle.std.proofs.lemmas.Iterator.Splits.{YieldsList-from_slice_split}
use Rattle.text.specs.Parts.{fields_of}
use Rattle.text.proofs.PartsLaws.{fields_split}

-- split gives the fields of a line
pub split_fields : {F : Type 0} {s : _} {g : Mut F (Bor ℕ × Unit {0}) Bool} (line : List ℕ) → slice.split_rest s ≡ line → slice.split_done s ≡ false
    → ((x : ℕ) (b : Bool) (q : F) → CalledAt g (slice.split_callee s) x b q → (q ≡ slice.split_callee s) × (b ≡ eqb x 32)) → YieldsList (slice.split_steps g) (λ x. x.now) s (fields_of line)
split_fields {g = g} line rest done tests = rw (← fields_split line) (YieldsList-from_slice_split g (λ b. eqb b 32) line rest done refl tests)

-- a call of next takes the first of what is left
module _ {S A B : Type 0} {steps : S → Option A → S → Type 0} {v : A → B} {s t : S} {all : List B} (left : YieldsList steps v s all) {r : Option A} (step : steps s r t) where
  pub next_none : r ≡ None → all ≡ []
  next_none e = go all left.runs (rw e at step)
    where
      go : (all : List B) → AlwaysYields steps v s all → steps s None t → all ≡ []
      go [] runs h = refl
      go (y ∷ ys) runs h = absurd (runs.0 t h)

  pub next_some : {x : A} → r ≡ Some x → (rest : List B) × (all ≡ v x ∷ rest) × YieldsList steps v t rest
  next_some {x} e = go all left.runs (rw e at step)
    where
      go : (all : List B) → AlwaysYields steps v s all → steps s (Some x) t → (rest : List B) × (all ≡ v x ∷ rest) × YieldsList steps v t rest
      go [] runs h = absurd (runs x t h)
      go (y ∷ ys) runs h = let f = runs.1 x t h in (ys, ap (λ z. z ∷ ys) (sym f.0), record { runs = f.1 })

-- whether r has a value
pub none_is : {A : Type 0} (r : Option A) → is_some r ≡ false → r ≡ None
none_is None h = refl
none_is (Some x) h = cc

pub some_is : {A : Type 0} (r : Option A) → is_some r ≡ true → (x : A) × (r ≡ Some x)
some_is None h = cc
some_is (Some x) h = (x, refl)

-- the first field, and the second
module _ {S : Type 0} {steps : S → Option (Bor (List ℕ)) → S → Type 0} {s0 s1 : S} (line : List ℕ)
    (fields : YieldsList steps (λ x. x.now) s0 (fields_of line)) {r1 : Option (Bor (List ℕ))} (step1 : steps s0 r1 s1) {a : Bor (List ℕ)} (is1 : r1 ≡ Some a) where
  pub first_field : (rest : List (List ℕ)) × (fields_of line ≡ a.now ∷ rest) × YieldsList steps (λ x. x.now) s1 rest
  first_field = next_some fields step1 is1

  pub second_field : {s2 : S} {r2 : Option (Bor (List ℕ))} → steps s1 r2 s2 → {b : Bor (List ℕ)} → r2 ≡ Some b
      → (rest : List (List ℕ)) × (fields_of line ≡ a.now ∷ b.now ∷ rest) × YieldsList steps (λ x. x.now) s2 rest
  second_field step2 is2 = let n = next_some first_field.2 step2 is2 in (n.0, first_field.1 ∙ ap (λ (ps : List (List ℕ)). a.now ∷ ps) n.1, n.2)
