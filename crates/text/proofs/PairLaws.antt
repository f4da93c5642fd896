-- A line of two numbers, read. Assumes nothing.
use Rattle.std.proofs.Common.{◌≡◌, ℕ, ◌≤◌, ◌^◌, Bool, true, false, not, ltb, List, [], ◌∷◌, Option, Some, None, refl, sym, ◌∙◌, arith, length}
use denote.Ref.{Bor}
use Rattle.std.specs.Bool.{then_some}
use Rattle.std.specs.Option.{is_some, option_zip, option_and_then}
use Rattle.std.proofs.lemmas.Bool.{cond_both}
use Rattle.std.proofs.lemmas.Option.{none-some}
use Rattle.std.proofs.lemmas.Iterator.{YieldsList}
use Rattle.text.specs.Parts.{fields_of}
use Rattle.text.specs.Number.{number_in}
use Rattle.text.specs.Pair.{pair_fields, pair_in}
use Rattle.text.proofs.PartsLaws.{parts_bytes, parts_bytes_fields}
use Rattle.text.proofs.NumberLaws.{fitting, number_fitted, number_some}
use Rattle.text.proofs.FieldsLaws.{first_field, second_field, next_none, next_some}

module _ (w : ℕ) where
  -- a line whose fields are not two numbers is no pair, however many there are
  no_first : (a : List ℕ) (ps : List (List ℕ)) → number_in w a ≡ None → None ≡ pair_fields w (a ∷ ps)
  no_first a [] h = refl
  no_first a (b ∷ []) h = rw h
  no_first a (b ∷ c ∷ more) h = refl

  no_second : (a b : List ℕ) (ps : List (List ℕ)) → number_in w b ≡ None → None ≡ pair_fields w (a ∷ b ∷ ps)
  no_second a b [] h = rw h (go (number_in w a))
    where
      go : (first : Option ℕ) → None ≡ option_zip {U = ℕ} first None
      go None = refl
      go (Some first) = refl
  no_second a b (c ∷ more) h = refl

  -- the fields of a line, taken one after the other by calls of next
  module _ {S : Type 0} {steps : S → Option (Bor (List ℕ)) → S → Type 0} {s0 s1 : S} (line : List ℕ)
      (fields : YieldsList steps (λ x. x.now) s0 (fields_of line)) {r1 : Option (Bor (List ℕ))} (step1 : steps s0 r1 s1) {a : Bor (List ℕ)} (is1 : r1 ≡ Some a) where
    pub pair_no_first : {first : Option ℕ} → first ≡ number_in w a.now → first ≡ None → None ≡ pair_in w line
    unfolding pair_in
    pair_no_first e h = let one = first_field line fields step1 is1 in rw one.1 (no_first a.now one.0 (sym e ∙ h))

    module _ {s2 : S} {r2 : Option (Bor (List ℕ))} (step2 : steps s1 r2 s2) where
      pub pair_one : r2 ≡ None → None ≡ pair_in w line
      unfolding pair_in
      pair_one h = let one = first_field line fields step1 is1 in rw (one.1, next_none one.2 step2 h)

      module _ {b : Bor (List ℕ)} (is2 : r2 ≡ Some b) where
        pub pair_no_second : {second : Option ℕ} → second ≡ number_in w b.now → second ≡ None → None ≡ pair_in w line
        unfolding pair_in
        pair_no_second e h =
            let two = second_field line fields step1 is1 step2 is2 in
            rw two.1 (no_second a.now b.now two.0 (sym e ∙ h))

        pub pair_two : {s3 : S} {r3 : Option (Bor (List ℕ))} → steps s2 r3 s3 → (none : Bool) → is_some r3 ≡ not none → {x y : ℕ} → number_in w a.now ≡ Some x → number_in w b.now ≡ Some y
            → then_some {T = ℕ × ℕ} none (x, y) ≡ pair_in w line
        unfolding pair_in
        pair_two {r3 = None} step3 true e f g =
            let two = second_field line fields step1 is1 step2 is2 in
            rw (two.1, next_none two.2 step3 refl, f, g)
        pair_two {r3 = None} step3 false e f g = absurd (cc)
        pair_two {r3 = Some c} step3 true e f g = absurd (cc)
        pair_two {r3 = Some c} step3 false e f g =
            let two = second_field line fields step1 is1 step2 is2 in
            let three = next_some two.2 step3 refl in
            rw (two.1, three.1)

-- a pair, where w bits hold both
abbrev pub pair_fitting : ℕ → ℕ × ℕ → Option (ℕ × ℕ)
pair_fitting w pair = option_zip (fitting w pair.0) (fitting w pair.1)

-- a pair of v bits is one of w bits, no fewer, of which v bits hold both
pub pair_fitted : (v w : ℕ) → 2 ^ v ≤ 2 ^ w → (line : List ℕ) → pair_in v line ≡ option_and_then (pair_fitting v) (pair_in w line)
unfolding pair_in
pair_fitted v w h line = go (fields_of line)
  where
    both : (a b : Option ℕ) → option_zip (option_and_then (fitting v) a) (option_and_then (fitting v) b) ≡ option_and_then (pair_fitting v) (option_zip a b)
    both None b = refl
    both (Some a) None = cond_both (ltb a (2 ^ v)) (Some a) None (λ (r : Option ℕ). option_zip {U = ℕ} r None ≡ None) (λ t. refl) (λ f. refl)
    both (Some a) (Some b) = refl

    go : (fields : List (List ℕ)) → pair_fields v fields ≡ option_and_then (pair_fitting v) (pair_fields w fields)
    go [] = refl
    go (a ∷ []) = refl
    go (a ∷ b ∷ []) = rw (number_fitted v w h a, number_fitted v w h b) (both (number_in w a) (number_in w b))
    go (a ∷ b ∷ c ∷ more) = refl

-- a line of two numbers has three bytes at least
pub pair_length : (w : ℕ) (line : List ℕ) (x y : ℕ) → pair_in w line ≡ Some (x, y) → 3 ≤ length line
unfolding pair_in parts_bytes
pair_length w line x y = go (fields_of line) refl
  where
    fields : (a b : List ℕ) → fields_of line ≡ a ∷ b ∷ [] → (p q : Option ℕ) → number_in w a ≡ p → number_in w b ≡ q → option_zip p q ≡ Some (x, y) → 3 ≤ length line
    fields a b e None q f g z = absurd (none-some (x, y) z)
    fields a b e (Some p) None f g z = absurd (none-some (x, y) z)
    fields a b e (Some p) (Some q) f g z = omega (arith, rw e at (parts_bytes_fields line), number_some w a p f, number_some w b q g)

    go : (ps : List (List ℕ)) → fields_of line ≡ ps → pair_fields w ps ≡ Some (x, y) → 3 ≤ length line
    go [] e z = absurd (none-some (x, y) z)
    go (a ∷ []) e z = absurd (none-some (x, y) z)
    go (a ∷ b ∷ []) e z = fields a b e (number_in w a) (number_in w b) refl refl z
    go (a ∷ b ∷ c ∷ more) e z = absurd (none-some (x, y) z)
