-- Lines read. Assumes nothing.
use Rattle.std.proofs.Common.{◌≡◌, ℕ, ◌≤◌, true, false, List, [], ◌∷◌, length, Option, Some, None, refl, sym, ap, ◌∙◌, arith}
use native.Mathlib.Decide.{dec_le}
use denote.Ref.{Bor}
use Rattle.std.specs.Option.{is_some, option_and_then}
use Rattle.std.proofs.lemmas.Iterator.{YieldsList}
use Rattle.std.proofs.lemmas.Option.{none-some}
use Rattle.text.specs.Parts.{fields_of}
use Rattle.text.specs.Number.{number_of}
use Rattle.text.proofs.BytesLaws.{same_length}
use Rattle.text.proofs.PartsLaws.{parts_bytes, parts_bytes_fields}
use Rattle.text.proofs.FieldsLaws.{first_field, second_field, next_none, next_some, none_is, some_is}
use Rattle.text.proofs.PairLaws.{pair_fitting, pair_fitted}
use Rattle.text.specs.Pair.{pair_in}
use Rattle.text.proofs.NumberLaws.{number_some}
use Rattle.table.specs.declared.Op.{Op}
use Rattle.table.specs.declared.Line.{Line}
use Rattle.table.specs.Line.{name_of, op_of, line_from, line_fields, line_of, start_with, start_of}

-- a line whose fields are not an op and two numbers is bad, however many there are
no_op : (a : List ℕ) (ps : List (List ℕ)) → op_of a ≡ None → None ≡ line_fields (a ∷ ps)
no_op a [] h = refl
no_op a (b ∷ []) h = refl
no_op a (b ∷ c ∷ []) h = rw h
no_op a (b ∷ c ∷ d ∷ more) h = refl

no_price : (a b : List ℕ) (ps : List (List ℕ)) → number_of b ≡ None → None ≡ line_fields (a ∷ b ∷ ps)
no_price a b [] h = refl
no_price a b (c ∷ []) h = rw h (go (op_of a))
  where
    go : (op : Option Op) → None ≡ line_from op None (number_of c)
    go None = refl
    go (Some op) = refl
no_price a b (c ∷ d ∷ more) h = refl

no_want : (a b c : List ℕ) (ps : List (List ℕ)) → number_of c ≡ None → None ≡ line_fields (a ∷ b ∷ c ∷ ps)
no_want a b c [] h = rw h (go (op_of a) (number_of b))
  where
    go : (op : Option Op) (price : Option ℕ) → None ≡ line_from op price None
    go None price = refl
    go (Some op) None = refl
    go (Some op) (Some price) = refl
no_want a b c (d ∷ more) h = refl

-- the fields of a line, taken one after the other by calls of next
module _ {S : Type 0} {steps : S → Option (Bor (List ℕ)) → S → Type 0} {s0 s1 : S} (line : List ℕ)
    (fields : YieldsList steps (λ x. x.now) s0 (fields_of line)) {r1 : Option (Bor (List ℕ))} (step1 : steps s0 r1 s1) {a : Bor (List ℕ)} (is1 : r1 ≡ Some a) where
  pub line_no_op : {op : Option Op} → op ≡ op_of a.now → op ≡ None → None ≡ line_of line
  unfolding line_of
  line_no_op e h = let one = first_field line fields step1 is1 in rw one.1 (no_op a.now one.0 (sym e ∙ h))

  module _ {s2 : S} {r2 : Option (Bor (List ℕ))} (step2 : steps s1 r2 s2) where
    pub line_one : r2 ≡ None → None ≡ line_of line
    unfolding line_of
    line_one h = let one = first_field line fields step1 is1 in rw (one.1, next_none one.2 step2 h)

    module _ {b : Bor (List ℕ)} (is2 : r2 ≡ Some b) where
      pub line_no_price : {price : Option ℕ} → price ≡ number_of b.now → price ≡ None → None ≡ line_of line
      unfolding line_of
      line_no_price e h =
          let two = second_field line fields step1 is1 step2 is2 in
          rw two.1 (no_price a.now b.now two.0 (sym e ∙ h))

      module _ {s3 : S} {r3 : Option (Bor (List ℕ))} (step3 : steps s2 r3 s3) where
        pub line_two : r3 ≡ None → None ≡ line_of line
        unfolding line_of
        line_two h = let two = second_field line fields step1 is1 step2 is2 in rw (two.1, next_none two.2 step3 h)

        module _ {c : Bor (List ℕ)} (is3 : r3 ≡ Some c) where
          third_field : (rest : List (List ℕ)) × (fields_of line ≡ a.now ∷ b.now ∷ c.now ∷ rest) × YieldsList steps (λ x. x.now) s3 rest
          third_field =
              let two = second_field line fields step1 is1 step2 is2 in
              let n = next_some two.2 step3 is3 in
              (n.0, two.1 ∙ ap (λ (ps : List (List ℕ)). a.now ∷ b.now ∷ ps) n.1, n.2)

          pub line_no_want : {want : Option ℕ} → want ≡ number_of c.now → want ≡ None → None ≡ line_of line
          unfolding line_of
          line_no_want e h = rw third_field.1 (no_want a.now b.now c.now third_field.0 (sym e ∙ h))

          module _ {s4 : S} {r4 : Option (Bor (List ℕ))} (step4 : steps s3 r4 s4) where
            pub line_more : is_some r4 ≡ true → None ≡ line_of line
            unfolding line_of
            line_more h = let d = some_is r4 h in let n = next_some third_field.2 step4 d.1 in rw (third_field.1, n.1)

            pub line_three : is_some r4 ≡ false → {op : Op} {price want : ℕ} → op_of a.now ≡ Some op → number_of b.now ≡ Some price → number_of c.now ≡ Some want
                → Some record { op = op; price = price; want = want } ≡ line_of line
            unfolding line_of
            line_three h e f g = rw (third_field.1, next_none third_field.2 step4 (none_is r4 h), e, f, g)

-- the second line: a pair that fits, with a limit in its range
pub start_narrow : (line : List ℕ) → start_of line ≡ option_and_then start_with (option_and_then (pair_fitting 32) (pair_in 64 line))
unfolding start_of
start_narrow line = rw (pair_fitted 32 64 (omega arith) line)

-- a field of one byte or none is no op
op_short : (field : List ℕ) → length field ≤ 1 → op_of field ≡ None
unfolding op_of
op_short field h =
    rw (
      ← same_length field (name_of Op.Add) (omega arith),
      ← same_length field (name_of Op.Call) (omega arith),
      ← same_length field (name_of Op.Ok) (omega arith),
      ← same_length field (name_of Op.Revert) (omega arith),
      ← same_length field (name_of Op.Panic) (omega arith),
    )

-- an op has two bytes at least
op_length : (field : List ℕ) {op : Op} → op_of field ≡ Some op → 2 ≤ length field
op_length field {op} e = go (dec_le 2 (length field))
  where
    go : Dec (2 ≤ length field) → 2 ≤ length field
    go (yes h) = h
    go (no h) =
        absurd (none-some op (sym (op_short field (omega arith)) ∙ e))

-- a line that runs an op has six bytes at least
pub run_length : (line : List ℕ) {l : Line} → line_of line ≡ Some l → 6 ≤ length line
unfolding line_of parts_bytes
run_length line {l} = go (fields_of line) refl
  where
    fields : (a b c : List ℕ) → fields_of line ≡ a ∷ b ∷ c ∷ [] → (o : Option Op) (p w : Option ℕ) → op_of a ≡ o → number_of b ≡ p → number_of c ≡ w
        → line_from o p w ≡ Some l → 6 ≤ length line
    fields a b c e None p w f g h q = absurd (none-some l q)
    fields a b c e (Some o) None w f g h q = absurd (none-some l q)
    fields a b c e (Some o) (Some p) None f g h q = absurd (none-some l q)
    fields a b c e (Some o) (Some p) (Some w) f g h q =
        omega (arith, rw e at (parts_bytes_fields line), op_length a f, number_some 32 b p g, number_some 32 c w h)

    go : (ps : List (List ℕ)) → fields_of line ≡ ps → line_fields ps ≡ Some l → 6 ≤ length line
    go [] e q = absurd (none-some l q)
    go (a ∷ []) e q = absurd (none-some l q)
    go (a ∷ b ∷ []) e q = absurd (none-some l q)
    go (a ∷ b ∷ c ∷ []) e q = fields a b c e (op_of a) (number_of b) (number_of c) refl refl refl q
    go (a ∷ b ∷ c ∷ d ∷ more) e q = absurd (none-some l q)
