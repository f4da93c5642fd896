-- What the places up to a depth hold together, after an entry that is taken. Assumes nothing.
use Rattle.std.proofs.Common.{◌≡◌, ℕ, zero, suc, ◌+◌, ◌<◌, ◌≤◌, List, length, get_or, set, arith}
use Rattle.std.proofs.lemmas.Grind.{common_steps}
use Rattle.tally.specs.Tally.{spent, joined, charged, entered, enter_refusal}
use Rattle.tally.proofs.TallyLaws.{in_tally}
use Rattle.spends.specs.Lines.{places_to}

-- a place above the depth is not among them
above : (d i n : ℕ) (t : List ℕ) → d < i → places_to d (set t i n) ≡ places_to d t
unfolding places_to
above zero i n t h = grind (arith, common_steps)
above (suc d) i n t h = grind (arith, common_steps, above d i n t (omega arith))

-- a place that is one of them counts anew
counted : (d i n : ℕ) (t : List ℕ) → i ≤ d → i < length t → places_to d (set t i n) + get_or t i 0 ≡ places_to d t + n
unfolding places_to
counted zero i n t h k = grind (arith, common_steps)
counted (suc d) i n t h k = grind (arith, common_steps, λ (l : i ≤ d). counted d i n t l k, λ (l : d < i). above d i n t l)

module _ (t : List ℕ) (d c : ℕ) where
  -- the charge goes to the frame's own place
  charge_adds : d < length t → places_to d (charged t d c) ≡ places_to d t + c
  charge_adds h = omega (arith, counted d d (spent t d c) t (omega arith) h)

  -- which an opened frame above it does not change
  opening_adds : suc d < length t → places_to (suc d) (set (charged t d c) (suc d) 0) ≡ places_to d t + c
  unfolding places_to
  opening_adds h = grind (arith, common_steps, above d (suc d) 0 (charged t d c), charge_adds)

  -- and which a frame that closes from above it has added to it
  closing_adds : suc d < length t → places_to d (set (charged t (suc d) c) d (joined t (suc d) d c)) ≡ places_to (suc d) t + c
  unfolding places_to
  closing_adds h = grind (arith, common_steps, counted d d (joined t (suc d) d c) (charged t (suc d) c), above d (suc d) (spent t (suc d) c) t)

-- the places of the frames that are open after an entry hold its charge more
pub entry_adds : (t : List ℕ) (limit b a c : ℕ) → enter_refusal t limit b a c ≡ 0 → places_to a (entered t b a c) ≡ places_to b t + c
entry_adds t limit b a c e =
    let n = in_tally t limit b a c e in
    grind (arith, n, charge_adds t b c, opening_adds t b c, closing_adds t a c)

-- and those below both depths stay as they were
pub entry_keeps : (t : List ℕ) (b a c d : ℕ) → d < b → d < a → places_to d (entered t b a c) ≡ places_to d t
entry_keeps t b a c d l m = grind (arith, above d b (spent t b c) t, above d a 0 (charged t b c), above d a (joined t b a c) (charged t b c))

-- an opened frame's place starts at 0
pub opened_at_0 : (t : List ℕ) (b a c : ℕ) → b < a → a < length t → get_or (entered t b a c) a 0 ≡ 0
opened_at_0 t b a c l h = grind (arith, common_steps)
