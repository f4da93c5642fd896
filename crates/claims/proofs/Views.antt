-- A stage's outcome is a refusal that changes nothing, or finished with what the stage does. Assumes nothing.
use Prim.Native.Nat.{ℕ}
use mathlib.Core.Bool.{Bool, true, false, cond}
use mathlib.Core.Path.{◌≡◌, refl, ap}
use mathlib.Core.Logic.{◌⊎◌, inl, inr}
use mathlib.Core.List.{List, [], ◌∷◌}
use mathlib.Core.Option.{some}
use lib.Dec.{T, eqb}
use native.Mathlib.Omega.{arith}
use borrow.Author.Tests.{eqb-true, eqb-false}
use Rattle.std.proofs.lemmas.Bool.{cond_both}
use Rattle.std.proofs.lemmas.Bool.Decides.{nat_tests}
use Rattle.std.specs.List.{list_all, list_any}
use Rattle.refusal.specs.Refusal.{Check, first_of, paper_number, numbered_refusal}
use Rattle.refusal.proofs.NumberLaws
use Rattle.refusal.proofs.NumberLaws.{is_told, first_in}
pub use Rattle.refusal.proofs.NumberLaws.{numbers_in}
use Rattle.refusal.proofs.RefusalLaws.{Clear, numbered, clear}
use Rattle.stages.specs.declared.State.{State}
use Rattle.stages.specs.declared.Staged.{Staged}
use Rattle.stages.specs.State.{refused_with, settled}
use Rattle.lists.specs.Machine.{Outcome, finished}
use Rattle.lists.specs.Laws.{Unchanged}
use Rattle.claims.specs.Core.{core, outcome_in}
use Rattle.claims.specs.Answers.{is_one_of, Refuses}

pub data View (numbers : List ℕ) (s : State) (store : List ℕ) (o : Outcome State) (Done : Type 0) : Type 0 where
  refused : Refuses numbers s store o → View numbers s store o Done
  done : finished o ≡ true → Done → View numbers s store o Done

module _ {numbers : List ℕ} {s : State} {store : List ℕ} {o : Outcome State} {Done : Type 0} where
  pub if_refused : View numbers s store o Done → finished o ≡ false → Unchanged core s store o
  if_refused (refused r) e = r.unchanged
  if_refused (done t d) e = absurd (cc)

  pub if_done : View numbers s store o Done → finished o ≡ true → Done
  if_done (refused r) e = let h : finished o ≡ false = rw r.told in absurd (cc)
  if_done (done t d) e = d

  pub either : View numbers s store o Done → (finished o ≡ true) ⊎ Refuses numbers s store o
  either (refused r) = inr r
  either (done t d) = inl t

-- by the number of a stage's refusal
pub by_number : {A : Type 0} (P : A → Type 0) (n : ℕ) (refuse : ℕ → A) (finish : A) → (n ≡ 0 → P finish) → ((n ≡ 0 → ⊥) → P (refuse n))
    → P (settled n refuse finish)
by_number P n refuse finish f r = cond_both (eqb n 0) finish (refuse n) P (λ e. f (eqb-true n 0 e)) (λ e. r (eqb-false n 0 e))

-- the same of two things that go by one test
pub both : {A B : Type 0} (P : A → B → Type 0) (t : Bool) (a b : A) (u v : B) → (t ≡ true → P a u) → (t ≡ false → P b v) → P (cond t a b) (cond t u v)
both P true a b u v f r = f refl
both P false a b u v f r = r refl

-- ---- numbers
-- every number of the one list is in the other
abbrev pub within : List ℕ → List ℕ → Bool
within [] ms = true
within (n ∷ ns) ms = cond (is_one_of n ms) (within ns ms) false

widen : (n : ℕ) (ns ms : List ℕ) → T (within ns ms) → is_one_of n ns ≡ true → is_one_of n ms ≡ true
widen n [] ms t e = absurd (cc)
widen n (k ∷ ns) ms t e = grind (arith, nat_tests, widen n ns ms)

-- in std's words
one_in : (n : ℕ) (ms : List ℕ) → is_one_of n ms ≡ list_any (eqb n) ms
one_in n [] = refl
one_in n (m ∷ ms) = rw (one_in n ms) refl

-- the number of checks that refuse is one of a list that has all theirs
pub listed : (cs : List Check) (ms : List ℕ) → T (within (numbers_in cs) ms) → (first_of cs ≡ 0 → ⊥) → is_one_of (first_of cs) ms ≡ true
listed cs ms t h = widen (first_of cs) (numbers_in cs) ms t (rw one_in (first_in cs h))

-- the refusal of a number has it
pub told_back : (n : ℕ) (ms : List ℕ) → T (list_all is_told ms) → is_one_of n ms ≡ true → paper_number (numbered_refusal n) ≡ n
told_back n ms t e = NumberLaws.told_back n ms t (rw one_in at e)

-- ---- a stage, or an operation of execute, with these numbers
module _ (numbers : List ℕ) (t : T (list_all is_told numbers)) (s : State) (store : List ℕ) where
  -- what a refusal gives, whatever is answered otherwise
  abbrev refusing : ℕ → Outcome State
  refusing n = outcome_in (refused_with {A = Unit {0}} s n) store

  -- it refuses with one of them
  pub unchanged : {Done : Type 0} (n : ℕ) → is_one_of n numbers ≡ true → View numbers s store (refusing n) Done
  unchanged n m = refused (record { number = n; told = ap some (told_back n numbers t m); listed = m; unchanged = record { state_same = refl; store_same = refl } })

  -- by its checks
  pub checked : {Done : Type 0} (cs : List Check) → T (within (numbers_in cs) numbers) → (first_of cs ≡ 0 → ⊥) → View numbers s store (refusing (first_of cs)) Done
  checked cs w h = unchanged (first_of cs) (listed cs numbers w h)

  -- it finishes where none of its checks holds
  pub by_checks : {A : Type 0} (Done : Outcome State → Type 0) (cs : List Check) → T (numbered cs) → T (within (numbers_in cs) numbers)
      → (finish : Staged A) → finished (outcome_in finish store) ≡ true → (Clear cs → Done (outcome_in finish store))
      → View numbers s store (outcome_in (settled (first_of cs) (refused_with s) finish) store) (Done (outcome_in (settled (first_of cs) (refused_with s) finish) store))
  by_checks Done cs n w finish e f =
      by_number (λ r. View numbers s store (outcome_in r store) (Done (outcome_in r store))) (first_of cs) (refused_with s) finish
      (λ z. done e (f (clear cs n z))) (checked cs w)
