-- How the finished calls of a list follow one another, what a cycle among them does, and that frames are counted. Assumes the laws, but for `advances`. Here, in
-- Cover and in Resume, m is a store.
use Prim.Native.Nat.{ℕ, ◌+◌}
use mathlib.Core.Bool.{Bool, true, false, cond}
use mathlib.Core.Path.{◌≡◌, refl, ap, subst₂}
use mathlib.Core.List.{List, [], ◌∷◌, ◌++◌}
use mathlib.Core.Option.{none}
use native.Mathlib.Omega.{arith}
use Rattle.lists.specs.Machine.{Machine, Outcome, FrameOperation, near_call, ret, neither, finished}
use Rattle.lists.specs.Lists.{Call, CallMade, made, outcome_of, trace, finished_of, Cycle, calls_made, InTurn}
use Rattle.lists.specs.Lists.{before, store_before, result, charge, operation, opens, closes, opened, closed, sum}
use Rattle.lists.specs.Laws.{Spends, Performs, Laws}
use Rattle.lists.specs.Claims.{FramesCounted}

-- ---- finished calls follow one another
module _ (M : Machine) where
  open M use {State}

  -- each of these calls finished and was given what the one before gave; the first was given this state and this store
  abbrev pub Follow : State → List ℕ → List (CallMade M) → Type 0
  Follow s m [] = Unit {0}
  Follow s m (made c t n ∷ es) =
      (t ≡ s) × (n ≡ m) × (finished (outcome_of M c t n) ≡ true) × Follow (outcome_of M c t n).state (outcome_of M c t n).store es

  later_follow : (earlier : List (CallMade M)) (s : State) (m : List ℕ) (es : List (CallMade M)) → Follow s m (earlier ++ es) → (t : State) × (n : List ℕ) × Follow t n es
  later_follow [] s m es f = (s, m, f)
  later_follow (made c t n ∷ l) s m es f = later_follow l (outcome_of M c t n).state (outcome_of M c t n).store es f.3

  -- what the first three calls of a cycle give to its execute
  abbrev pub reached : Cycle M → Outcome State
  reached c = record { refusal = none; state = c.execute.state; store = c.execute.store }

  -- these calls spend the charge, and execute does what the operation says that Decode's rules keep
  pub record Does (c : Cycle M) : Type 0 where
    pub spends : Spends M (charge M c) (before M c) (store_before M c) (reached c)
    pub performs : Performs M (operation M c) c.execute.input c.execute.state c.execute.store (result M c)

module _ (M : Machine) (L : Laws M) where
  open M use {State, ergs, depth, kept}

  pub all_follow : (cs : List (Call M)) (s : State) (m : List ℕ) → Follow M s m (finished_of M (trace M cs s m))
  unfolding finished_of trace
  all_follow [] s m = tt
  all_follow (c ∷ cs) s m = go _ (finished (outcome_of M c s m)) refl (all_follow cs (outcome_of M c s m).state (outcome_of M c s m).store)
    where
      go : (es : List (CallMade M)) (b : Bool) → finished (outcome_of M c s m) ≡ b
          → Follow M (outcome_of M c s m).state (outcome_of M c s m).store es → Follow M s m (cond b (made c s m ∷ es) es)
      go es true e f = (refl, refl, e, f)
      go es false e f =
          let u = L.refused c s m e in
          subst₂ (λ (t : State) (n : List ℕ). Follow M t n es) u.state_same u.store_same f

  -- the calls of cycles of a list, from the state and the store before the first of them
  pub follow : {calls : List (Call M)} {s : State} {store : List ℕ} {cycles : List (Cycle M)} (t : InTurn M calls s store cycles)
      → (a : State) × (m : List ℕ) × Follow M a m (calls_made M cycles ++ t.later)
  follow {calls} {s} {store} t = later_follow M t.earlier s store _ (rw t.found at (all_follow calls s store))

  -- ---- what a cycle does
  pub does : (s : State) (m : List ℕ) (c : Cycle M) (cs : List (Cycle M)) (later : List (CallMade M)) → Follow M s m (calls_made M (c ∷ cs) ++ later) → Does M c
  unfolding calls_made charge operation
  does s m c cs later f =
      let x = L.fetch_spends c.fetch.input c.fetch.state c.fetch.store f.2 in
      let y = L.decode_spends c.decode.input c.decode.state c.decode.store f.3.2 in
      let z = L.operands_spends c.operands.input c.operands.state c.operands.store f.3.3.2 in
      let decided = L.decode_keeps c.decode.input c.decode.state c.decode.store f.3.2 in
      let kept_on = L.operands_keeps c.operands.input c.operands.state c.operands.store f.3.3.2 in
      let is : kept c.execute.state ≡ operation M c = cc in
      record {
        spends = record {
          ergs_less = omega (arith, x.ergs_less, ap ergs f.3.0, y.ergs_less, ap ergs f.3.3.0, z.ergs_less, ap ergs f.3.3.3.0);
          lasting_same = cc;
          depth_same = cc;
          store_same = cc;
        };
        performs = rw (← is) (L.execute_performs c.execute.input c.execute.state c.execute.store f.3.3.3.2);
      }

  pub frames_counted : FramesCounted M
  unfolding opened closed sum
  frames_counted calls s store c t =
      let f = follow t in
      let d = does f.0 f.1 c [] t.later f.2 in
      go (operation M c) d.spends.depth_same d.performs
    where
      go : (q : FrameOperation) → depth c.execute.state ≡ depth (before M c)
          → Performs M q c.execute.input c.execute.state c.execute.store (result M c)
          → depth (result M c).state + (closes q + 0) ≡ depth (before M c) + (opens q + 0)
      go near_call e z = omega (arith, z.depth_up)
      go ret e z = omega (arith, z.depth_down)
      go neither e z = omega (arith, z.depth_same)
