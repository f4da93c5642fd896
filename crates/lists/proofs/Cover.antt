-- The finished calls of a list take the stages in turn, so cycles cover them. Assumes the laws `refused` and `advances`.
use Prim.Native.Nat.{ℕ, ◌≤◌, ◌<◌}
use mathlib.Core.Path.{◌≡◌, refl, ap}
use mathlib.Core.List.{List, [], ◌∷◌, ◌++◌}
use native.Mathlib.Omega.{arith}
use lib.ListN.{length}
use Rattle.lists.specs.Machine.{Machine, Reached, ready, fetched, decoded, addressed}
use Rattle.lists.specs.Lists.{Call, fetch, decode, operands, execute, CallMade, made, Cycle, calls_made}
use Rattle.lists.specs.Laws.{takes_at, brings_to, Laws}
use Rattle.lists.specs.Claims.{calls_left, Covered, CyclesCover}
use Rattle.lists.proofs.Cycles.{Follow, all_follow}

module _ (M : Machine) where
  open M use {State, FetchArgs, DecodeArgs, OperandsArgs, ExecuteArgs}

  -- calls that take the stages in turn, from this one on
  data From : Reached → List (CallMade M) → Type 0 where
    end : {a : Reached} → From a []
    by_fetch : (x : FetchArgs) (s : State) (m : List ℕ) {es : List (CallMade M)} → From fetched es → From ready (made (fetch x) s m ∷ es)
    by_decode : (x : DecodeArgs) (s : State) (m : List ℕ) {es : List (CallMade M)} → From decoded es → From fetched (made (decode x) s m ∷ es)
    by_operands : (x : OperandsArgs) (s : State) (m : List ℕ) {es : List (CallMade M)} → From addressed es → From decoded (made (operands x) s m ∷ es)
    by_execute : (x : ExecuteArgs) (s : State) (m : List ℕ) {es : List (CallMade M)} → From ready es → From addressed (made (execute x) s m ∷ es)

  with_first : (c : Call M) (s : State) (m : List ℕ) {es : List (CallMade M)} → From (brings_to M c) es → From (takes_at M c) (made c s m ∷ es)
  with_first (fetch x) s m r = by_fetch x s m r
  with_first (decode x) s m r = by_decode x s m r
  with_first (operands x) s m r = by_operands x s m r
  with_first (execute x) s m r = by_execute x s m r

  -- ---- such calls are covered
  unended : {a : Reached} (es : List (CallMade M)) → length es < 4 → Covered M a es
  unfolding calls_made
  unended es h = record { ending = []; cycles = []; begun = es; parts = refl; few_ending = omega arith; few_begun = h }

  with_call : {a b : Reached} (e : CallMade M) {es : List (CallMade M)} → calls_left M a < calls_left M b → Covered M a es → Covered M b (e ∷ es)
  with_call e h c = record {
    ending = e ∷ c.ending;
    cycles = c.cycles;
    begun = c.begun;
    parts = ap (λ (l : List (CallMade M)). e ∷ l) c.parts;
    few_ending = omega arith;
    few_begun = c.few_begun;
  }

  with_cycle : (c : Cycle M) {es : List (CallMade M)} → Covered M ready es → Covered M ready (calls_made M (c ∷ []) ++ es)
  unfolding calls_made
  with_cycle c {es} d = record {
    ending = [];
    cycles = c ∷ d.cycles;
    begun = d.begun;
    parts = ap (λ (l : List (CallMade M)). calls_made M (c ∷ []) ++ l) (no_ending d.ending d.parts d.few_ending);
    few_ending = omega arith;
    few_begun = d.few_begun;
  }
    where
      no_ending : (ending : List (CallMade M)) {l : List (CallMade M)} → es ≡ ending ++ l → length ending ≤ 0 → es ≡ l
      no_ending [] e h = e
      no_ending (x ∷ ending) e h = absurd (omega arith)

  covered : {a : Reached} {es : List (CallMade M)} → From a es → Covered M a es
  unfolding calls_made
  covered end = unended _ (omega arith)
  covered (by_fetch w s m end) = unended _ (omega arith)
  covered (by_fetch w s m (by_decode x t n end)) = unended _ (omega arith)
  covered (by_fetch w s m (by_decode x t n (by_operands y u o end))) = unended _ (omega arith)
  covered (by_fetch w s m (by_decode x t n (by_operands y u o (by_execute z v p r)))) =
      with_cycle
      (record {
        fetch = record { input = w; state = s; store = m };
        decode = record { input = x; state = t; store = n };
        operands = record { input = y; state = u; store = o };
        execute = record { input = z; state = v; store = p };
      })
      (covered r)
  covered (by_decode x s m r) = with_call _ (omega arith) (covered r)
  covered (by_operands x s m r) = with_call _ (omega arith) (covered r)
  covered (by_execute x s m r) = with_call _ (omega arith) (covered r)

-- ---- the finished calls are such calls
module _ (M : Machine) (L : Laws M) where
  open M use {State, stage}

  in_turn : (es : List (CallMade M)) (s : State) (m : List ℕ) → Follow M s m es → From M (stage s) es
  in_turn [] s m f = end
  in_turn (made c t n ∷ es) s m f =
      let a = L.advances c t n f.2 in
      rw (← f.0, a.stage_before) (with_first M c t n (rw a.stage_after at (in_turn es _ _ f.3)))

  pub cycles_cover : CyclesCover M
  cycles_cover calls s store = covered M (in_turn _ s store (all_follow M L calls s store))
