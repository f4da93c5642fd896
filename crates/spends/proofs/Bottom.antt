-- The frame at depth 1 stays far, so it is never closed. Assumes nothing.
use Rattle.std.proofs.Common.{◌≡◌, ℕ, ◌<◌, ◌≤◌, Bool, true, false, List, refl, sym, ap, ◌∙◌, arith}
use native.Mathlib.Decide.{dec_lt}
use Rattle.frame.specs.declared.Frame.{Frame}
use Rattle.frame.specs.Row.{frame_of}
use Rattle.frame.specs.Store.{row_at}
use Rattle.stages.specs.declared.State.{State}
use Rattle.lists.specs.Machine.{Outcome, FrameOperation, near_call, ret, neither, machine_row}
use Rattle.lists.specs.Laws.{Performs}
use Rattle.claims.specs.Core.{core, CoreExecuteArgs, lasting_of}
use Rattle.cycle.specs.declared.Input.{Input}
use Rattle.cycle.specs.Cycle.{cycle_of, cycle_store}
use Rattle.spends.proofs.Cycles.{cycle_from, Finished, reach, out, performs, cycle_is, store_is, cycle_does}
use Rattle.spends.proofs.Totals.{same_row, closes_local}

-- the frame of depth 1, current or saved
pub record BottomFar (s : State) (store : List ℕ) : Type 0 where
  pub deep : 1 ≤ s.depth
  pub current : s.depth ≡ 1 → s.current.is_local_frame ≡ false
  pub saved : 1 < s.depth → (frame_of (row_at store 1)).is_local_frame ≡ false

is_local : Frame → Bool
is_local f = f.is_local_frame

row_local : List ℕ → ℕ → Bool
row_local store i = (frame_of (row_at store i)).is_local_frame

stays_far : (q : FrameOperation) (x : CoreExecuteArgs) (s : State) (store : List ℕ) (o : Outcome State)
    → (q ≡ ret → s.current.is_local_frame ≡ true) → Performs core q x s store o → BottomFar s store → BottomFar o.state o.store
unfolding machine_row lasting_of is_local row_local
stays_far near_call x s store o l p b = record {
  deep = omega (arith, p.depth_up);
  current = λ e. absurd (omega (arith, p.depth_up, b.deep));
  saved = λ h. go (dec_lt 1 s.depth);
}
  where
    go : Dec (1 < s.depth) → (frame_of (row_at o.store 1)).is_local_frame ≡ false
    go (yes h) = ap (λ (r : List ℕ). (frame_of r).is_local_frame) (same_row o.store store s.depth 1 p.below_same h) ∙ b.saved h
    go (no h) =
        let one : s.depth ≡ 1 = omega (arith, b.deep) in
        ap (row_local o.store) (sym one) ∙ ap is_local p.lasting_saved ∙ b.current one
stays_far ret x s store o l p b = record {
  deep = go (dec_lt 1 s.depth);
  current = λ e. ap is_local p.lasting_back ∙ ap (row_local store) e ∙ b.saved (omega (arith, p.depth_down));
  saved = λ h. ap (λ (m : List ℕ). row_local m 1) p.store_same ∙ b.saved (omega (arith, p.depth_down));
}
  where
    go : Dec (1 < s.depth) → 1 ≤ o.state.depth
    go (yes h) = omega (arith, p.depth_down)
    go (no h) =
        let far = b.current (omega (arith, b.deep)) in
        let near = l refl in
        absurd (cc)
stays_far neither x s store o l p b = record {
  deep = omega (arith, p.depth_same, b.deep);
  current = λ e. ap is_local p.lasting_same ∙ b.current (omega (arith, p.depth_same));
  saved = λ h. ap (λ (m : List ℕ). row_local m 1) p.store_same ∙ b.saved (omega (arith, p.depth_same));
}

module _ (input : Input) (s : State) (store : List ℕ) (f : Finished input s store) where
  pub far_after : BottomFar s store → BottomFar (cycle_of input s store).state (cycle_store input s store)
  unfolding lasting_of
  far_after b =
      let d = (cycle_does input s store f).spends in
      let reached = reach input s store f in
      let x = (cycle_from input s store).execute.input in
      rw (cycle_is input s store f, store_is input s store f)
      (stays_far (core.kept reached) x reached store (out input s store f) (closes_local input s store f)
      (performs input s store f)
      (record {
        deep = omega (arith, b.deep, d.depth_same);
        current = λ e. ap (λ (f : Frame). f.is_local_frame) d.lasting_same ∙ b.current (sym d.depth_same ∙ e);
        saved = λ h. b.saved (omega (arith, d.depth_same));
      }))
