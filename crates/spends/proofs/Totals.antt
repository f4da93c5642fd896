-- What all frames hold, and how much less a cycle leaves. Assumes nothing.
use Rattle.std.proofs.Common.{◌≡◌, ℕ, zero, suc, ◌+◌, ◌≤◌, Bool, true, false, cond, not, ◌&&◌, List, [], refl, ap, ◌∙◌, arith}
use Rattle.refusal.proofs.RefusalLaws.{clear}
use Rattle.frame.specs.Row.{frame_of}
use Rattle.frame.specs.Store.{row_at, saved_ergs}
use Rattle.stages.specs.declared.State.{State}
use Rattle.stages.specs.Checks.{execute_checks}
use Rattle.records.specs.Record.{is_return, is_near_call}
use Rattle.stages.specs.State.{record_of}
use Rattle.stages.specs.Execute.{execute_refusal, execute_done, execute_of}
use Rattle.cycle.specs.declared.Input.{Input}
use Rattle.lists.specs.Machine.{Outcome, FrameOperation, near_call, ret, neither, first_rows, machine_row}
use Rattle.lists.specs.Lists.{charge}
use Rattle.lists.specs.Laws.{Performs}
use Rattle.lists.proofs.Rows.{fewer_same, row_same}
use Rattle.claims.specs.Core.{core, CoreExecuteArgs, lasting_of}
use Rattle.cycle.specs.Cycle.{cycle_of, cycle_store, cycle_charge}
use Rattle.line_cycle.specs.LineCycle.{total_held}
use Rattle.spends.proofs.Cycles.{not_refused, reach, out, performs, cycle_is, store_is, charge_is, cycle_from, Finished, cycle_does}

pub same_row : (store other : List ℕ) (n i : ℕ) → first_rows core n store ≡ first_rows core n other → suc i ≤ n → row_at store i ≡ row_at other i
unfolding machine_row
same_row store other n i e l = row_same core store other n e i l

same_saved : (d : ℕ) (store other : List ℕ) → first_rows core d store ≡ first_rows core d other → saved_ergs d store ≡ saved_ergs d other
same_saved zero store other e = refl
same_saved (suc i) store other e =
    let p = same_saved i store other (fewer_same core store other (suc i) e i (omega arith)) in
    let q = same_row store other (suc i) i e (omega arith) in
    cc

abbrev pub total : State → List ℕ → ℕ
total s store = total_held (record { state = s; store = store; tally = [] })

-- execute leaves what all frames hold, where a frame that it closes is local
step_total : (q : FrameOperation) (x : CoreExecuteArgs) (s : State) (store : List ℕ) (o : Outcome State)
    → (q ≡ ret → s.current.is_local_frame ≡ true) → Performs core q x s store o → total o.state o.store ≡ total s store
unfolding machine_row lasting_of
step_total near_call x s store o l p =
    let row = (frame_of (row_at o.store s.depth)).ergs_remaining in
    let saved : saved_ergs o.state.depth o.store ≡ row + saved_ergs s.depth store =
    ap (λ (n : ℕ). saved_ergs n o.store) p.depth_up ∙ ap (λ (n : ℕ). row + n) (same_saved s.depth o.store store p.below_same) in
    omega (arith, saved, p.kept_back, p.passed)
step_total ret x s store o l p =
    let row = (frame_of (row_at store o.state.depth)).ergs_remaining in
    let saved : saved_ergs s.depth store ≡ row + saved_ergs o.state.depth store = ap (λ (n : ℕ). saved_ergs n store) p.depth_down in
    omega (arith, saved, ap (saved_ergs o.state.depth) p.store_same, p.ergs_back (l refl))
step_total neither x s store o l p =
    let same : saved_ergs o.state.depth o.store ≡ saved_ergs s.depth store =
    ap (saved_ergs o.state.depth) p.store_same ∙ ap (λ (n : ℕ). saved_ergs n store) p.depth_same in
    omega (arith, same, p.ergs_less)

-- of a record that is kept as a return, refused where the frame is not local
local : (a b is_local : Bool) → cond b near_call (cond a ret neither) ≡ ret → (a && not is_local) ≡ false → is_local ≡ true
local true b true e c = refl
local true b false e c = absurd (cc)
local false true is_local e c = absurd (cc)
local false false is_local e c = absurd (cc)

module _ (input : Input) (s : State) (store : List ℕ) (f : Finished input s store) where
  -- what execute is given
  abbrev given : State
  given = reach input s store f

  -- a frame that is closed is local: refusal 7
  pub closes_local : core.kept given ≡ ret → given.current.is_local_frame ≡ true
  unfolding execute_of lasting_of
  closes_local e =
      let n = not_refused (execute_refusal 16 input.settings input.execute given store) given (execute_done 16 input.settings input.execute given store) f.execute f.executed in
      let c = clear (execute_checks 16 input.settings input.execute given store) tt n in
      local (is_return (record_of given)) (is_near_call (record_of given)) given.current.is_local_frame e c.1.1.1.1.1.0

  -- all frames hold so much less as is charged
  conserved : total (out input s store f).state (out input s store f).store + charge core (cycle_from input s store) ≡ total s store
  conserved =
      let d = (cycle_does input s store f).spends in
      let x = (cycle_from input s store).execute.input in
      let after = step_total (core.kept given) x given store (out input s store f) closes_local (performs input s store f) in
      omega (arith, after, d.ergs_less, ap (λ (n : ℕ). saved_ergs n store) d.depth_same)

  pub total_after : total (cycle_of input s store).state (cycle_store input s store) + cycle_charge (cycle_of input s store).answer ≡ total s store
  total_after = rw (charge_is input s store f, cycle_is input s store f, store_is input s store f) conserved
