-- When the frame of a near call closes, its caller resumes as claimed: by an invariant of the cycles from the near call's own on. Assumes the laws, but for
-- `advances`.
use Prim.Native.Nat.{ℕ, zero, suc, ◌+◌, ◌≤◌, ◌<◌}
use mathlib.Core.Path.{◌≡◌, sym, ap, ◌∙◌, subst₂}
use mathlib.Core.Logic.{◌≢◌}
use mathlib.Core.Bool.{true}
use mathlib.Core.List.{List, [], ◌∷◌, ◌++◌}
use native.Mathlib.Omega.{arith}
use native.Mathlib.Decide.{dec_lt}
use native.Mathlib.Nat.{add-zero, add_assoc}
use lib.ListN.{length, take}
use Rattle.lists.specs.Machine.{Machine, Outcome, FrameOperation, near_call, ret, neither, machine_row, first_rows}
use Rattle.lists.specs.Lists.{CallMade, Cycle, calls_made, before, store_before, result, charge, charges, operation, opens, closes, opened, closed, sum, share}
use Rattle.lists.specs.Laws.{Spends, OpensFrame, ClosesFrame, Performs, Laws}
use Rattle.lists.specs.Claims.{CallersResume}
use Rattle.lists.proofs.Rows.{fewer_same, row_same, saved_ergs, saved_same}
use Rattle.lists.proofs.Cycles.{Follow, follow, Does, does}

-- ---- the frames above the caller of a near call
module _ (M : Machine) (call : Cycle M) where
  open M use {State, ExecuteArgs, Lasting, is_local, ergs, lasting, depth, passes, row_ergs, row_lasting}

  -- the caller's depth, which is also the row that it is saved as
  abbrev d : ℕ
  d = depth (before M call)

  -- the caller's ergs and what lasts of it, with k frames above it: with none it is the current frame
  abbrev caller_ergs : ℕ → State → List ℕ → ℕ
  caller_ergs zero s m = ergs s
  caller_ergs (suc k) s m = row_ergs (machine_row M m d)

  abbrev caller_lasting : ℕ → State → List ℕ → Lasting
  caller_lasting zero s m = lasting s
  caller_lasting (suc k) s m = row_lasting (machine_row M m d)

  -- k frames, all of them local, stand above the caller, and `paid` was charged since
  record Above (k : ℕ) (s : State) (m : List ℕ) (paid : ℕ) : Type 0 where
    deep : depth s ≡ d + k
    total : ergs s + saved_ergs M m d k + paid ≡ ergs (before M call)
    enough : share M call ≤ caller_ergs k s m
    same : caller_lasting k s m ≡ lasting (before M call)
    top_local : 0 < k → is_local (lasting s) ≡ true
    rows_local : (i : ℕ) → d < i → i < d + k → is_local (row_lasting (machine_row M m i)) ≡ true
    below : first_rows M d m ≡ first_rows M d (store_before M call)

  module _ {s : State} {m : List ℕ} {o : Outcome State} {paid : ℕ} where
    spent_above : {j n : ℕ} → Spends M n s m o → Above (suc j) s m paid → Above (suc j) o.state o.store (paid + n)
    spent_above z a =
        rw z.store_same
        (record {
          deep = z.depth_same ∙ a.deep;
          total = omega (arith, z.ergs_less, a.total);
          enough = a.enough;
          same = a.same;
          top_local = λ h. rw z.lasting_same (a.top_local h);
          rows_local = a.rows_local;
          below = a.below;
        })

    opened_above : {k : ℕ} (x : ExecuteArgs) → OpensFrame M x s m o → share M call ≤ row_ergs (machine_row M o.store d)
        → row_lasting (machine_row M o.store d) ≡ lasting (before M call) → Above k s m paid → Above (suc k) o.state o.store paid
    unfolding saved_ergs
    opened_above {k} x z l e a =
        record {
          deep = omega (arith, z.depth_up, a.deep);
          total = omega (arith, z.passed, row, a.total, saved_same M o.store m d k rows);
          enough = l;
          same = e;
          top_local = λ h. z.local_new;
          rows_local = λ i p q. go i p q (dec_lt i (d + k));
          below = fewer_same M o.store m (d + k) rows d (omega arith) ∙ a.below;
        }
      where
        rows : first_rows M (d + k) o.store ≡ first_rows M (d + k) m
        rows = rw (← a.deep) z.below_same

        row : row_ergs (machine_row M o.store (d + k)) + passes x s ≡ ergs s
        row = rw (← a.deep) z.kept_back

        -- a row that was there, or the one saved now
        go : (i : ℕ) → d < i → i < d + suc k → Dec (i < d + k) → is_local (row_lasting (machine_row M o.store i)) ≡ true
        go i p q (yes r) = rw (row_same M o.store m (d + k) rows i r) (a.rows_local i p r)
        go i p q (no r) =
            let at : i ≡ depth s = omega (arith, a.deep, r) in
            rw (at, z.lasting_saved) (a.top_local (omega arith))

    closed_above : {j : ℕ} → ClosesFrame M s m o → Above (suc j) s m paid → Above j o.state o.store paid
    unfolding saved_ergs
    closed_above {j} z a =
        rw z.store_same
        (record {
          deep = at;
          total = omega (arith, back, a.total);
          enough = go j a.enough back;
          same = resumed j a.same whole;
          top_local = λ h. rw z.lasting_back (a.rows_local (depth o.state) (omega (arith, at)) (omega (arith, at)));
          rows_local = λ i p q. a.rows_local i p (omega arith);
          below = a.below;
        })
      where
        at : depth o.state ≡ d + j
        at = omega (arith, z.depth_down, a.deep)

        back : ergs o.state ≡ row_ergs (machine_row M m (d + j)) + ergs s
        back = rw at at (z.ergs_back (a.top_local (omega arith)))

        whole : lasting o.state ≡ row_lasting (machine_row M m (d + j))
        whole = rw at at z.lasting_back

        go : (j : ℕ) → share M call ≤ row_ergs (machine_row M m d) → ergs o.state ≡ row_ergs (machine_row M m (d + j)) + ergs s
            → share M call ≤ caller_ergs j o.state m
        go zero l e = omega (arith, rw (add-zero d) at e)
        go (suc j) l e = l

        resumed : (j : ℕ) → row_lasting (machine_row M m d) ≡ lasting (before M call) → lasting o.state ≡ row_lasting (machine_row M m (d + j))
            → caller_lasting j o.state m ≡ lasting (before M call)
        resumed zero l e = rw (add-zero d) at e ∙ l
        resumed (suc j) l e = l

  -- the near call's own cycle
  over_call : operation M call ≡ near_call → Does M call → Above 1 (result M call).state (result M call).store (charge M call)
  unfolding share saved_ergs
  over_call e x =
      let z : OpensFrame M call.execute.input call.execute.state call.execute.store (result M call) = rw e at x.performs in
      opened_above
      call.execute.input
      z
      (rw (← x.spends.depth_same) (omega (arith, z.kept_back, x.spends.ergs_less)))
      (rw (← x.spends.depth_same) (z.lasting_saved ∙ x.spends.lasting_same))
      (record {
        deep = omega (arith, x.spends.depth_same);
        total = omega (arith, x.spends.ergs_less);
        enough = omega (arith, x.spends.ergs_less);
        same = x.spends.lasting_same;
        top_local = λ h. absurd (omega arith);
        rows_local = λ i p q. absurd (omega arith);
        below = ap (first_rows M d) x.spends.store_same;
      })

-- ---- the cycles to the closing one
module _ (M : Machine) (L : Laws M) (call : Cycle M) where
  open M use {State, depth}

  -- one cycle, whatever its operation
  over_cycle : (c : Cycle M) (cs : List (Cycle M)) (later : List (CallMade M)) (s : State) (m : List ℕ) (k paid : ℕ)
      → Follow M s m (calls_made M (c ∷ cs) ++ later)
      → 0 < k
      → Above M call k s m paid
      → (k' : ℕ)
      × (k' + closes (operation M c) ≡ k + opens (operation M c))
      × Above M call k' (result M c).state (result M c).store (paid + charge M c)
  unfolding calls_made
  over_cycle c cs later s m zero paid f h a = absurd (omega arith)
  over_cycle c cs later s m (suc j) paid f h a = go (operation M c) x.performs
    where
      x : Does M c
      x = does M L s m c cs later f

      b : Above M call (suc j) c.execute.state c.execute.store (paid + charge M c)
      b = spent_above M call x.spends (subst₂ (λ (t : State) (n : List ℕ). Above M call (suc j) t n paid) (sym f.0) (sym f.1) a)

      go : (q : FrameOperation) → Performs M q c.execute.input c.execute.state c.execute.store (result M c)
          → (k' : ℕ) × (k' + closes q ≡ suc j + opens q) × Above M call k' (result M c).state (result M c).store (paid + charge M c)
      go near_call z =
          let same = row_same M (result M c).store c.execute.store (depth c.execute.state) z.below_same (d M call) (omega (arith, b.deep)) in
          (suc (suc j), omega arith, opened_above M call c.execute.input z (rw same b.enough) (rw same b.same) b)
      go ret z = (j, omega arith, closed_above M call z b)
      go neither z = (suc j, omega arith, rw (add-zero (paid + charge M c)) at (spent_above M call z b))

  -- the last cycle is the first by which k frames and all opened since are closed
  abbrev LastCloses : ℕ → List (Cycle M) → Type 0
  LastCloses k cs = (k + opened M cs ≡ closed M cs) × ((i : ℕ) → i < length cs → k + opened M (take i cs) ≢ closed M (take i cs))

  over_cycles : (between : List (Cycle M)) (close : Cycle M) (later : List (CallMade M)) (s : State) (m : List ℕ) (k paid : ℕ)
      → Follow M s m (calls_made M (between ++ (close ∷ [])) ++ later)
      → LastCloses k (between ++ (close ∷ []))
      → Above M call k s m paid
      → Above M call 0 (result M close).state (result M close).store (paid + charges M (between ++ (close ∷ [])))
  unfolding calls_made opened closed charges sum
  over_cycles [] close later s m k paid f l a =
      let x = over_cycle close [] later s m k paid f (omega (arith, l.1 0 (omega arith))) a in
      let none : x.0 ≡ 0 = omega (arith, x.1, l.0) in
      rw (add-zero (charge M close)) (rw none at x.2)
  over_cycles (c ∷ cs) close later s m k paid f l a =
      let x = over_cycle c (cs ++ (close ∷ [])) later s m k paid f (omega (arith, l.1 0 (omega arith))) a in
      rw
      (← add_assoc paid (charge M c) (charges M (cs ++ (close ∷ []))))
      (over_cycles
      cs
      close
      later
      (result M c).state
      (result M c).store
      x.0
      (paid + charge M c)
      f.3.3.3.3
      (omega (arith, x.1, l.0), λ i h e. l.1 (suc i) (omega arith) (omega (arith, x.1, e)))
      x.2)

module _ (M : Machine) (L : Laws M) where
  pub callers_resume : CallersResume M
  unfolding calls_made opened closed charges sum saved_ergs share
  callers_resume calls s store call between close t e l =
      let f = follow M L t in
      let x = does M L f.0 f.1 call (between ++ (close ∷ [])) t.later f.2 in
      let z : OpensFrame M call.execute.input call.execute.state call.execute.store (result M call) = rw e at x.performs in
      let one : opens (operation M call) ≡ 1 = ap opens e in
      let none : closes (operation M call) ≡ 0 = ap closes e in
      let a =
      over_cycles
      M
      L
      call
      between
      close
      t.later
      (result M call).state
      (result M call).store
      1
      (charge M call)
      f.2.3.3.3.3
      (omega (arith, l.as_many, one, none), λ i h q. l.not_before (suc i) (omega arith) (omega arith) (omega (arith, q, one, none)))
      (over_call M call e x) in
      record { current = omega (arith, a.deep); same = a.same; exact = omega (arith, a.total); divided = omega (arith, z.kept_back, x.spends.ergs_less); no_less = a.enough; below = a.below }
