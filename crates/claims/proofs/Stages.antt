-- Fetch, decode and operands of the cycle core as stages of a machine. Assumes nothing.
use Prim.Native.Nat.{ℕ, ◌+◌, ◌-◌, min}
use mathlib.Core.Bool.{false, not}
use mathlib.Core.Path.{◌≡◌, refl, ap}
use mathlib.Core.List.{List}
use native.Mathlib.Omega.{arith}
use native.Mathlib.Nat.{add-zero}
use lib.Dec.{eqb}
use borrow.Author.Tests.{eqb-true, not-false}
use Rattle.frame.specs.Fields.{with_ergs, with_sp}
use Rattle.records.specs.declared.Settings.{Settings}
use Rattle.stages.specs.declared.State.{State}
use Rattle.stages.specs.Checks.{fetch_checks, decode_checks, operands_checks}
use Rattle.stages.specs.Fetch.{fetched_state, fetch_done, fetch_of}
use Rattle.stages.specs.Decode.{decoded_state, decode_done, decode_of}
use Rattle.stages.specs.Operands.{addressed_state, operands_done, operands_of}
use Rattle.lists.specs.Machine.{charge_of}
use Rattle.lists.specs.Lists.{fetch, decode, operands}
use Rattle.lists.specs.Laws.{Advances, Spends}
use Rattle.claims.specs.Core.{core, CoreFetchArgs, CoreDecodeArgs, fetch_outcome, decode_outcome, operands_outcome, stage_of, lasting_of}
use Rattle.claims.specs.Answers.{fetch_numbers, decode_numbers, operands_numbers}
use Rattle.claims.proofs.Views.{View, by_checks}

-- a stage in its turn
pub turn : (n stage : ℕ) → not (eqb n stage) ≡ false → stage_of n ≡ stage_of stage
turn n stage e = ap stage_of (eqb-true n stage (not-false (eqb n stage) e))

pub fetch_view : (x : CoreFetchArgs) (s : State) (store : List ℕ)
    → View fetch_numbers s store (fetch_outcome x s store) (Advances core (fetch x) s (fetch_outcome x s store) × Spends core 0 s store (fetch_outcome x s store))
unfolding fetch_of fetch_done fetched_state
fetch_view x s store =
    by_checks fetch_numbers tt s store (λ o. Advances core (fetch x) s o × Spends core 0 s store o)
    (fetch_checks x.settings s store) tt tt (fetch_done s x.word) refl
    (λ c. (
      record { stage_before = turn s.stage 0 c.1.0; stage_after = refl },
      record { ergs_less = add-zero s.current.ergs_remaining; lasting_same = refl; depth_same = refl; store_same = refl },
    ))

-- what is left and the charge are what was held
charged : (held price : ℕ) → held - price + min price held ≡ held
charged held price = omega arith

pub decode_view : (x : CoreDecodeArgs) (s : State) (store : List ℕ)
    → View decode_numbers s store (decode_outcome x s store)
    (Advances core (decode x) s (decode_outcome x s store)
    × Spends core (charge_of core x s) s store (decode_outcome x s store)
    × (core.kept (decode_outcome x s store).state ≡ core.keeps x s))
unfolding decode_of decode_done decoded_state with_ergs charge_of lasting_of
decode_view x s store =
    by_checks decode_numbers tt s store
    (λ o. Advances core (decode x) s o × Spends core (charge_of core x s) s store o × (core.kept o.state ≡ core.keeps x s))
    (decode_checks x.settings x.records s store) tt tt (decode_done x.settings x.records s) refl
    (λ c. (
      record { stage_before = turn s.stage 1 c.1.0; stage_after = refl },
      record { ergs_less = charged s.current.ergs_remaining _; lasting_same = refl; depth_same = refl; store_same = refl },
      refl,
    ))

pub operands_view : (settings : Settings) (s : State) (store : List ℕ)
    → View operands_numbers s store (operands_outcome settings s store)
    (Advances core (operands settings) s (operands_outcome settings s store)
    × Spends core 0 s store (operands_outcome settings s store)
    × (core.kept (operands_outcome settings s store).state ≡ core.kept s))
unfolding operands_of operands_done addressed_state with_sp lasting_of
operands_view settings s store =
    by_checks operands_numbers tt s store
    (λ o. Advances core (operands settings) s o × Spends core 0 s store o × (core.kept o.state ≡ core.kept s))
    (operands_checks settings s store) tt tt (operands_done 16 s) refl
    (λ c. (
      record { stage_before = turn s.stage 2 c.1.0; stage_after = refl },
      record { ergs_less = add-zero s.current.ergs_remaining; lasting_same = refl; depth_same = refl; store_same = refl },
      refl,
    ))
