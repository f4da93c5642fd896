-- A whole cycle: from what its stages give to what it gives. Assumes nothing.
use Prim.Native.Nat.{ℕ}
use mathlib.Core.Path.{◌≡◌, refl}
use mathlib.Core.List.{List}
use Rattle.std.specs.Prelude.{Ok, Err}
use Rattle.refusal.specs.declared.Refusal.{Refusal}
use Rattle.addressing.specs.declared.Location.{Location}
use Rattle.stages.specs.declared.State.{State}
use Rattle.stages.specs.declared.Staged.{Staged}
use Rattle.stages.specs.declared.FetchAnswer.{FetchAnswer}
use Rattle.stages.specs.declared.DecodeAnswer.{DecodeAnswer}
use Rattle.stages.specs.declared.OperandsAnswer.{OperandsAnswer}
use Rattle.stages.specs.declared.ExecuteAnswer.{ExecuteAnswer}
use Rattle.stages.specs.Fetch.{query_of, fetch_of}
use Rattle.stages.specs.Decode.{decode_of}
use Rattle.stages.specs.Operands.{operands_of}
use Rattle.stages.specs.Execute.{execute_of, execute_store}
use Rattle.cycle.specs.declared.Input.{Input}
use Rattle.stages.specs.declared.Stage.{Stage}
use Rattle.cycle.specs.declared.Cycled.{Cycled}
use Rattle.cycle.specs.Cycle.{refused_at, cycle_of, cycle_store}

-- a cycle gave r, and left the store so
abbrev pub Gives : Input → State → List ℕ → Cycled → List ℕ → Type 0
Gives input s store r after = (r ≡ cycle_of input s store) × (after ≡ cycle_store input s store)

module _ (input : Input) (s : State) (store : List ℕ) (f : Staged FetchAnswer) (ef : f ≡ fetch_of input.settings input.code s store) where
  pub fetch_refuses : (n : Refusal) → f.answer ≡ Err n → Gives input s store (refused_at f.state n Stage.Fetch) store
  unfolding cycle_of cycle_store
  fetch_refuses n e = rw (← ef, e) (refl, refl)

  module _ (fetched : FetchAnswer) (z0 : f.answer ≡ Ok fetched) (d : Staged DecodeAnswer) (ed : d ≡ decode_of input.settings input.records f.state store) where
    pub decode_refuses : (n : Refusal) → d.answer ≡ Err n → Gives input s store (refused_at d.state n Stage.Decode) store
    unfolding cycle_of cycle_store
    decode_refuses n e = rw (← ef, z0, ← ed, e) (refl, refl)

    module _ (decoded : DecodeAnswer) (z1 : d.answer ≡ Ok decoded) (o : Staged OperandsAnswer) (eo : o ≡ operands_of 16 input.settings d.state store) where
      pub operands_refuse : (n : Refusal) → o.answer ≡ Err n → Gives input s store (refused_at o.state n Stage.Operands) store
      unfolding cycle_of cycle_store
      operands_refuse n e = rw (← ef, z0, ← ed, z1, ← eo, e) (refl, refl)

      module _ (addressed : OperandsAnswer) (z2 : o.answer ≡ Ok addressed) (x : Staged ExecuteAnswer) (after : List ℕ)
          (ex : (x ≡ execute_of 16 input.settings input.execute o.state store)
          × (after ≡ execute_store 16 input.settings input.execute o.state store)) where
        pub execute_refuses : (n : Refusal) → x.answer ≡ Err n → Gives input s store (refused_at x.state n Stage.Execute) after
        unfolding cycle_of cycle_store
        execute_refuses n e = rw (← ef, z0, ← ed, z1, ← eo, z2, ← ex.0, ← ex.1, e) (refl, refl)

        pub done : (executed : ExecuteAnswer) → x.answer ≡ Ok executed → (read : Location) → read ≡ query_of s
            → Gives input s store
            (record { state = x.state; answer = Ok (record { read = read; fetch = fetched; decode = decoded; operands = addressed; execute = executed }) }) after
        unfolding cycle_of cycle_store
        done executed e read eq = rw (← ef, z0, ← ed, z1, ← eo, z2, ← ex.0, ← ex.1, e, eq) (refl, refl)
