-- The cycle core keeps the laws of a machine. Assumes nothing.
use mathlib.Core.Bool.{true, false}
use mathlib.Core.Path.{◌≡◌}
use mathlib.Core.List.{List}
use Prim.Native.Nat.{ℕ}
use Rattle.stages.specs.declared.State.{State}
use Rattle.lists.specs.Machine.{finished}
use Rattle.lists.specs.Lists.{Call, fetch, decode, operands, execute, outcome_of}
use Rattle.lists.specs.Laws.{Laws, Unchanged, Advances}
use Rattle.claims.specs.Core.{core}
use Rattle.claims.proofs.Views.{if_refused, if_done}
use Rattle.claims.proofs.Stages.{fetch_view, decode_view, operands_view}
use Rattle.claims.proofs.ExecuteView.{execute_view}

refusals : (c : Call core) (s : State) (store : List ℕ) → finished (outcome_of core c s store) ≡ false → Unchanged core s store (outcome_of core c s store)
refusals (fetch x) s store e = if_refused (fetch_view x s store) e
refusals (decode x) s store e = if_refused (decode_view x s store) e
refusals (operands x) s store e = if_refused (operands_view x s store) e
refusals (execute x) s store e = if_refused (execute_view x s store) e

turns : (c : Call core) (s : State) (store : List ℕ) → finished (outcome_of core c s store) ≡ true → Advances core c s (outcome_of core c s store)
turns (fetch x) s store e = (if_done (fetch_view x s store) e).0
turns (decode x) s store e = (if_done (decode_view x s store) e).0
turns (operands x) s store e = (if_done (operands_view x s store) e).0
turns (execute x) s store e = (if_done (execute_view x s store) e).0

pub laws : Laws core
laws = record {
  refused = refusals;
  advances = turns;
  fetch_spends = λ x s store e. (if_done (fetch_view x s store) e).1;
  decode_spends = λ x s store e. (if_done (decode_view x s store) e).1;
  decode_keeps = λ x s store e. (if_done (decode_view x s store) e).2;
  operands_spends = λ x s store e. (if_done (operands_view x s store) e).1;
  operands_keeps = λ x s store e. (if_done (operands_view x s store) e).2;
  execute_performs = λ x s store e. (if_done (execute_view x s store) e).1;
}
