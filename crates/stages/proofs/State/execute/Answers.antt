use Rattle.std.proofs.Common.{arith}
use Rattle.stages.proofs.ExecuteLaws as laws
use Rattle.stages.proofs.State.execute.Goals as goal

-- The laws get their facts by path: a state has more fields than a tactic looks into.
pub returns-then-sizes-turn : goal.returns-then-sizes-turn
returns-then-sizes-turn c =
    let a = c.args in
    laws.refused_by a.settings a.input a.self a.store.now _ c.sources-sources.ensures _ c.has_bad_store-sizes.ensures _ c.is_out_of_turn-turn.ensures _ c.good_record-bad.ensures
    _ c.is_kernel_mode.ensures _ c.pointer_refused-held.ensures c.if-sizes-turn.true _ c.first_after.ensures _ c.refused.ensures

pub returns-in-0 : goal.returns-in-0
returns-in-0 c =
    let a = c.args in
    laws.at_nop a.settings a.input a.self a.store.now _ c.sources-sources.ensures _ c.has_bad_store-sizes.ensures _ c.is_out_of_turn-turn.ensures _ c.good_record-bad.ensures
    _ c.is_kernel_mode.ensures _ c.pointer_refused-held.ensures c.if-sizes-turn.false _
    c.in-0.is c.nop.ensures

pub returns-in-3 : goal.returns-in-3
returns-in-3 c =
    let a = c.args in
    laws.at_call a.settings a.input a.self a.store.now _ c.sources-sources.ensures _ c.has_bad_store-sizes.ensures _ c.is_out_of_turn-turn.ensures _ c.good_record-bad.ensures
    _ c.is_kernel_mode.ensures _ c.pointer_refused-held.ensures c.if-sizes-turn.false _
    c.in-3.is (rw (← c.low_u32.ensures) c.near_call.ensures.0) _ (rw (← c.low_u32.ensures) c.near_call.ensures.1)

pub returns-in-1 : goal.returns-in-1
returns-in-1 c =
    let a = c.args in
    laws.at_sum a.settings a.input a.self a.store.now _ c.sources-sources.ensures _ c.has_bad_store-sizes.ensures _ c.is_out_of_turn-turn.ensures _ c.good_record-bad.ensures
    _ c.is_kernel_mode.ensures _ c.pointer_refused-held.ensures c.if-sizes-turn.false _
    (λ e. omega arith) (omega arith) c.arithmetic.ensures

pub returns-in_default : goal.returns-in_default
returns-in_default c =
    let a = c.args in
    laws.at_return a.settings a.input a.self a.store.now _ c.sources-sources.ensures _ c.has_bad_store-sizes.ensures _ c.is_out_of_turn-turn.ensures _ c.good_record-bad.ensures
    _ c.is_kernel_mode.ensures _ c.pointer_refused-held.ensures c.if-sizes-turn.false _
    (λ e. omega arith) (λ e. omega arith) (omega arith) c.ret.ensures
