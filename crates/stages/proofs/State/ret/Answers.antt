use Rattle.stages.proofs.RetLaws as laws
use Rattle.stages.proofs.State.ret.Goals as goal

pub returns-then-far-depth : goal.returns-then-far-depth
returns-then-far-depth c =
    let a = c.args in
    laws.early a.settings a.self a.store.now _ c.if-far-depth.true _ c.first_after.ensures c.refused.ensures

pub returns-in-Ok : goal.returns-in-Ok
returns-in-Ok c =
    let a = c.args in
    laws.found a.settings a.self a.store.now _ c.if-far-depth.false _ (rw (← c.saturating_sub.ensures) c.read_frame-row.ensures.0) _ c.in-Ok.is c.close.ensures

pub returns-in-Err : goal.returns-in-Err
returns-in-Err c =
    let a = c.args in
    laws.not_found a.settings a.self a.store.now _ c.if-far-depth.false _ (rw (← c.saturating_sub.ensures) c.read_frame-row.ensures.0) c.requires _ c.in-Err.is _ c.from.ensures
    c.refused-in-Err.ensures
