use Rattle.stages.proofs.OperandsLaws as laws
use Rattle.stages.proofs.State.operands.Goals as goal

pub returns-then-sizes-turn : goal.returns-then-sizes-turn
returns-then-sizes-turn c =
    let a = c.args in
    laws.refused a.settings a.self a.store.now _ c.has_bad_store-sizes.ensures _ c.is_out_of_turn-turn.ensures _ c.good_record-bad.ensures _ c.lacks_page_or_time-lacking.ensures
    c.if-sizes-turn.true _ c.first_after-refusal.ensures _ c.refused.ensures

pub returns : goal.returns
returns c =
    let a = c.args in
    laws.answered a.settings a.self a.store.now _ c.has_bad_store-sizes.ensures _ c.is_out_of_turn-turn.ensures _ c.good_record-bad.ensures _ c.lacks_page_or_time-lacking.ensures
    c.if-sizes-turn.false _ c.places-places.ensures _ c.addressed-next.ensures
