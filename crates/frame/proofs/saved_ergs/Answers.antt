use Rattle.std.proofs.Common.{◌≡◌, ◌*◌, ◌-◌, ◌∙◌, ◌⊎◌, suc, ap, length, drop, arith}
use Rattle.frame.specs.Row.{row_word, row_width}
use Rattle.frame.specs.Store.{row_at}
use Rattle.frame.proofs.StoreLaws as laws
use Rattle.frame.proofs.saved_ergs.Goals as goal

pub loop-row-preserved : goal.loop-row-preserved
loop-row-preserved c =
    let before = c.loop-row.invariant in
    let steps : _ = c.in-Some.ensures.steps in
    let store = c.args.store.now in
    let i = c.args.depth - c.loop-row.row-iterator.n in
    let turn : c.args.depth - c.next.new.self.n ≡ suc i = omega (arith, steps.1, before.left) in
    let next =
    laws.next_chunk store i c.loop-row.row-iterator.iter.rest.now c.in-Some.row.now c.next.new.self.iter.rest.now before.rest steps.0.1.0
    (rw (← before.size) steps.0.1.1) in
    let ergs : c.from-sum.result ≡ row_word (row_at store i) 20 = c.from-sum.ensures ∙ c.row_ergs.ensures ∙ ap (λ (row : _). row_word row 20) next.0 in
    record {
      size = steps.0.0 ∙ before.size;
      left = omega (arith, steps.1, before.left);
      rest = rw turn next.1;
      sum = rw (turn, ergs, before.sum) (omega arith);
      bound = rw turn (omega (arith, before.bound, c.row_ergs.type_inv, c.from-sum.ensures));
    }

pub returns : goal.returns
returns c =
    let before = c.loop-row.invariant in
    let i = c.args.depth - c.loop-row.row-iterator.n in
    let ends : (c.loop-row.row-iterator.n ≡ 0) ⊎ (length c.loop-row.row-iterator.iter.rest.now ≡ 0) = grind (arith, c.in-None.ensures.steps) in
    let here : (c.loop-row.row-iterator.n ≡ 0) ⊎ (length (drop (i * row_width) c.args.store.now) ≡ 0) = rw before.rest at ends in (
      laws.saved_ergs_all c.args.store.now i c.loop-row.row-iterator.n c.args.depth c.loop-row.sum (omega (arith, before.left)) here before.sum,
      omega (arith, before.bound),
    )
