use Rattle.std.proofs.Common.{ap, length, arith, sym, ◌∙◌}
use mathlib.Core.Logic.{⊎_elim}
use Rattle.text.proofs.PartsLaws.{lines_length}
use Rattle.text.proofs.BytesLaws.{unwritten_whole, unwritten_none, unwritten_last, unwritten_part}
use Rattle.fees.proofs.BillLaws as laws
use Rattle.fees.proofs.put_fees.Goals as goal

pub loop-line-init : goal.loop-line-init
loop-line-init c =
    let few = lines_length c.args.lines.rest.now in
    rw (c.into_iter-line-iterator.ensures.into_iter_gives, c.zip-line-items.ensures.first, c.zip-line-items.ensures.second)
    (omega arith, unwritten_whole c.args.writer.now _ c.requires)

pub returns-in_default : goal.returns-in_default
returns-in_default c =
    let steps = c.in-Some.ensures.steps in
    unwritten_last c.loop-line.invariant.1 (laws.prints_bad _ steps.0 (sym c.read_pair.ensures ∙ c.in_default.is)) (rw steps.1.0 at c.put_bad_line.ensures)

pub loop-line-preserved : goal.loop-line-preserved
loop-line-preserved c =
    let steps = c.in-Some.ensures.steps in
    let fewer = ap length steps.0 in (
      omega (arith, c.loop-line.invariant.0, fewer, steps.1.0, steps.1.1),
      rw (steps.1.1, steps.1.0)
          (unwritten_part c.loop-line.invariant.1 _ _
          (laws.prints_row _ steps.0 (sym c.read_pair.ensures ∙ c.in-Some-read_pair.is) c.in-Ok.fee (sym c.fee.ensures.0 ∙ c.in-Ok.is)) c.put_fee.ensures),
    )

pub returns-in-Err : goal.returns-in-Err
returns-in-Err c =
    let steps = c.in-Some.ensures.steps in
    unwritten_last c.loop-line.invariant.1
    (laws.prints_refused _ steps.0 (sym c.read_pair.ensures ∙ c.in-Some-read_pair.is) _ (sym c.fee.ensures.0 ∙ c.in-Err.is))
    (rw c.number.ensures at c.put_refused.ensures)

pub returns : goal.returns
returns c =
    ⊎_elim (λ e. unwritten_none c.loop-line.invariant.1 (rw e.1.0)) (λ e. absurd (omega (arith, c.loop-line.invariant.0, e.1.0))) c.in-None.ensures.steps
