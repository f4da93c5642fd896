use Rattle.std.proofs.Common.{arith, refl, sym, ◌∙◌}
use Rattle.text.proofs.NumberLaws.{number_fitted, converted}
use Rattle.text.proofs.read_number.Goals as goal

pub returns-in_err-number : goal.returns-in_err-number
returns-in_err-number c = c.from_residual.ensures ∙ sym (rw (number_fitted 32 64 (omega arith) c.args.field.now, ← c.read_u64.ensures, c.in_err-number.was))

pub returns : goal.returns
returns c =
    rw (number_fitted 32 64 (omega arith) c.args.field.now, ← c.read_u64.ensures, c.in_ok-number.was)
    (sym (converted 32 c.in_ok-number.number c.try_from.result c.try_from.ensures c.ok.ensures.value refl))
