use Rattle.std.proofs.Common.{arith, sym, ◌∙◌}
use Rattle.std.proofs.lemmas.Bool.Decides.{nat_tests}
use Rattle.text.proofs.NumberLaws as laws
use Rattle.text.proofs.read_u64.Goals as goal

pub returns-then-is_empty : goal.returns-then-is_empty
returns-then-is_empty c = laws.reading_none 64 c.args.field.now (grind (arith, nat_tests))

pub loop-byte-init : goal.loop-byte-init
loop-byte-init c = (omega arith, laws.reading_first 64 c.args.field.now (λ h. grind (arith, nat_tests)))

pub returns-in_err-checked_mul : goal.returns-in_err-checked_mul
returns-in_err-checked_mul c = c.from_residual.ensures ∙ sym (c.loop-byte.invariant.1 ∙ laws.reading_past 64 c.loop-byte.number c.args.field.now c.loop-byte.byte-index c.loop-byte-test.true (grind (arith, nat_tests)) (grind (arith, nat_tests)))

pub returns-in_err-number : goal.returns-in_err-number
returns-in_err-number c = c.from_residual-in_err-number.ensures ∙ sym (c.loop-byte.invariant.1 ∙ laws.reading_past 64 c.loop-byte.number c.args.field.now c.loop-byte.byte-index c.loop-byte-test.true (grind (arith, nat_tests)) (grind (arith, nat_tests)))

pub returns : goal.returns
returns c = sym (c.loop-byte.invariant.1 ∙ laws.reading_done 64 c.loop-byte.number c.args.field.now c.loop-byte.byte-index (omega arith) c.loop-byte-test.false)
