use Rattle.std.proofs.Common.{sym, ◌∙◌, arith}
use Rattle.text.proofs.NumberLaws.{digits_as_decimal}
use Rattle.text.proofs.BytesLaws.{wrote_same}
use Rattle.text.proofs.Writer.put_number.Goals as goal

pub returns : goal.returns
returns c = wrote_same c.args.self.now (digits_as_decimal c.args.number (omega arith) ∙ sym c.format.ensures.text ∙ sym c.as_bytes.ensures.value) c.put_bytes.ensures
