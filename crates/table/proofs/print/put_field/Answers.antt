use Rattle.std.proofs.Common.{[], ◌∷◌}
use Rattle.text.specs.Number.{digits_of}
use Rattle.text.proofs.BytesLaws.{join}
use Rattle.table.proofs.print.put_field.Goals as goal

pub returns : goal.returns
returns c = join c.args.writer.now (digits_of c.args.number) (c.args.separator ∷ []) c.put_number.ensures c.put_byte.ensures
