use Rattle.text.proofs.BytesLaws.{join}
use Rattle.table.specs.Row.{field}
use Rattle.table.proofs.print.put_labelled.Goals as goal

pub returns : goal.returns
returns c = join c.args.writer.now c.args.label.now (field c.args.number 10) c.put_bytes.ensures c.put_field.ensures
