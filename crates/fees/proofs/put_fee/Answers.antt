use Rattle.fees.proofs.BillLaws.{wrote_row}
use Rattle.fees.proofs.put_fee.Goals as goal

pub returns : goal.returns
returns c = wrote_row c.args.writer.now c.args.spend c.args.unit c.args.fee c.put_field.ensures c.put_field-2.ensures c.put_field-3.ensures c.put_field-4.ensures
