use Rattle.table.proofs.RowLaws.{wrote_row}
use Rattle.table.proofs.print.put_row.Goals as goal

pub returns : goal.returns
returns c =
    wrote_row c.args.writer.now c.args.row c.put_field.ensures (rw c.name.ensures at c.put_bytes.ensures) c.put_byte.ensures
    (rw c.from.ensures at c.put_field-2.ensures) (rw c.from-2.ensures at c.put_field-3.ensures) (rw c.from-3.ensures at c.put_field-4.ensures)
    c.put_field-5.ensures c.put_field-6.ensures
