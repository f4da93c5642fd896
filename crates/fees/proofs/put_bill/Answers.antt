use Rattle.std.proofs.Common.{arith}
use Rattle.text.specs.Lines.{lines_left}
use Rattle.table.proofs.PrintedLaws.{wrote_long, wrote_lines, by_names}
use Rattle.fees.specs.Bill.{bill_names, bill_lines, bill_from_names, bill_of}
use Rattle.fees.proofs.put_bill.Goals as goal

pub returns-then-input-ge-TOO_LONG : goal.returns-then-input-ge-TOO_LONG
unfolding bill_of
returns-then-input-ge-TOO_LONG c = wrote_long bill_names bill_from_names c.args.input.now c.put_bytes.ensures c.if-input-ge-TOO_LONG.true c.put_bad_line.ensures

pub returns-then-ne : goal.returns-then-ne
unfolding bill_of bill_from_names
returns-then-ne c =
    let later = bill_lines 2 (lines_left c.next_or_empty.new.self) in
    wrote_lines bill_names bill_from_names c.args.input.now c.put_bytes.ensures (omega arith)
    (rw (← c.new-lines.ensures, ← c.next_or_empty.ensures.1, by_names 1 later c.next_or_empty.ensures.0 c.as_slice.ensures c.ne.ensures, c.if-ne.true)) c.put_bad_line-then-ne.ensures

pub returns : goal.returns
unfolding bill_of bill_from_names
returns c =
    let later = bill_lines 2 (lines_left c.next_or_empty.new.self) in
    wrote_lines bill_names bill_from_names c.args.input.now c.put_bytes.ensures (omega arith)
    (rw (← c.new-lines.ensures, ← c.next_or_empty.ensures.1, by_names 1 later c.next_or_empty.ensures.0 c.as_slice.ensures c.ne.ensures, c.if-ne.false)) c.put_fees.ensures
