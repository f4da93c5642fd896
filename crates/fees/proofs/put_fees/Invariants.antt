use Rattle.std.proofs.Common.{◌+◌, ◌≤◌, ◌^◌, length}
use Rattle.std.specs.Iterator.Adapters.{zip_first, zip_second}
use Rattle.text.specs.Lines.{lines_left}
use Rattle.text.proofs.BytesLaws.{Unwritten}
use Rattle.fees.specs.Bill.{bill_lines}
use Rattle.fees.proofs.put_fees.Given as goal

abbrev pub invariant-loop-line : goal.invariant-loop-line
invariant-loop-line l =
    let n = (zip_second l.line-iterator).start in
    let lines = lines_left (zip_first l.line-iterator) in
    (n + length lines ≤ 2 ^ 63 + 1) × Unwritten l.fn.writer (bill_lines 2 (lines_left l.fn.lines)) (bill_lines n lines) l.writer
