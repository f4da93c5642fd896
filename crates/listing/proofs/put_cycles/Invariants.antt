use Rattle.std.proofs.Common.{◌+◌, ◌≤◌, ◌^◌, length}
use Rattle.std.specs.Iterator.Adapters.{zip_first, zip_second}
use Rattle.text.specs.Lines.{lines_left}
use Rattle.line_cycle.specs.LineCycle.{start_holding}
use Rattle.listing.specs.Listing.{lines_text}
use Rattle.text.proofs.BytesLaws.{Unwritten}
use Rattle.listing.proofs.put_cycles.Given as goal

abbrev pub invariant-loop-line : goal.invariant-loop-line
invariant-loop-line l =
    let cycle = (zip_second l.line-iterator).start in
    let lines = lines_left (zip_first l.line-iterator) in
    (cycle + length lines ≤ 2 ^ 63)
    × Unwritten l.fn.writer (lines_text l.start.limit 1 (start_holding l.start.ergs) (lines_left l.fn.lines))
    (lines_text l.start.limit cycle (record { state = l.state; store = l.store; tally = l.tally }) lines) l.writer
