use Rattle.std.proofs.Common.{arith}
use Rattle.table.specs.Row.{names_line}
use Rattle.table.proofs.PrintedLaws.{wrote_long, wrote_lines}
use Rattle.listing.specs.Listing.{from_names_line, listing_of}
use Rattle.listing.proofs.put_listing.Goals as goal

pub returns-then-input-ge-TOO_LONG : goal.returns-then-input-ge-TOO_LONG
unfolding listing_of
returns-then-input-ge-TOO_LONG c = wrote_long names_line from_names_line c.args.input.now c.put_bytes.ensures c.if-input-ge-TOO_LONG.true c.put_bad_line.ensures

pub returns-in-Ok : goal.returns-in-Ok
unfolding listing_of
returns-in-Ok c =
    wrote_lines names_line from_names_line c.args.input.now c.put_bytes.ensures (omega arith) (rw (← c.new-lines.ensures) (rw c.in-Ok.is at c.read_start.ensures)) c.put_cycles.ensures

pub returns-in-Err : goal.returns-in-Err
unfolding listing_of
returns-in-Err c =
    wrote_lines names_line from_names_line c.args.input.now c.put_bytes.ensures (omega arith) (rw (← c.new-lines.ensures) (rw c.in-Err.is at c.read_start.ensures))
    c.put_bad_line-in-Err.ensures
