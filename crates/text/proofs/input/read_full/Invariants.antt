use Rattle.std.proofs.Common.{length, take, ◌≤◌, ◌-◌}
use Rattle.std.specs.Io.KnownBytes.{Consumes}
use Rattle.text.proofs.input.read_full.Given as goal

abbrev pub invariant-loop-size : goal.invariant-loop-size
invariant-loop-size g l =
    (l.size ≤ length l.buffer) × Consumes (g.R.Read.remaining l.initial.input) (g.R.Read.remaining l.input) (take l.size l.buffer)

abbrev pub decreases-loop-size : goal.decreases-loop-size
decreases-loop-size g l = length l.buffer - l.size
