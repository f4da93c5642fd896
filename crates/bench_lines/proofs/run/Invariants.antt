use Rattle.std.proofs.Common.{◌≡◌, None, length}
use Rattle.bench_lines.specs.Bench.{line_turn}
use Rattle.bench_lines.proofs.TurnsLaws.{Came, start}
use Rattle.bench_lines.proofs.run.Given as goal

-- what is left of the run from here comes to the whole of it from the start, and no cycle of it was refused
abbrev pub invariant-loop : goal.invariant-loop
invariant-loop g l = record {
  came :
      Came
      (line_turn (g.B.Benchmark.given l.bench) g.row.WIDTH l.lines)
      g.row.WIDTH
      (length l.lines)
      l.count
      (start l.initial.run.state l.fn.store)
      (record { progress = l.run; store = l.store });
  counted : l.run.begun ≡ l.counter;
  unrefused : l.run.refusal ≡ None;
}
