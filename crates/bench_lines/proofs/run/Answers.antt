use Rattle.std.proofs.Common.{◌≡◌, ◌+◌, ◌%◌, ◌^◌, ◌<◌, ◌≤◌, Ok, Err, Some, false, ◌&&◌, ltb, refl, length, arith}
use Rattle.std.specs.Option.{is_none}
use Rattle.std.specs.Result.{result_err}
use Rattle.std.proofs.lemmas.Bool.Decides.{nat_tests}
use Rattle.start.specs.Start.{start_state}
use Rattle.bench_lines.specs.Bench.{Bench, charged_after, line_turn, run_of}
use Rattle.bench_lines.proofs.TurnsLaws.{Came, so_far, start, turned, over}
use Rattle.bench_lines.proofs.run.Goals as goal
use Rattle.bench_lines.proofs.run.Goals.{else-loop-test, then-loop-test+in-Err}

pub loop-preserved : goal.loop-preserved
loop-preserved g c =
    let b : Bench = record { progress = c.loop.run; store = c.loop.store } in
    let begins : b.progress.begun < c.cycles_of-count.result = omega arith in
    let ran = c.step-ran in
    let charge : ran.result.charge ≡ Ok c.in-Ok.charge = c.in-Ok.is in
    let sum : (b.progress.charged + c.from.result) % 2 ^ 64 ≡ charged_after b.progress.charged ran.result.charge = rw (charge, c.from.ensures) in
    let unrefused : b.progress.refusal ≡ result_err ran.result.charge = rw charge c.loop.invariant.unrefused in
    record {
      came =
          turned (g.B.Benchmark.given c.args.bench.now) _ _ _ _ b c.loop.invariant.came c.loop.invariant.unrefused begins
          _ c.line_at-line.ensures _ c.next_line.ensures _ ran.ensures.outcome _ ran.ensures.store _ sum _ unrefused;
      counted = omega arith;
      unrefused = c.loop.invariant.unrefused;
    }

pub returns : goal.returns
unfolding run_of
returns g c =
    let b : Bench = record { progress = c.loop.run; store = c.loop.store } in
    let e : Bench = record { progress = c.loop-test.run; store = c.loop-test.store } in
    let width = g.row.WIDTH in
    let words = length c.args.lines.now in
    let count = c.cycles_of-count.result in
    let turn : Bench → Bench = line_turn (g.B.Benchmark.given c.args.bench.now) width c.args.lines.now in
    let ended : Came turn width words count (start c.start_progress-run.result.state c.args.store.now) e × (is_none e.progress.refusal && ltb e.progress.begun count) ≡ false =
    elim c.loop-test.branch [
      | else-loop-test w ↦
          let run : c.loop-test.run ≡ b.progress = w.run-is in
          let all : count ≤ b.progress.begun = omega arith in
          rw (run, w.store-is) (c.loop.invariant.came, rw c.loop.invariant.unrefused (grind (arith, nat_tests)))
      | then-loop-test+in-Err w ↦
          let ran = w.step-ran in
          let run : c.loop-test.run ≡ (so_far ran.result.state b.progress.charged (b.progress.begun + 1) w.next_line.result (Some w.in-Err.refusal) ran.new.store).progress = w.run-is in
          let begins : b.progress.begun < count = omega arith in
          let charge : ran.result.charge ≡ Err w.in-Err.refusal = w.in-Err.is in
          let sum : b.progress.charged ≡ charged_after b.progress.charged ran.result.charge = rw charge in
          let refused : Some w.in-Err.refusal ≡ result_err ran.result.charge = rw charge in
          rw (run, w.store-is) (
            turned (g.B.Benchmark.given c.args.bench.now) _ _ _ _ b c.loop.invariant.came c.loop.invariant.unrefused begins
                _ w.line_at-line.ensures _ w.next_line.ensures _ ran.ensures.outcome _ ran.ensures.store _ sum _ refused,
            refl,
          )
    ] in
    let first : c.start_progress-run.result.state ≡ start_state c.args.ergs 0 = rw c.start_progress-run.ensures in
    let all = over turn width words c.args.cycles count c.args.ergs c.cycles_of-count.ensures _ first c.args.store.now e ended.0 ended.1 _ c.tell.ensures in
    record { store = all.0; end = all.1 }
