use Rattle.std.proofs.Common.{arith, add-zero}
use Rattle.std.proofs.KnownBytes.{Consumes-nil}
use Rattle.text.proofs.InputLaws.{read_more, read_none}
use Rattle.text.proofs.input.read_full.Goals as goal

pub loop-size-init : goal.loop-size-init
loop-size-init g c = (omega arith, Consumes-nil _)

pub loop-size-preserved : goal.loop-size-preserved
loop-size-preserved g c =
    let before = c.loop-size.invariant in
    let read = c.in-Ok.ensures in
    read_more _ (g.R.Read.remaining c.loop-size.input) _ c.loop-size.size c.loop-size.buffer c.read.new.buf before.0 before.1
    c.in-Ok.n read.bound.0 (omega arith) read.bytes.0

pub returns-in-Err-clause-bytes : goal.returns-in-Err-clause-bytes
returns-in-Err-clause-bytes g c =
    let before = c.loop-size.invariant in
    read_none _ (g.R.Read.remaining c.loop-size.input) _ c.loop-size.size c.loop-size.buffer c.read.new.buf before.0 before.1 c.in-Err.ensures.bytes

pub returns-after-loop-size-clause-bound : goal.returns-after-loop-size-clause-bound
returns-after-loop-size-clause-bound g c = omega (arith, c.loop-size.invariant.0)

pub returns-after-loop-size-clause-bytes : goal.returns-after-loop-size-clause-bytes
returns-after-loop-size-clause-bytes g c = c.loop-size.invariant.1

pub returns-in-Ok-eq0-clause-bytes : goal.returns-in-Ok-eq0-clause-bytes
returns-in-Ok-eq0-clause-bytes g c =
    let before = c.loop-size.invariant in
    let read = c.in-Ok-eq0.ensures in
    rw (c.in-Ok-eq0.field-0-test, add-zero) at
    (read_more _ (g.R.Read.remaining c.loop-size.input) _ c.loop-size.size c.loop-size.buffer c.read.new.buf before.0 before.1
    c.in-Ok-eq0.field-0 read.bound.0 (omega arith) read.bytes.0).1
