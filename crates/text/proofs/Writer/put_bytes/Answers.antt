use Rattle.std.proofs.Common.{arith, refl, sym, ap, length}
use lib.Seq.{length-sets}
use Rattle.std.proofs.lemmas.Bool.Decides.{nat_tests}
use Rattle.text.proofs.BytesLaws.{putting_done, sets_part}
use Rattle.text.proofs.Writer.put_bytes.Goals as goal

pub returns : goal.returns
returns c =
    let rest = sets_part c.args.self.now.buffer.now c.args.self.now.position c.args.bytes.now c.min-start.ensures c.min-size.ensures c.copy_from_slice.ensures.after in
    let size = sym (simp length-sets at (ap length rest)) in
    putting_done c.args.self.now c.args.bytes.now _ c.min-size.result
    record { same = refl; size = size; upto = omega arith; next = omega arith; rest = rest }
    (grind (arith, nat_tests, size))
