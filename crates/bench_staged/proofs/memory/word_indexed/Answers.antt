use Rattle.std.proofs.Common.{◌<◌, ◌∙◌, length, arith}
use Rattle.std.proofs.lemmas.Bool.Decides.{nat_tests}
use Rattle.bench_staged.proofs.ChunkLaws.{word_at-chunk}
use Rattle.bench_staged.proofs.memory.word_indexed.Goals as goal

pub returns-else-is_empty : goal.returns-else-is_empty
returns-else-is_empty c =
    let some : 0 < length c.as_chunks.result.0.now = grind (arith, nat_tests) in
    c.word_of.ensures
    ∙ rw c.from.ensures
    (word_at-chunk c.args.words.now c.as_chunks.result.0.now c.args.index _ c.as_chunks.ensures.front c.as_chunks.ensures.front_len some)
