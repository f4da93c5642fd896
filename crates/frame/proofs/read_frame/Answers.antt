use Rattle.frame.proofs.StoreLaws as laws
use Rattle.frame.proofs.read_frame.Goals as goal

pub returns-then-store-i : goal.returns-then-store-i
returns-then-store-i c = laws.read_missing 16 c.args.store.now c.args.i c.if-store-i.true

pub returns-then-not-is_good : goal.returns-then-not-is_good
returns-then-not-is_good c =
    let i = c.args.i in
    let store = c.args.store.now in
    let first = rw c.unwrap-row.ensures at c.first_chunk.ensures.cases in
    laws.read_not_good 16 store i c.if-store-i.false _ first.same _ c.is_good.ensures c.if-not-is_good.true

pub read-requires : goal.read-requires
read-requires c =
    let i = c.args.i in
    let store = c.args.store.now in
    let first = rw c.unwrap-row.ensures at c.first_chunk.ensures.cases in
    laws.good_bounds 16 store i c.if-store-i.false _ first.same _ c.is_good.ensures c.if-not-is_good.false

pub returns : goal.returns
returns c =
    let i = c.args.i in
    let store = c.args.store.now in
    let first = rw c.unwrap-row.ensures at c.first_chunk.ensures.cases in
    laws.read_good 16 store i c.if-store-i.false _ first.same _ c.is_good.ensures c.if-not-is_good.false _ c.read.ensures
