use Rattle.frame.proofs.StoreLaws as laws
use Rattle.frame.proofs.save_frame.Goals as goal

pub returns-then-store-i : goal.returns-then-store-i
returns-then-store-i c = laws.save_missing c.args.store.now c.args.i c.args.f c.if-store-i.true

pub returns : goal.returns
returns c = laws.save_done c.args.store.now c.args.i c.args.f c.if-store-i.false c.write.new.part c.write.ensures
