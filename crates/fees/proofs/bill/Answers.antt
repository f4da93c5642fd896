use Rattle.std.proofs.Common.{refl, arith}
use Rattle.text.proofs.BytesLaws.{wrote_front}
use Rattle.fees.specs.Bill.{bill_of}
use Rattle.fees.proofs.RoomLaws.{fits}
use Rattle.fees.proofs.bill.Goals as goal

pub returns : goal.returns
returns c = wrote_front (bill_of c.args.input.now) _ refl (omega (arith, c.told-buffer, fits c.args.input.now)) c.put_bill.ensures
