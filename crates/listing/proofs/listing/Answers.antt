use Rattle.std.proofs.Common.{refl, arith}
use Rattle.text.proofs.BytesLaws.{wrote_front}
use Rattle.listing.specs.Listing.{listing_of}
use Rattle.listing.proofs.RoomLaws.{fits}
use Rattle.listing.proofs.listing.Goals as goal

pub returns : goal.returns
returns c = wrote_front (listing_of c.args.input.now) _ refl (omega (arith, c.told-buffer, fits c.args.input.now)) c.put_listing.ensures
