use Rattle.std.proofs.Common.{◌≡◌, ◌<◌, ◌^◌, drop}
use Rattle.text.specs.Number.{number_in}
use Rattle.text.proofs.NumberLaws.{reading}
use Rattle.text.proofs.read_u64.Given as goal

abbrev pub invariant-loop-byte : goal.invariant-loop-byte
invariant-loop-byte l = (l.number < 2 ^ 64) × (number_in 64 l.field ≡ reading 64 l.number (drop l.byte-index l.field))
