-- What a good record tells. Assumes nothing.
use Rattle.std.proofs.Common.{arith, ◌≡◌, ◌≤◌, true}
use Rattle.records.specs.declared.Record.{Record}
use Rattle.records.specs.Record.{good_record}

module _ (r : Record) (e : good_record r ≡ true) where
  pub good_operation : r.operation ≤ 5
  good_operation = grind arith

  pub good_source : r.source_kind ≤ 5
  good_source = grind arith
