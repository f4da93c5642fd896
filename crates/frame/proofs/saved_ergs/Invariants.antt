use Rattle.std.proofs.Common.{◌≡◌, ◌*◌, ◌-◌, ◌≤◌, drop}
use Rattle.frame.specs.Row.{row_width}
use Rattle.frame.specs.Store.{saved_ergs}
use Rattle.frame.proofs.saved_ergs.Given as goal

-- the rows that were summed are the depth less those that may still be taken
abbrev pub invariant-loop-row : goal.invariant-loop-row
invariant-loop-row l = record {
  size : l.row-iterator.iter.size ≡ row_width;
  left : l.row-iterator.n ≤ l.depth;
  rest : l.row-iterator.iter.rest.now ≡ drop ((l.depth - l.row-iterator.n) * row_width) l.store;
  sum : l.sum ≡ saved_ergs (l.depth - l.row-iterator.n) l.store;
  bound : l.sum ≤ (l.depth - l.row-iterator.n) * 4294967295;
}
