use Rattle.spends.proofs.Rows.{rows_add_up}
use Rattle.spends.proofs.rows_add_up.Goals as goal

pub returns : goal.returns
returns c = rows_add_up
