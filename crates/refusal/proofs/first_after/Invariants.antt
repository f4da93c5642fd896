use Rattle.std.proofs.Common.{◌≡◌, drop}
use Rattle.refusal.specs.Refusal.{first_after}
use Rattle.refusal.proofs.first_after.Given as goal

-- none of the checks before this one holds
abbrev pub invariant-loop-holds : goal.invariant-loop-holds
invariant-loop-holds l = first_after (drop l.holds-index l.checks) l.last ≡ first_after l.checks l.last
