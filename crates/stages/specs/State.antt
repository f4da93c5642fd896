-- The machine state, whose fields are those of `State` in src/lib.rt. Document 01: "the stage reached (ready, fetched, decoded, operands)", "execution has ended exactly at
-- depth 0". The word that fetch read is in Fetch.antt, until decode; what the state is after execute in Effects.antt.
use Rattle.std.specs.Prelude.{ℕ, Bool, cond, not, List, length, Err, ◌==◌}
use Rattle.refusal.specs.Refusal.{numbered_refusal}
use Rattle.records.specs.declared.Settings.{Settings}
use Rattle.records.specs.declared.Record.{Record}
use Rattle.records.specs.Sizes.{bad_sizes}
use Rattle.stages.specs.declared.Stage.{Stage}
use Rattle.stages.specs.declared.State.{State}
use Rattle.stages.specs.declared.Staged.{Staged}

-- a state that is ready has the number at_fetch, for the stage that comes next; a fetched one at_decode; a decoded one at_operands; one that operands has gone over at_execute
abbrev pub at_fetch : ℕ
at_fetch = 0

abbrev pub at_decode : ℕ
at_decode = 1

abbrev pub at_operands : ℕ
at_operands = 2

abbrev pub at_execute : ℕ
at_execute = 3

abbrev pub stage_number : Stage → ℕ
stage_number Stage.Fetch = at_fetch
stage_number Stage.Decode = at_decode
stage_number Stage.Operands = at_operands
stage_number Stage.Execute = at_execute

abbrev pub is_ended : State → Bool
is_ended s = s.depth == 0

-- the record that decode kept
abbrev pub record_of : State → Record
record_of s = s.kept.instruction

-- the checks of refusals 1 and 2, of every stage
abbrev pub bad_store : Settings → State → List ℕ → Bool
bad_store settings s store = bad_sizes settings.depth_limit s.depth (length store)

abbrev pub out_of_turn : ℕ → State → Bool
out_of_turn stage s = not (s.stage == stage)

-- a refusal: the state as it was given
abbrev pub refused_with : {A : Type 0} → State → ℕ → Staged A
refused_with s n = record { state = s; answer = Err (numbered_refusal n) }

-- 0 is no refusal
abbrev pub settled : {A : Type 0} → ℕ → (ℕ → A) → A → A
settled n refused done = cond (n == 0) done (refused n)
