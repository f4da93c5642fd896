-- What the operations of execute share, and nop. Document 01: "Nop sets pc only (from the specification)". Document 02, CR 1: "Execute's write carries the
-- kept time."
use Rattle.std.specs.Prelude.{ℕ, ◌+◌, Bool, true, false, Option, None, Some, Ok}
use Rattle.records.specs.declared.Settings.{Settings}
use Rattle.addressing.specs.declared.Location.{Location}
use Rattle.addressing.specs.declared.PrimitiveValue.{PrimitiveValue}
use Rattle.operations.specs.Time.{next_pc, time_after}
use Rattle.stages.specs.declared.State.{State}
use Rattle.stages.specs.declared.Write.{Write}
use Rattle.stages.specs.declared.Staged.{Staged}
use Rattle.stages.specs.declared.ExecuteAnswer.{ExecuteAnswer}
use Rattle.stages.specs.State.{is_ended}
use Rattle.stages.specs.Effects.{finished_state, moved_state}

-- the state with the time and the cycle counter after the cycle, ready for the next
abbrev pub finished_in : Settings → State → State
finished_in settings s = finished_state s (time_after s.timestamp settings.time_step (is_ended s)) (s.monotonic_cycle_counter + 1)

-- whether a location is kept
abbrev pub is_stored : Location → Bool
is_stored Location.None = false
is_stored (Location.At kind index page time) = true

abbrev pub write_of : Location → PrimitiveValue → Option Write
write_of Location.None value = None
write_of (Location.At kind index page time) value = Some (record { memory_type = kind; index = index; page = page; time = time; value = value })

unfoldable pub nop_done : ℕ → Settings → State → Staged ExecuteAnswer
nop_done w settings s = record {
  state = moved_state (finished_in settings s) (next_pc w s.current.pc (is_ended s));
  answer = Ok (record { write = None; event = None });
}
