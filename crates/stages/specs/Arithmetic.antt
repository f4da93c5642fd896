-- Add and sub. The result goes to the write location, or to register dst0 where there is none (0: nowhere), with its pointer bit off.
use Rattle.std.specs.Prelude.{ℕ, Bool, false, cond, None, Ok}
use Rattle.u256.specs.declared.U256.{U256}
use Rattle.records.specs.declared.Settings.{Settings}
use Rattle.operations.specs.Arithmetic.{result_of, flags_after}
use Rattle.operations.specs.Time.{next_pc}
use Rattle.stages.specs.declared.State.{State}
use Rattle.stages.specs.declared.Staged.{Staged}
use Rattle.stages.specs.declared.ExecuteAnswer.{ExecuteAnswer}
use Rattle.stages.specs.State.{is_ended, record_of}
use Rattle.stages.specs.Effects.{moved_state, written_state}
use Rattle.stages.specs.Helpers.{finished_in, is_stored, write_of}

abbrev pub result_in : U256 → U256 → State → U256 × Bool
result_in a b s = result_of (record_of s).operation a b

unfoldable pub arithmetic_done : ℕ → Settings → U256 → U256 → State → Staged ExecuteAnswer
arithmetic_done w settings a b s = record {
  state =
      written_state (moved_state (finished_in settings s) (next_pc w s.current.pc (is_ended s)))
      (flags_after (record_of s).set_flags s.flags (result_in a b s))
      (cond (is_stored s.kept.write) 0 (record_of s).dst0)
      (result_in a b s).0;
  answer =
      Ok (record {
        write = write_of s.kept.write (record { value = (result_in a b s).0; is_pointer = false });
        event = None;
      });
}
