-- Near call. Document 01: "Near call wants the low 32 bits of src0 times the multiplier". The caller is saved as the first free row, the flags are cleared. Document 02,
-- CR 12: the opened frame has "the cycle counter that `start_frame` is given at its opening", which is the counter before the cycle adds its 1.
use Rattle.std.specs.Prelude.{ℕ, ◌+◌, ◌-◌, None, Some, Ok}
use Rattle.frame.specs.declared.Frame.{Frame}
use Rattle.records.specs.declared.Settings.{Settings}
use Rattle.operations.specs.NearCall.{wanted_ergs, passed_ergs, caller_of, opened_of}
use Rattle.operations.specs.Time.{next_pc}
use Rattle.stages.specs.declared.State.{State}
use Rattle.stages.specs.declared.Event.{Event}
use Rattle.stages.specs.declared.Staged.{Staged}
use Rattle.stages.specs.declared.ExecuteAnswer.{ExecuteAnswer}
use Rattle.stages.specs.State.{is_ended, record_of}
use Rattle.stages.specs.Effects.{no_flags, switched_state}
use Rattle.stages.specs.Helpers.{finished_in}

-- what is passed of the ergs held
abbrev pub passed_in : Settings → ℕ → State → ℕ
passed_in settings want s = passed_ergs (wanted_ergs want settings.near_call_multiplier) s.current.ergs_remaining

-- the caller as it is saved
abbrev pub caller_in : ℕ → Settings → ℕ → State → Frame
caller_in w settings want s =
    caller_of s.current (s.current.ergs_remaining - passed_in settings want s) (next_pc w s.current.pc (is_ended s))

unfoldable pub near_call_done : ℕ → Settings → ℕ → State → Staged ExecuteAnswer
near_call_done w settings want s = record {
  state =
      switched_state (finished_in settings s)
      (opened_of (caller_in w settings want s) (passed_in settings want s) (record_of s).imm_0 (record_of s).imm_1 s.monotonic_cycle_counter)
      (s.depth + 1)
      no_flags
      s.pubdata_revert_counter;
  answer = Ok (record { write = None; event = Some Event.Opened });
}
