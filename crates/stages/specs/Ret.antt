-- Return from a local frame. Document 01: "A local return of any kind, panic too, adds all the ergs the closed frame holds to its caller's". The flags are cleared; a
-- panic then sets overflow.
use Rattle.std.specs.Prelude.{◌+◌, ◌-◌, Bool, false, not, None, Some, Ok, ◌==◌}
use Rattle.frame.specs.declared.Frame.{Frame}
use Rattle.frame.specs.declared.PubdataCost.{PubdataCost}
use Rattle.records.specs.declared.Settings.{Settings}
use Rattle.records.specs.Record.{is_return_ok}
use Rattle.records.specs.declared.Flags.{Flags}
use Rattle.operations.specs.Ret.{counter_after, cost_of, resumed_of}
use Rattle.stages.specs.declared.State.{State}
use Rattle.stages.specs.declared.Event.{Event}
use Rattle.stages.specs.declared.Staged.{Staged}
use Rattle.stages.specs.declared.ExecuteAnswer.{ExecuteAnswer}
use Rattle.stages.specs.State.{record_of}
use Rattle.stages.specs.Effects.{switched_state}
use Rattle.stages.specs.Helpers.{finished_in}

abbrev pub panic_flags : Bool → Flags
panic_flags panic = record { overflow_or_less_than_flag = panic; equality_flag = false; greater_than_flag = false }

-- the revert counter after it
abbrev pub reverts_in : State → PubdataCost
reverts_in s = cost_of (counter_after (is_return_ok (record_of s)) s.pubdata_revert_counter.0 s.current.total_pubdata_spent.0)

unfoldable pub close_done : Settings → Frame → State → Staged ExecuteAnswer
close_done settings caller s = record {
  state =
      switched_state (finished_in settings s)
      (resumed_of (record_of s) caller s.current (caller.ergs_remaining + s.current.ergs_remaining))
      (s.depth - 1)
      (panic_flags ((record_of s).return_kind == 2))
      (reverts_in s);
  answer = Ok (record { write = None; event = Some (Event.Closed (not (is_return_ok (record_of s)))) });
}
