-- The cycle core as a machine of four stages, for the claims about lists of stage calls: which field is meant by each of its parts.
use Rattle.std.specs.Prelude.{ℕ, cond, List, Result, Ok, Err, eqb, pos}
use Rattle.std.proofs.Math.Option.{Option, none, some}
use Rattle.u256.specs.declared.U256.{U256}
use Rattle.refusal.specs.declared.Refusal.{Refusal}
use Rattle.refusal.specs.Refusal.{paper_number}
use Rattle.frame.specs.declared.Frame.{Frame}
use Rattle.frame.specs.Row.{row_width, frame_of}
use Rattle.records.specs.declared.Settings.{Settings}
use Rattle.records.specs.declared.Record.{Record}
use Rattle.records.specs.declared.Records.{Records}
use Rattle.records.specs.Record.{is_near_call, is_return}
use Rattle.stages.specs.declared.State.{State}
use Rattle.stages.specs.declared.Staged.{Staged}
use Rattle.stages.specs.declared.ExecuteInput.{ExecuteInput}
use Rattle.stages.specs.State.{at_fetch, at_decode, at_operands, record_of}
use Rattle.stages.specs.Fetch.{fetch_of}
use Rattle.stages.specs.Decode.{decode_of, kept_of}
use Rattle.stages.specs.Operands.{operands_of}
use Rattle.stages.specs.NearCall.{passed_in}
use Rattle.stages.specs.Execute.{execute_of, execute_store, want_in}
use Rattle.lists.specs.Machine as machines

-- the number of an answer's refusal, if it is one
abbrev pub refused_by : {A : Type 0} → Result A Refusal → Option ℕ
refused_by (Ok answer) = none
refused_by (Err refusal) = some (paper_number refusal)

-- what each stage is given besides the state and the store
pub record CoreFetchArgs : Type 0 where
  pub settings : Settings
  pub word : U256

pub record CoreDecodeArgs : Type 0 where
  pub settings : Settings
  pub records : Records

pub record CoreExecuteArgs : Type 0 where
  pub settings : Settings
  pub input : ExecuteInput

-- what a stage gives, with the store after it
abbrev pub outcome_in : {A : Type 0} → Staged A → List ℕ → machines.Outcome State
outcome_in r after = record { refusal = refused_by r.answer; state = r.state; store = after }

-- fetch, decode and operands leave the store as it is
abbrev pub fetch_outcome : CoreFetchArgs → State → List ℕ → machines.Outcome State
fetch_outcome x s store = outcome_in (fetch_of x.settings x.word s store) store

abbrev pub decode_outcome : CoreDecodeArgs → State → List ℕ → machines.Outcome State
decode_outcome x s store = outcome_in (decode_of x.settings x.records s store) store

abbrev pub operands_outcome : Settings → State → List ℕ → machines.Outcome State
operands_outcome settings s store = outcome_in (operands_of 16 settings s store) store

abbrev pub execute_outcome : CoreExecuteArgs → State → List ℕ → machines.Outcome State
execute_outcome x s store = outcome_in (execute_of 16 x.settings x.input s store) (execute_store 16 x.settings x.input s store)

-- at a number that is no stage's every call is refused
abbrev pub stage_of : ℕ → machines.Reached
stage_of n = cond (eqb n at_fetch) machines.ready (cond (eqb n at_decode) machines.fetched (cond (eqb n at_operands) machines.decoded machines.addressed))

abbrev pub operation_of : Record → machines.FrameOperation
operation_of r = cond (is_near_call r) machines.near_call (cond (is_return r) machines.ret machines.neither)

-- what no stage changes of a frame as long as it lives, the cycle of its opening too: all but its ergs, sp, pc, heap bounds and pubdata, which are 0 here
unfoldable pub lasting_of : Frame → Frame
lasting_of f = record {
  ergs_remaining = 0;
  sp = 0;
  pc = 0;
  heap_bound = 0;
  aux_heap_bound = 0;
  total_pubdata_spent = record { 0 = pos 0 };
  -- the rest as it was
  context_u128_value = f.context_u128_value;
  this_address = f.this_address;
  msg_sender = f.msg_sender;
  code_address = f.code_address;
  base_memory_page = f.base_memory_page;
  code_page = f.code_page;
  exception_handler_location = f.exception_handler_location;
  this_shard_id = f.this_shard_id;
  caller_shard_id = f.caller_shard_id;
  code_shard_id = f.code_shard_id;
  is_static = f.is_static;
  is_local_frame = f.is_local_frame;
  stipend = f.stipend;
  opening_cycle = f.opening_cycle;
}

abbrev pub core : machines.Machine
core = record {
  State = State;
  FetchArgs = CoreFetchArgs;
  DecodeArgs = CoreDecodeArgs;
  OperandsArgs = Settings;
  ExecuteArgs = CoreExecuteArgs;
  fetch_of = fetch_outcome;
  decode_of = decode_outcome;
  operands_of = operands_outcome;
  execute_of = execute_outcome;
  Lasting = Frame;
  is_local = λ f. f.is_local_frame;
  ergs = λ s. s.current.ergs_remaining;
  lasting = λ s. lasting_of s.current;
  depth = λ s. s.depth;
  stage = λ s. stage_of s.stage;
  kept = λ s. operation_of (record_of s);
  plain_price = λ x s. x.records.plain.price;
  keeps = λ x s. operation_of (kept_of x.settings x.records s);
  passes = λ x s. passed_in x.settings (want_in x.input s) s;
  row_width = row_width;
  row_ergs = λ row. (frame_of row).ergs_remaining;
  row_lasting = λ row. lasting_of (frame_of row);
}
