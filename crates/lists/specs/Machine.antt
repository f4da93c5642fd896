-- Machines of four stages over a store of rows. The claims about lists of stage calls are about any of them.
use Rattle.std.specs.Prelude.{ℕ, ◌*◌, min, Bool, true, false, cond, List, eqb, take, drop}
use Rattle.std.proofs.Math.Option.{Option, none, some}

-- Document 01: "the stage reached (ready, fetched, decoded, operands)"
pub data Reached : Type 0 where
  ready fetched decoded addressed : Reached

-- what a record's operation does to frames
pub data FrameOperation : Type 0 where
  near_call ret neither : FrameOperation

-- what a call gives: the number of its refusal, if it is refused, the state that it hands back, and the store as it leaves it
pub record Outcome (State : Type 0) : Type 0 where
  pub refusal : Option ℕ
  pub state : State
  pub store : List ℕ

abbrev pub finished : {State : Type 0} → Outcome State → Bool
finished o = elim o.refusal [ none ↦ true | some n ↦ false ]

pub record Machine : Type 1 where
  pub State : Type 0
  -- what a call of each stage is given besides the state and the store: settings, words, records, which may differ from call to call
  pub FetchArgs : Type 0
  pub DecodeArgs : Type 0
  pub OperandsArgs : Type 0
  pub ExecuteArgs : Type 0
  pub fetch_of : FetchArgs → State → List ℕ → Outcome State
  pub decode_of : DecodeArgs → State → List ℕ → Outcome State
  pub operands_of : OperandsArgs → State → List ℕ → Outcome State
  pub execute_of : ExecuteArgs → State → List ℕ → Outcome State
  -- what no stage changes of a frame as long as it lives, and by that, whether the frame is local
  pub Lasting : Type 0
  pub is_local : Lasting → Bool
  -- of a state: the current frame's ergs and what lasts of it, the depth, the stage reached, the kept record's operation
  pub ergs : State → ℕ
  pub lasting : State → Lasting
  pub depth : State → ℕ
  pub stage : State → Reached
  pub kept : State → FrameOperation
  -- of what decode is given: the plain record's price, and the operation of the record that Decode's rules keep
  pub plain_price : DecodeArgs → State → ℕ
  pub keeps : DecodeArgs → State → FrameOperation
  -- of what execute is given: the ergs that Execute's rule for a near call passes
  pub passes : ExecuteArgs → State → ℕ
  -- the number of words in a row; of a row's words, the ergs and what lasts of the frame
  pub row_width : ℕ
  pub row_ergs : List ℕ → ℕ
  pub row_lasting : List ℕ → Lasting

module _ (M : Machine) where
  open M use {State, DecodeArgs, ergs, depth, plain_price, row_width}

  -- "A charge is the smaller of the price and the ergs held." Document 01: "Price is 0 when ended", "execution has ended exactly at depth 0".
  unfoldable pub charge_of : DecodeArgs → State → ℕ
  charge_of x s = min (cond (eqb (depth s) 0) 0 (plain_price x s)) (ergs s)

  -- the words of row i
  unfoldable pub machine_row : List ℕ → ℕ → List ℕ
  machine_row store i = take row_width (drop (i * row_width) store)

  -- the words of the first n rows
  unfoldable pub first_rows : ℕ → List ℕ → List ℕ
  first_rows n store = take (n * row_width) store
