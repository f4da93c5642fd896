-- Lists of stage calls, and the cycles in them. Quoted are document 01, "Lists of stage calls", and demand 3.
use Rattle.std.specs.Prelude.{ℕ, ◌+◌, ◌-◌, ◌≡◌, cond, List, [], ◌∷◌, ◌++◌}
use Rattle.lists.specs.Machine.{Machine, Outcome, FrameOperation, near_call, ret, neither, finished, charge_of}

-- ---- calls
-- a call of a stage, with what it is given besides the state and the store
pub data Call (M : Machine) : Type 0 where
  fetch : M.FetchArgs → Call M
  decode : M.DecodeArgs → Call M
  operands : M.OperandsArgs → Call M
  execute : M.ExecuteArgs → Call M

-- a call in a list, with the state and the store that it is given
pub data CallMade (M : Machine) : Type 0 where
  made : Call M → M.State → List ℕ → CallMade M

module _ (M : Machine) where
  open M use {State, fetch_of, decode_of, operands_of, execute_of}

  abbrev pub outcome_of : Call M → State → List ℕ → Outcome State
  outcome_of (fetch x) s store = fetch_of x s store
  outcome_of (decode x) s store = decode_of x s store
  outcome_of (operands x) s store = operands_of x s store
  outcome_of (execute x) s store = execute_of x s store

  -- "Every stage gets the state last handed back, by a refusal too, and the one same store, which nobody but these calls writes meanwhile."
  unfoldable pub trace : List (Call M) → State → List ℕ → List (CallMade M)
  trace [] s store = []
  trace (c ∷ cs) s store = made c s store ∷ trace cs (outcome_of c s store).state (outcome_of c s store).store

  -- the calls that finished; the refused ones are left out
  unfoldable pub finished_of : List (CallMade M) → List (CallMade M)
  finished_of [] = []
  finished_of (made c s store ∷ es) = cond (finished (outcome_of c s store)) (made c s store ∷ finished_of es) (finished_of es)

-- ---- cycles
-- what a call of a cycle is given
pub record Given (State Input : Type 0) : Type 0 where
  pub input : Input
  pub state : State
  pub store : List ℕ

pub record Cycle (M : Machine) : Type 0 where
  pub fetch : Given M.State M.FetchArgs
  pub decode : Given M.State M.DecodeArgs
  pub operands : Given M.State M.OperandsArgs
  pub execute : Given M.State M.ExecuteArgs

module _ (M : Machine) where
  open M use {State}

  abbrev pub made_of : {Input : Type 0} → (Input → Call M) → Given State Input → CallMade M
  made_of stage g = made (stage g.input) g.state g.store

  -- the calls of cycles, one cycle right after the other
  unfoldable pub calls_made : List (Cycle M) → List (CallMade M)
  calls_made [] = []
  calls_made (c ∷ cs) = made_of fetch c.fetch ∷ made_of decode c.decode ∷ made_of operands c.operands ∷ made_of execute c.execute ∷ calls_made cs

  -- "A cycle is a fetch, decode, operands and execute of the list, all finished, in turn; refused calls may stand between." These are cycles of the list, with no
  -- other finished call between them.
  pub record InTurn (calls : List (Call M)) (s : State) (store : List ℕ) (cycles : List (Cycle M)) : Type 0 where
    pub earlier : List (CallMade M)
    pub later : List (CallMade M)
    pub found : finished_of M (trace M calls s store) ≡ earlier ++ (calls_made cycles ++ later)

-- ---- what a cycle charges, opens, closes and keeps back
unfoldable pub sum : {A : Type 0} → (A → ℕ) → List A → ℕ
sum f [] = 0
sum f (x ∷ xs) = f x + sum f xs

-- how many frames an operation opens, and how many it closes
abbrev pub opens : FrameOperation → ℕ
opens = elim [ near_call ↦ 1 | ret ↦ 0 | neither ↦ 0 ]

abbrev pub closes : FrameOperation → ℕ
closes = elim [ near_call ↦ 0 | ret ↦ 1 | neither ↦ 0 ]

module _ (M : Machine) where
  open M use {State, execute_of, ergs, keeps, passes}

  -- the state and the store before a cycle, and what the cycle gives
  abbrev pub before : Cycle M → State
  before c = c.fetch.state

  abbrev pub store_before : Cycle M → List ℕ
  store_before c = c.fetch.store

  abbrev pub result : Cycle M → Outcome State
  result c = execute_of c.execute.input c.execute.state c.execute.store

  -- "Its charge goes by the plain record's price, 0 when ended, and the current frame's ergs in the state given to decode." `charge_of` is in Machine.antt.
  unfoldable pub charge : Cycle M → ℕ
  charge c = charge_of M c.decode.input c.decode.state

  unfoldable pub charges : List (Cycle M) → ℕ
  charges cs = sum charge cs

  -- "It opens a frame if Decode's rules keep a near call, and closes one if they keep a return."
  unfoldable pub operation : Cycle M → FrameOperation
  operation c = keeps c.decode.input c.decode.state

  unfoldable pub opened : List (Cycle M) → ℕ
  opened cs = sum (λ (c : Cycle M). opens (operation c)) cs

  unfoldable pub closed : List (Cycle M) → ℕ
  closed cs = sum (λ (c : Cycle M). closes (operation c)) cs

  -- "The share kept back is the caller's ergs before that cycle, less its charge and what Execute's rule passes." Nothing is cut off at 0: the claim says so
  -- (`divided`).
  unfoldable pub share : Cycle M → ℕ
  share c = ergs (before c) - charge c - passes c.execute.input c.execute.state
