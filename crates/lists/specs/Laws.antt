-- The laws of the stages: all that the proofs of the claims know of a machine.
use Rattle.std.specs.Prelude.{ℕ, suc, ◌+◌, ◌≡◌, true, false, List}
use Rattle.lists.specs.Machine.{Machine, Outcome, Reached, ready, fetched, decoded, addressed, FrameOperation, near_call, ret, neither}
use Rattle.lists.specs.Machine.{finished, charge_of, machine_row, first_rows}
use Rattle.lists.specs.Lists.{Call, fetch, decode, operands, execute, outcome_of}

module _ (M : Machine) where
  open M use {State, FetchArgs, DecodeArgs, OperandsArgs, ExecuteArgs, fetch_of, decode_of, operands_of, execute_of}
  open M use {ergs, lasting, is_local, depth, stage, kept, keeps, passes, row_ergs, row_lasting}

  -- Demand 1: "a refusal hands back the state it was given and alters no word of the frame store"
  pub record Unchanged (s : State) (store : List ℕ) (o : Outcome State) : Type 0 where
    pub state_same : o.state ≡ s
    pub store_same : o.store ≡ store

  -- the stage that a call takes the state at, and the stage that it brings it to
  abbrev pub takes_at : Call M → Reached
  takes_at = elim [ fetch x ↦ ready | decode x ↦ fetched | operands x ↦ decoded | execute x ↦ addressed ]

  abbrev pub brings_to : Call M → Reached
  brings_to = elim [ fetch x ↦ fetched | decode x ↦ decoded | operands x ↦ addressed | execute x ↦ ready ]

  pub record Advances (c : Call M) (s : State) (o : Outcome State) : Type 0 where
    pub stage_before : stage s ≡ takes_at c
    pub stage_after : stage o.state ≡ brings_to c

  -- the current frame holds so many ergs less; what lasts of it, the depth and the store stay
  pub record Spends (spent : ℕ) (s : State) (store : List ℕ) (o : Outcome State) : Type 0 where
    pub ergs_less : ergs o.state + spent ≡ ergs s
    pub lasting_same : lasting o.state ≡ lasting s
    pub depth_same : depth o.state ≡ depth s
    pub store_same : o.store ≡ store

  -- a near call: the opened frame is local and holds what is passed; its caller is saved as the next row, with the rest
  pub record OpensFrame (x : ExecuteArgs) (s : State) (store : List ℕ) (o : Outcome State) : Type 0 where
    pub depth_up : depth o.state ≡ suc (depth s)
    pub local_new : is_local (lasting o.state) ≡ true
    pub passed : ergs o.state ≡ passes x s
    pub kept_back : row_ergs (machine_row M o.store (depth s)) + passes x s ≡ ergs s
    pub lasting_saved : row_lasting (machine_row M o.store (depth s)) ≡ lasting s
    pub below_same : first_rows M (depth s) o.store ≡ first_rows M (depth s) store

  -- a return: the caller is read from the last saved row. Document 01: "A local return of any kind, panic too, adds all the ergs the closed frame holds to its
  -- caller's."
  pub record ClosesFrame (s : State) (store : List ℕ) (o : Outcome State) : Type 0 where
    pub depth_down : depth s ≡ suc (depth o.state)
    pub lasting_back : lasting o.state ≡ row_lasting (machine_row M store (depth o.state))
    pub ergs_back : is_local (lasting s) ≡ true → ergs o.state ≡ row_ergs (machine_row M store (depth o.state)) + ergs s
    pub store_same : o.store ≡ store

  -- what execute does, by the kept record's operation
  abbrev pub Performs : FrameOperation → ExecuteArgs → State → List ℕ → Outcome State → Type 0
  Performs near_call x s store o = OpensFrame x s store o
  Performs ret x s store o = ClosesFrame s store o
  Performs neither x s store o = Spends 0 s store o

  pub record Laws : Type 0 where
    pub refused : (c : Call M) (s : State) (store : List ℕ) → finished (outcome_of M c s store) ≡ false → Unchanged s store (outcome_of M c s store)
    pub advances : (c : Call M) (s : State) (store : List ℕ) → finished (outcome_of M c s store) ≡ true → Advances c s (outcome_of M c s store)
    pub fetch_spends : (x : FetchArgs) (s : State) (store : List ℕ) → finished (fetch_of x s store) ≡ true → Spends 0 s store (fetch_of x s store)
    pub decode_spends : (x : DecodeArgs) (s : State) (store : List ℕ)
        → finished (decode_of x s store) ≡ true → Spends (charge_of M x s) s store (decode_of x s store)
    pub decode_keeps : (x : DecodeArgs) (s : State) (store : List ℕ) → finished (decode_of x s store) ≡ true → kept (decode_of x s store).state ≡ keeps x s
    pub operands_spends : (x : OperandsArgs) (s : State) (store : List ℕ) → finished (operands_of x s store) ≡ true → Spends 0 s store (operands_of x s store)
    pub operands_keeps : (x : OperandsArgs) (s : State) (store : List ℕ) → finished (operands_of x s store) ≡ true → kept (operands_of x s store).state ≡ kept s
    pub execute_performs : (x : ExecuteArgs) (s : State) (store : List ℕ)
        → finished (execute_of x s store) ≡ true → Performs (kept s) x s store (execute_of x s store)
