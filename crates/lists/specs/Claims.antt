-- What is claimed of lists of stage calls. Quoted are document 01, "Lists of stage calls", and demand 3. "Demand 3 is a single claim about the whole list, not one
-- for each call in it."
use Rattle.std.specs.Prelude.{ℕ, ◌+◌, ◌≤◌, ◌<◌, ◌≡◌, ◌≢◌, List, [], ◌∷◌, ◌++◌, length, take}
use Rattle.lists.specs.Machine.{Machine, Reached, ready, fetched, decoded, addressed, near_call, first_rows}
use Rattle.lists.specs.Lists.{Call, CallMade, trace, finished_of, Cycle, calls_made, InTurn}
use Rattle.lists.specs.Lists.{before, store_before, result, charge, charges, operation, opened, closed, share}

module _ (M : Machine) where
  open M use {State, ergs, lasting, depth, stage, passes}

  -- ---- what a caller holds when the frame of its near call closes
  -- "A near call's frame closes with the first cycle by which, from the near call's own on, as many have closed as opened." Of these cycles that is the last.
  pub record ClosesWithLast (cycles : List (Cycle M)) : Type 0 where
    pub as_many : opened M cycles ≡ closed M cycles
    pub not_before : (i : ℕ) → 0 < i → i < length cycles → opened M (take i cycles) ≢ closed M (take i cycles)

  -- what holds after the cycle that closes the frame, where all cycles from the near call's own to that one charged so much
  pub record CallerResumes (call close : Cycle M) (charged : ℕ) : Type 0 where
    -- "Its caller is the frame current before the near call's cycle, and again after the close." It is the frame at the same depth, with all that lasts of it.
    pub current : depth (result M close).state ≡ depth (before M call)
    pub same : lasting (result M close).state ≡ lasting (before M call)
    -- "its caller then holds exactly the ergs it had before that near call's cycle less the charge of each cycle from the near call to the closing return, both
    -- counted"
    pub exact : ergs (result M close).state + charged ≡ ergs (before M call)
    -- "The share kept back is the caller's ergs before that cycle, less its charge and what Execute's rule passes": the three are all that it held.
    pub divided : share M call + charge M call + passes call.execute.input call.execute.state ≡ ergs (before M call)
    -- "It holds no less than the share it kept back"
    pub no_less : share M call ≤ ergs (result M close).state
    -- "every frame saved below it is word for word as it was before that near call's cycle"; "Saved below are the first rows of the store, as many as the depth was
    -- before that cycle."
    pub below : first_rows M (depth (before M call)) (result M close).store ≡ first_rows M (depth (before M call)) (store_before M call)

  -- the cycles from a near call's own to the one that closes its frame. "Near calls may be nested inside as the store allows."
  abbrev pub span : Cycle M → List (Cycle M) → Cycle M → List (Cycle M)
  span call between close = call ∷ (between ++ (close ∷ []))

  -- "For every list of stage calls (fetch, decode, operands, execute), refused ones included, from any state and any store, whatever else each call is given: each
  -- time a frame opened by a near call closes". "The claim is about frames opened in a cycle of the list, not one opened earlier, as by an execute from a start in
  -- mid-cycle."
  abbrev pub CallersResume : Type 0
  CallersResume =
      (calls : List (Call M)) (s : State) (store : List ℕ) (call : Cycle M) (between : List (Cycle M)) (close : Cycle M)
      → InTurn M calls s store (span call between close)
      → operation M call ≡ near_call
      → ClosesWithLast (span call between close)
      → CallerResumes call close (charges M (span call between close))

  -- ---- that no cycle and no frame is left out
  -- how many calls a cycle at a stage lacks
  abbrev pub calls_left : Reached → ℕ
  calls_left = elim [ ready ↦ 0 | fetched ↦ 3 | decoded ↦ 2 | addressed ↦ 1 ]

  -- calls from a stage on: those that end a cycle begun before, then whole cycles, then fewer calls than a cycle has
  pub record Covered (reached : Reached) (made_calls : List (CallMade M)) : Type 0 where
    pub ending : List (CallMade M)
    pub cycles : List (Cycle M)
    pub begun : List (CallMade M)
    pub parts : made_calls ≡ ending ++ (calls_made M cycles ++ begun)
    pub few_ending : length ending ≤ calls_left reached
    pub few_begun : length begun < 4

  -- The finished calls of a list are cycles, one right after the other, but for the end of one begun before the list and the beginning of one not ended in it.
  abbrev pub CyclesCover : Type 0
  CyclesCover = (calls : List (Call M)) (s : State) (store : List ℕ) → Covered (stage s) (finished_of M (trace M calls s store))

  -- `opened` and `closed` count frames: a cycle adds to the depth what it opens, and takes from it what it closes.
  abbrev pub FramesCounted : Type 0
  FramesCounted =
      (calls : List (Call M)) (s : State) (store : List ℕ) (c : Cycle M)
      → InTurn M calls s store (c ∷ [])
      → depth (result M c).state + closed M (c ∷ []) ≡ depth (before M c) + opened M (c ∷ [])
