-- When execute and fetch look at the word that they are given. Document 01: execute "takes the word read and its pointer bit, looked at only where a source
-- location was given".
use Rattle.std.specs.Prelude.{ℕ, ◌≡◌, List, Ok}
use Rattle.u256.specs.declared.U256.{U256}
use Rattle.records.specs.declared.Settings.{Settings}
use Rattle.addressing.specs.declared.Location.{Location}
use Rattle.stages.specs.declared.State.{State}
use Rattle.stages.specs.declared.ExecuteInput.{ExecuteInput}
use Rattle.stages.specs.Fetch.{query_of, fetch_of}
use Rattle.stages.specs.Operands.{operands_of}
use Rattle.stages.specs.Execute.{execute_of, execute_store}

-- execute gives the same, in state, answer and store, with either word and pointer bit
pub record ExecutesAlike (settings : Settings) (s : State) (store : List ℕ) (given other : ExecuteInput) : Type 0 where
  pub result_same : execute_of 16 settings given s store ≡ execute_of 16 settings other s store
  pub store_same : execute_store 16 settings given s store ≡ execute_store 16 settings other s store

-- where operands gave no source location, execute does not look at the word and its pointer bit, with whatever settings and store it is called
abbrev pub WordUnread : Type 0
WordUnread =
    (settings : Settings) (s : State) (store : List ℕ) (destination : Location)
    → (operands_of 16 settings s store).answer ≡ Ok (record { source = Location.None; destination = destination })
    → (later : Settings) (after : List ℕ) (given other : ExecuteInput)
    → ExecutesAlike later (operands_of 16 settings s store).state after given other

-- where the query wanted no code word, fetch does not look at the one it is given. Document 01: "Fetch takes that word, not looked at when none was wanted."
abbrev pub CodeUnread : Type 0
CodeUnread =
    (settings : Settings) (s : State) (store : List ℕ) → query_of s ≡ Location.None
    → (word other : U256) → fetch_of settings word s store ≡ fetch_of settings other s store
