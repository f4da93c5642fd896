-- Fetch. Document 01: "A query says whether a code read is wanted, and from which page and index: page or super pc changed, and not ended. It reads the state alone
-- and never refuses. Fetch takes that word, not looked at when none was wanted." "The answer is 64 bits of code, or exception (pending), or nop (ended)." The query's
-- location carries the state's time, as that of any read does by document 02's CR 1 (D80).
use Rattle.std.specs.Prelude.{ℕ, Bool, cond, not, ◌&&◌, List, Option, Ok, unwrap_or}
use Rattle.std.specs.Bool.{then_some}
use Rattle.u256.specs.declared.U256.{U256}
use Rattle.refusal.specs.Refusal.{first_of}
use Rattle.records.specs.declared.Settings.{Settings}
use Rattle.addressing.specs.declared.Location.{Location}
use Rattle.decoding.specs.Code.{super_pc, sub_pc, code_changed, code_bits}
use Rattle.addressing.specs.Address.{in_code}
use Rattle.stages.specs.declared.State.{State}
use Rattle.stages.specs.declared.Staged.{Staged}
use Rattle.stages.specs.declared.FetchAnswer.{FetchAnswer}
use Rattle.stages.specs.State.{at_decode, is_ended, refused_with, settled}
use Rattle.stages.specs.Checks.{fetch_checks}

-- "page or super pc changed, and not ended"
abbrev pub code_wanted : State → Bool
code_wanted s =
    not (is_ended s) && code_changed s.current.code_page s.previous_code_memory_page (super_pc s.current.pc) s.previous_super_pc

abbrev pub location_if : Bool → ℕ → ℕ → ℕ → Location
location_if wanted page index time = cond wanted (in_code page index time) Location.None

unfoldable pub query_of : State → Location
query_of s = location_if (code_wanted s) s.current.code_page (super_pc s.current.pc) s.timestamp

-- the answers: "nop (ended)", "exception (pending)", or 64 bits of code
abbrev pub code_answer : Bool → Bool → ℕ → FetchAnswer
code_answer ended pending bits = cond ended FetchAnswer.Nop (cond pending FetchAnswer.Exception (FetchAnswer.Code bits))

abbrev pub fetch_refusal : Settings → State → List ℕ → ℕ
fetch_refusal settings s store = first_of (fetch_checks settings s store)

-- the word given, where one is wanted
abbrev pub word_read : State → U256 → Option U256
word_read s word = then_some (code_wanted s) word

-- the code word that pc points into: the one read, or the previous one
abbrev pub code_word : State → U256 → U256
code_word s word = unwrap_or (word_read s word) s.previous_code_word

-- the state keeps the word read until decode
unfoldable pub fetched_state : State → Option U256 → State
fetched_state s read = record {
  fetched_word = read;
  stage = at_decode;
  -- the rest as it was
  registers = s.registers;
  current = s.current;
  previous_code_word = s.previous_code_word;
  kept = s.kept;
  flags = s.flags;
  previous_code_memory_page = s.previous_code_memory_page;
  timestamp = s.timestamp;
  monotonic_cycle_counter = s.monotonic_cycle_counter;
  depth = s.depth;
  pubdata_revert_counter = s.pubdata_revert_counter;
  previous_super_pc = s.previous_super_pc;
  pointers = s.pointers;
  pending_exception = s.pending_exception;
}

unfoldable pub fetch_done : State → U256 → Staged FetchAnswer
fetch_done s word = record {
  state = fetched_state s (word_read s word);
  answer = Ok (code_answer (is_ended s) s.pending_exception (code_bits (code_word s word) (sub_pc s.current.pc)));
}

unfoldable pub fetch_of : Settings → U256 → State → List ℕ → Staged FetchAnswer
fetch_of settings word s store =
    settled (fetch_refusal settings s store) (refused_with s) (fetch_done s word)
