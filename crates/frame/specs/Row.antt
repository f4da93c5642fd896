-- A frame's row. Document 01: "34 words of 32 bits, the fields of `CallStackEntry` in its order: three addresses of five words (first byte highest), base page,
-- code page, sp, pc, handler, ergs, three shard ids, static, local, context value (four words, lowest first), heap bound, aux heap bound, pubdata, stipend."
-- Document 02, CR 12: "Every frame, current or saved, gains the cycle counter that `start_frame` is given at its opening, and a row has 35 words, this one last."
use Rattle.std.specs.Prelude.{ℕ, ◌+◌, ◌-◌, ◌*◌, ◌/◌, ◌%◌, ◌^◌, Bool, ◌&&◌, List, [], ◌∷◌, ◌++◌, ltb, eqb, get_or}
use mir.Val.{bool_byte}
use Rattle.signed.specs.Signed.{word_of, signed_of}
use Rattle.frame.specs.declared.Frame.{Frame}
use Rattle.frame.specs.declared.Address.{Address}
use Rattle.frame.specs.declared.U128.{U128}
use Rattle.frame.specs.declared.PubdataCost.{PubdataCost}

-- how many words a row has; the contracts hold the code's ROW_WIDTH to it
abbrev pub row_width : ℕ
row_width = 35

-- ---- the words of a frame
abbrev pub address_words : Address → List ℕ
address_words a = a.a0 ∷ a.a1 ∷ a.a2 ∷ a.a3 ∷ a.a4 ∷ []

abbrev pub u128_words : U128 → List ℕ
u128_words c = c.low % 2 ^ 32 ∷ c.low / 2 ^ 32 ∷ c.high % 2 ^ 32 ∷ c.high / 2 ^ 32 ∷ []

abbrev pub row_of : Frame → List ℕ
row_of f =
    address_words f.this_address
    ++ address_words f.msg_sender
    ++ address_words f.code_address
    ++ (f.base_memory_page
    ∷ f.code_page
    ∷ f.sp
    ∷ f.pc
    ∷ f.exception_handler_location
    ∷ f.ergs_remaining
    ∷ f.this_shard_id
    ∷ f.caller_shard_id
    ∷ f.code_shard_id
    ∷ bool_byte f.is_static
    ∷ bool_byte f.is_local_frame
    ∷ [])
    ++ u128_words f.context_u128_value
    ++ (f.heap_bound
    ∷ f.aux_heap_bound
    ∷ word_of 32 f.total_pubdata_spent.0
    ∷ f.stipend
    ∷ f.opening_cycle
    ∷ [])

-- ---- the frame of a row's words
abbrev pub row_word : List ℕ → ℕ → ℕ
row_word row k = get_or row k 0

abbrev pub address_from : List ℕ → ℕ → Address
address_from row k = record {
  a0 = row_word row k;
  a1 = row_word row (k + 1);
  a2 = row_word row (k + 2);
  a3 = row_word row (k + 3);
  a4 = row_word row (k + 4);
}

abbrev pub u128_of : ℕ → ℕ → ℕ → ℕ → U128
u128_of w0 w1 w2 w3 = record { low = w0 + 2 ^ 32 * w1; high = w2 + 2 ^ 32 * w3 }

abbrev pub pubdata_of : ℕ → PubdataCost
pubdata_of w = record { 0 = signed_of 32 w }

abbrev pub frame_of : List ℕ → Frame
frame_of row = record {
  this_address = address_from row 0;
  msg_sender = address_from row 5;
  code_address = address_from row 10;
  base_memory_page = row_word row 15;
  code_page = row_word row 16;
  sp = row_word row 17;
  pc = row_word row 18;
  exception_handler_location = row_word row 19;
  ergs_remaining = row_word row 20;
  this_shard_id = row_word row 21;
  caller_shard_id = row_word row 22;
  code_shard_id = row_word row 23;
  is_static = eqb (row_word row 24) 1;
  is_local_frame = eqb (row_word row 25) 1;
  context_u128_value = u128_of (row_word row 26) (row_word row 27) (row_word row 28) (row_word row 29);
  heap_bound = row_word row 30;
  aux_heap_bound = row_word row 31;
  total_pubdata_spent = pubdata_of (row_word row 32);
  stipend = row_word row 33;
  opening_cycle = row_word row (row_width - 1);
}

-- ---- good rows
-- "A row is good if sp, pc and handler are below 65,536, shard ids below 256, static and local 0 or 1." sp, pc and handler have w bits: 16 in the production
-- encoding. The tests are of words, since a frame's static and local are yes or no and no longer tell 2 from 0.
-- The other words, the cycle of opening among them, may have any value.
abbrev pub good_row : ℕ → List ℕ → Bool
good_row w row =
    ltb (row_word row 17) (2 ^ w)
    && ltb (row_word row 18) (2 ^ w)
    && ltb (row_word row 19) (2 ^ w)
    && ltb (row_word row 21) 256
    && ltb (row_word row 22) 256
    && ltb (row_word row 23) 256
    && ltb (row_word row 24) 2
    && ltb (row_word row 25) 2
