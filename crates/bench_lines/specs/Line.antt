-- A line of 58 words of 64 bits: three records of 19 words, plain, panic and nop, and the want.
use Rattle.std.specs.Prelude.{ℕ, ◌+◌, ◌*◌, ◌%◌, ◌^◌, Bool, cond, not, List, length, ◌==◌, nat_le, slice_index}
use Rattle.u256.specs.declared.U256.{U256}
use Rattle.records.specs.declared.Record.{Record}
use Rattle.records.specs.declared.Records.{Records}
use Rattle.stages.specs.Effects.{no_record}

abbrev pub record_width : ℕ
record_width = 19

abbrev pub line_width : ℕ
line_width = 3 * record_width + 1

-- yes is any word but 0
abbrev pub is_set : ℕ → Bool
is_set word = not (word == 0)

-- the record of the words from a place of the line on, one for each field: of a number the lowest bits
unfoldable pub record_from : List ℕ → ℕ → Record
record_from line from = record {
  operation = slice_index line from % 2 ^ 8;
  return_kind = slice_index line (from + 1) % 2 ^ 8;
  condition = slice_index line (from + 2) % 2 ^ 8;
  source_kind = slice_index line (from + 3) % 2 ^ 8;
  destination_kind = slice_index line (from + 4) % 2 ^ 8;
  src0 = slice_index line (from + 5) % 2 ^ 8;
  src1 = slice_index line (from + 6) % 2 ^ 8;
  dst0 = slice_index line (from + 7) % 2 ^ 8;
  imm_0 = slice_index line (from + 8) % 2 ^ 16;
  imm_1 = slice_index line (from + 9) % 2 ^ 16;
  price = slice_index line (from + 10) % 2 ^ 32;
  explicit_panic = is_set (slice_index line (from + 11));
  kernel_only = is_set (slice_index line (from + 12));
  allowed_when_static = is_set (slice_index line (from + 13));
  swap = is_set (slice_index line (from + 14));
  set_flags = is_set (slice_index line (from + 15));
  to_label = is_set (slice_index line (from + 16));
  src0_may_be_pointer = is_set (slice_index line (from + 17));
  src1_may_be_pointer = is_set (slice_index line (from + 18));
}

-- the three records of a line; less than a whole line has none
unfoldable pub line_records : List ℕ → Records
line_records line =
    cond (nat_le line_width (length line))
    (record { plain = record_from line 0; panic = record_from line record_width; nop = record_from line (2 * record_width) })
    (record { plain = no_record; panic = no_record; nop = no_record })

abbrev pub want_of : List ℕ → ℕ
want_of line = slice_index line (3 * record_width) % 2 ^ 32

-- four words of 64 bits from a place on, the lowest first
abbrev pub word_at : List ℕ → ℕ → U256
word_at words at = record { w0 = slice_index words at; w1 = slice_index words (at + 1); w2 = slice_index words (at + 2); w3 = slice_index words (at + 3) }
