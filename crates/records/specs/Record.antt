-- Instruction records. Document 01: "Operation (0 nop, 1 add, 2 sub, 3 near call, 4 return, 5 other); return kind (0 ok, 1 revert, 2 panic); condition 0 to 7
-- in the order of the Rust's `match`; source and destination kind (0 register, 1 immediate, 2 push/pop, 3 stack offset, 4 code page, 5 absolute stack); registers src0, src1, dst0".
use Rattle.std.specs.Prelude.{ℕ, Bool, false, not, ◌&&◌, ◌||◌, ◌==◌, nat_le}
use Rattle.records.specs.declared.Record.{Record}
use Rattle.records.specs.declared.Records.{Records}
use Rattle.records.specs.declared.OperandFields.{OperandFields}

-- ---- not refused by 3: "a field outside its list, register above 15, destination kind 1 or 4"
-- the kinds of source and destination
abbrev pub good_kinds : Record → Bool
good_kinds r =
    nat_le r.source_kind 5
    && nat_le r.destination_kind 5
    && not (r.destination_kind == 1)
    && not (r.destination_kind == 4)

abbrev pub good_registers : Record → Bool
good_registers r = nat_le r.src0 15 && nat_le r.src1 15 && nat_le r.dst0 15

abbrev pub good_record : Record → Bool
good_record r = nat_le r.operation 5 && nat_le r.return_kind 2 && nat_le r.condition 7 && good_kinds r && good_registers r

-- ---- the operations
abbrev pub is_nop : Record → Bool
is_nop r = r.operation == 0

-- add and sub
abbrev pub is_arithmetic : Record → Bool
is_arithmetic r = r.operation == 1 || r.operation == 2

abbrev pub is_near_call : Record → Bool
is_near_call r = r.operation == 3

abbrev pub is_return : Record → Bool
is_return r = r.operation == 4

-- one that is not carried over
abbrev pub is_other : Record → Bool
is_other r = r.operation == 5

-- return kinds 0 ok, 1 revert, 2 panic
abbrev pub is_return_ok : Record → Bool
is_return_ok r = r.return_kind == 0

-- a panic return
abbrev pub is_panic : Record → Bool
is_panic r = is_return r && r.return_kind == 2

-- ---- refusal 3 of decode
-- a record that is not good, "panic record not a panic return, nop record not a nop; ended and plain record not a nop on which decode sets
-- no flag; exception and plain record not a panic return"
unfoldable pub bad_records : Records → Bool → Bool → Bool → Bool
bad_records r ended pending flagged =
    not (good_record r.plain)
    || not (good_record r.panic)
    || not (good_record r.nop)
    || not (is_panic r.panic)
    || not (is_nop r.nop)
    || ended && not (is_nop r.plain && not flagged)
    || pending && not (is_panic r.plain)

-- ---- a record made of few fields: operation, return kind, what its operands are, price and set flags
abbrev pub instruction : ℕ → ℕ → OperandFields → ℕ → Bool → Record
instruction operation return_kind operands price set_flags = record {
  operation = operation;
  return_kind = return_kind;
  source_kind = operands.source_kind;
  destination_kind = operands.destination_kind;
  src0 = operands.src0;
  src1 = operands.src1;
  dst0 = operands.dst0;
  imm_0 = operands.imm_0;
  imm_1 = operands.imm_1;
  price = price;
  set_flags = set_flags;
  -- the rest 0 or no
  condition = 0;
  explicit_panic = false;
  kernel_only = false;
  allowed_when_static = false;
  swap = false;
  to_label = false;
  src0_may_be_pointer = false;
  src1_may_be_pointer = false;
}

-- src0 is register n, and all else of the operands 0
abbrev pub from_register : ℕ → OperandFields
from_register n = record { src0 = n; source_kind = 0; destination_kind = 0; src1 = 0; dst0 = 0; imm_0 = 0; imm_1 = 0 }
