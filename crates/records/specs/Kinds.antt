-- The lists of a record's fields. Document 01: "Operation (0 nop, 1 add, 2 sub, 3 near call, 4 return, 5 other)"; "condition 0 to 7 in the order of the Rust's `match`;
-- source and destination kind (0 register, 1 immediate, 2 push/pop, 3 stack offset, 4 code page, 5 absolute stack)".
use Rattle.std.specs.Prelude.{ℕ, zero, suc, List, [], ◌∷◌, Result, Ok, Err, codes}
use Rattle.records.specs.declared.kinds.Operation.{Operation}
use Rattle.records.specs.declared.kinds.ReturnKind.{ReturnKind}
use Rattle.records.specs.declared.kinds.OperandKind.{OperandKind}
use Rattle.records.specs.declared.kinds.Condition.{Condition}
use Rattle.records.specs.declared.kinds.NoSuchKind.{NoSuchKind}

abbrev pub operation_kinds : List Operation
operation_kinds = Operation.Nop ∷ Operation.Add ∷ Operation.Sub ∷ Operation.NearCall ∷ Operation.Ret ∷ Operation.Other ∷ []

abbrev pub operand_kinds : List OperandKind
operand_kinds =
    OperandKind.Register ∷ OperandKind.Immediate ∷ OperandKind.PushPop ∷ OperandKind.StackOffset ∷ OperandKind.CodePage ∷ OperandKind.AbsoluteStack ∷ []

abbrev pub condition_kinds : List Condition
condition_kinds =
    Condition.Always ∷ Condition.Gt ∷ Condition.Lt ∷ Condition.Eq ∷ Condition.Ge ∷ Condition.Le ∷ Condition.Ne ∷ Condition.GtOrLt ∷ []

-- what has a number in a list, if anything has it
abbrev pub numbered_in : {A : Type 0} → List A → ℕ → Result A NoSuchKind
numbered_in [] n = Err (record {})
numbered_in (k ∷ ks) zero = Ok k
numbered_in (k ∷ ks) (suc n) = numbered_in ks n

abbrev pub operation_numbered : ℕ → Result Operation NoSuchKind
operation_numbered n = numbered_in operation_kinds n

abbrev pub operand_numbered : ℕ → Result OperandKind NoSuchKind
operand_numbered n = numbered_in operand_kinds n

abbrev pub condition_numbered : ℕ → Result Condition NoSuchKind
condition_numbered n = numbered_in condition_kinds n

-- what is printed of a return kind
abbrev pub return_kind_text : ReturnKind → List ℕ
return_kind_text ReturnKind.Ok = codes "ok"
return_kind_text ReturnKind.Revert = codes "revert"
return_kind_text ReturnKind.Panic = codes "panic"
