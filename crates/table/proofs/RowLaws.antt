-- Rows printed. Assumes nothing.
use Prim.Native.Nat.{ℕ, ◌+◌, ◌≤◌}
use mathlib.Core.List.{List, [], ◌∷◌, ◌++◌}
use native.Mathlib.Omega.{arith}
use lib.ListN.{length, length-append}
use Rattle.text.specs.declared.Writer.{Writer}
use Rattle.text.specs.Bytes.{Wrote}
use Rattle.text.proofs.BytesLaws.{join}
use Rattle.text.proofs.NumberLaws.{digits_length}
use Rattle.table.specs.declared.Op.{Op}
use Rattle.table.specs.declared.Row.{Row}
use Rattle.table.specs.Line.{name_of}
use Rattle.table.specs.Row.{field, row_text}

-- the parts of a row, written one after the other
pub wrote_row : (w0 : Writer) (row : Row) {w1 w2 w3 w4 w5 w6 w7 w8 : Writer}
    → Wrote w0 (field row.cycle 32) w1 → Wrote w1 (name_of row.op) w2 → Wrote w2 (32 ∷ []) w3 → Wrote w3 (field row.charge 32) w4
    → Wrote w4 (field row.depth 32) w5 → Wrote w5 (field row.held 32) w6 → Wrote w6 (field row.total 32) w7 → Wrote w7 (field row.own 10) w8
    → Wrote w0 (row_text row) w8
wrote_row w0 row {w1} {w2} {w3} {w4} {w5} {w6} p1 p2 p3 p4 p5 p6 p7 p8 =
    let t7 = field row.total 32 ++ field row.own 10 in
    let t6 = field row.held 32 ++ t7 in
    let t5 = field row.depth 32 ++ t6 in
    let t4 = field row.charge 32 ++ t5 in
    let t3 = (32 ∷ []) ++ t4 in
    join w0 (field row.cycle 32) (name_of row.op ++ t3) p1
    (join w1 (name_of row.op) t3 p2
    (join w2 (32 ∷ []) t4 p3
    (join w3 (field row.charge 32) t5 p4
    (join w4 (field row.depth 32) t6 p5
    (join w5 (field row.held 32) t7 p6
    (join w6 (field row.total 32) (field row.own 10) p7 p8))))))

name_length : (op : Op) → length (name_of op) ≤ 6
name_length Op.Add = omega arith
name_length Op.Call = omega arith
name_length Op.Ok = omega arith
name_length Op.Revert = omega arith
name_length Op.Panic = omega arith

-- a row has 133 bytes at most
pub row_length : (r : Row) → length (row_text r) ≤ 133
row_length r =
    simp length-append (omega (
      arith,
      digits_length 19 r.cycle,
      name_length r.op,
      digits_length 19 r.charge,
      digits_length 19 r.depth,
      digits_length 19 r.held,
      digits_length 19 r.total,
      digits_length 19 r.own,
    ))

-- a label and a number: what is printed of a bad line, or of a refusal
pub labelled_length : (label : List ℕ) (n : ℕ) → length (label ++ field n 10) ≤ length label + 21
labelled_length label n = simp length-append (omega (arith, digits_length 19 n))
