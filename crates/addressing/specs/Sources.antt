-- The operands of an instruction. Document 01: execute "takes the word read and its pointer bit, looked at only where a source location was given; a nop's memory
-- source is the empty value"; refusal 6, "after the swap, pointer in a place that may not hold one, not kernel".
use Rattle.std.specs.Prelude.{ℕ, Bool, false, cond, not, ◌&&◌, ◌||◌, List, ◌==◌}
use Rattle.u256.specs.declared.U256.{U256}
use Rattle.u256.specs.U256.{empty_word, one_word}
use Rattle.registers.specs.Registers.{register_of, pointer_of}
use Rattle.records.specs.declared.Record.{Record}
use Rattle.addressing.specs.declared.PrimitiveValue.{PrimitiveValue}
use Rattle.addressing.specs.declared.Sources.{Sources}
use Rattle.records.specs.Record.{is_nop}

abbrev pub immediate : ℕ → PrimitiveValue
immediate n = record { value = one_word n; is_pointer = false }

abbrev pub empty_value : PrimitiveValue
empty_value = record { value = empty_word; is_pointer = false }

-- source kinds 0 register, 1 immediate; the others lie in memory
abbrev pub first_source : Record → PrimitiveValue → U256 → Bool → PrimitiveValue
first_source r register word pointer =
    cond (r.source_kind == 0) register
    (cond (r.source_kind == 1) (immediate r.imm_0)
    (cond (is_nop r) empty_value
    (record { value = word; is_pointer = pointer })))

abbrev pub register_value : List U256 → List Bool → ℕ → PrimitiveValue
register_value words pointers n = record { value = register_of words n; is_pointer = pointer_of pointers n }

-- src0 and src1 after the swap
unfoldable pub sources_of : Record → List U256 → List Bool → U256 → Bool → Sources
sources_of r words pointers word pointer =
    cond r.swap
    (record { src0 = register_value words pointers r.src1; src1 = first_source r (register_value words pointers r.src0) word pointer })
    (record { src0 = first_source r (register_value words pointers r.src0) word pointer; src1 = register_value words pointers r.src1 })

abbrev pub pointer_refused : Bool → Record → Bool → Bool → Bool
pointer_refused kernel r p0 p1 = not kernel && (p0 && not r.src0_may_be_pointer || p1 && not r.src1_may_be_pointer)
