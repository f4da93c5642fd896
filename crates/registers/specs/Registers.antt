-- Registers by number. Document 01: "registers src0, src1, dst0 (0 means the empty value)", 15 of them. A register's word and its pointer bit stand in two lists,
-- so both are read and written by the same two definitions.
use Rattle.std.specs.Prelude.{ℕ, Bool, false, List, ◌∷◌, get_or, set, drop}
use Rattle.u256.specs.declared.U256.{U256}
use Rattle.u256.specs.U256.{empty_word}

-- the value of register n, and the list with v in register n: number 0 is the empty value, and stays so
abbrev pub select_of : {A : Type 0} → A → List A → ℕ → A
select_of empty registers n = get_or (empty ∷ registers) n empty

abbrev pub update_of : {A : Type 0} → A → List A → ℕ → A → List A
update_of empty registers n v = drop 1 (set (empty ∷ registers) n v)

abbrev pub register_of : List U256 → ℕ → U256
register_of registers n = select_of empty_word registers n

abbrev pub pointer_of : List Bool → ℕ → Bool
pointer_of pointers n = select_of false pointers n
