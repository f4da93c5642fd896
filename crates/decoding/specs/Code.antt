-- Code words. Document 01: "Super pc is pc div 4, sub pc is pc mod 4; sub pc 0 is the highest 64 bits."
use Rattle.std.specs.Prelude.{ℕ, ◌+◌, ◌-◌, ◌*◌, ◌/◌, ◌%◌, ◌^◌, Bool, not, ◌||◌, ◌==◌}
use Rattle.u256.specs.declared.U256.{U256}
use Rattle.u256.specs.U256.{value_of}

abbrev pub super_pc : ℕ → ℕ
super_pc pc = pc / 4

abbrev pub sub_pc : ℕ → ℕ
sub_pc pc = pc % 4

-- "page or super pc changed"
abbrev pub code_changed : ℕ → ℕ → ℕ → ℕ → Bool
code_changed page previous_page super_pc previous_super_pc = not (page == previous_page) || not (super_pc == previous_super_pc)

-- 64 bits of the 256: at sub pc 3 the lowest
--
--   bits     255 ..... 192   191 ..... 128   127 ...... 64    63 ....... 0
--           +-------------+ +-------------+ +-------------+ +-------------+
--   sub pc  |      0      | |      1      | |      2      | |      3      |
--           +-------------+ +-------------+ +-------------+ +-------------+
--   field         w3              w2              w1              w0
unfoldable pub code_bits : U256 → ℕ → ℕ
code_bits word sub = value_of word / 2 ^ (64 * (3 - sub)) % 2 ^ 64

-- the number that the four parts make. Document 02, CR 4: "sub pc 0 to 3 in turn, highest first, give the whole word"
unfoldable pub parts_in_turn : U256 → ℕ
parts_in_turn word = code_bits word 0 * 2 ^ 192 + code_bits word 1 * 2 ^ 128 + code_bits word 2 * 2 ^ 64 + code_bits word 3
