-- Document 01: "Kernel mode: the first 18 bytes of this_address are 0."
use Rattle.std.specs.Prelude.{ℕ, ◌/◌, ◌%◌, ◌^◌, Bool, true, ◌&&◌, List, [], ◌∷◌, ◌++◌, eqb, take}
use Rattle.frame.specs.declared.Frame.{Frame}
use Rattle.frame.specs.declared.Address.{Address}

-- the four bytes of a word, the highest first
abbrev pub word_bytes : ℕ → List ℕ
word_bytes w = w / 2 ^ 24 ∷ w / 2 ^ 16 % 256 ∷ w / 2 ^ 8 % 256 ∷ w % 256 ∷ []

-- the 20 bytes of an address
abbrev pub address_bytes : Address → List ℕ
address_bytes a = word_bytes a.a0 ++ word_bytes a.a1 ++ word_bytes a.a2 ++ word_bytes a.a3 ++ word_bytes a.a4

abbrev pub all_zero : List ℕ → Bool
all_zero [] = true
all_zero (b ∷ bs) = eqb b 0 && all_zero bs

unfoldable pub kernel_mode : Frame → Bool
kernel_mode f = all_zero (take 18 (address_bytes f.this_address))
