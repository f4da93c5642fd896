-- The memory that answers the code query and the source location.
use Rattle.std.specs.Prelude.{ℕ, ◌*◌, ◌/◌, ◌%◌, cond, List, Result, Ok, Err, leb, length}
use Rattle.refusal.specs.declared.Refusal.{Refusal}
use Rattle.u256.specs.declared.U256.{U256}
use Rattle.u256.specs.U256.{empty_word}
use Rattle.addressing.specs.declared.Location.{Location}
use Rattle.stages.specs.declared.OperandsAnswer.{OperandsAnswer}
use Rattle.bench_lines.specs.Line.{word_at}

-- the word of an index: four words of 64 bits make one, and after the last whole one comes the first again; less than one is the empty word
abbrev pub word_indexed : List ℕ → ℕ → U256
word_indexed words index = cond (leb 4 (length words)) (word_at words (index % (length words / 4) * 4)) empty_word

-- the word at a location, the empty word where there is none
abbrev pub memory_word : List ℕ → Location → U256
memory_word words Location.None = empty_word
memory_word words (Location.At kind index page time) = word_indexed words index

-- the source location that operands tells
abbrev pub source_told : Result OperandsAnswer Refusal → Location
source_told (Ok answer) = answer.source
source_told (Err refusal) = Location.None
