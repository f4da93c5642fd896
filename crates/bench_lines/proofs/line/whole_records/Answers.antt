use Rattle.std.proofs.Common.{◌≡◌, ℕ, ◌+◌, ◌<◌, ◌≤◌, List, length, get_or, take, drop, ◌*◌, sym, ap, ◌∙◌, add-zero, arith}
use Rattle.std.proofs.lemmas.Bool.{ltb-true}
use Rattle.std.proofs.lemmas.Bool.Decides.{nat_tests}
use Rattle.std.proofs.lemmas.List.{get_or-take, get_or-drop, drop-drop}
use Rattle.std.proofs.lemmas.Option.{slice_get_within}
use Rattle.bench_lines.specs.Line.{record_width, line_width, record_from, line_records}
use Rattle.bench_lines.proofs.line.whole_records.Goals as goal

word : (from k : ℕ) (line : List ℕ) → k < record_width → get_or (take record_width (drop from line)) k 0 ≡ get_or line (from + k) 0
word from k line h = get_or-take record_width (drop from line) k 0 h ∙ get_or-drop from line k 0

-- the record of the words from a place on, which are a record's words
part : (from : ℕ) (line : List ℕ) → record_from (take record_width (drop from line)) 0 ≡ record_from line from
unfolding record_from
part from line = simp (word, ltb-true, add-zero)

pub returns : goal.returns
unfolding line_records
returns c =
    let line = c.args.line.now in
    let plain = c.in_ok-plain.ensures in
    let panic = c.in_ok-panic.ensures in
    let nop = c.in_ok-nop.ensures in
    let want : 0 < length c.in_ok-nop.rest.now = slice_get_within _ _ _ (sym c.in_ok-first.ensures.value) in
    let whole : line_width ≤ length line = omega arith in
    let second : c.in_ok-panic.rest.now ≡ drop (2 * record_width) line = panic.1 ∙ ap (drop record_width) plain.1 ∙ drop-drop record_width record_width line in
    let records : record { plain = c.in_ok-plain.plain; panic = c.in_ok-panic.panic; nop = c.in_ok-nop.nop } ≡ line_records line =
    rw (plain.0, panic.0, nop.0, plain.1, second, part 0 line, part record_width line, part (2 * record_width) line) (grind (arith, nat_tests)) in
    records
