-- The spend tally. Document 01: "A lent list of 64-bit numbers, indexed by depth: a frame's charges while it is the current one. An entry takes the depth before
-- and after and the charge, which is added at the depth before; an opened frame's place is set to 0." To a frame's charges document 02, CR 5, adds those of
-- the frames that close into it: "When a frame closes, its tally, the return's charge included, is added to its caller's and stays in its own place."
use Rattle.std.specs.Prelude.{ℕ, ◌+◌, ◌^◌, Bool, cond, ◌&&◌, ◌||◌, List, Result, Ok, Err, ltb, leb, eqb, length, get_or, set}
use Rattle.refusal.specs.declared.Refusal.{Refusal}
use Rattle.refusal.specs.Refusal.{numbered_refusal}

-- the number at a depth with a charge added
abbrev pub spent : List ℕ → ℕ → ℕ → ℕ
spent tally depth charge = get_or tally depth 0 + charge

-- refusal 15 but for the sums: "tally shorter than limit plus 1, depths above limit or more than 1 apart"
abbrev pub bad_entry : ℕ → ℕ → ℕ → ℕ → Bool
bad_entry size limit before after =
    ltb size (limit + 1) || ltb limit before || ltb limit after || ltb (before + 1) after || ltb (after + 1) before

-- the number at the depth after with the tally of the frame that closes into it, "the return's charge included"
abbrev pub joined : List ℕ → ℕ → ℕ → ℕ → ℕ
joined tally before after charge = get_or tally after 0 + spent tally before charge

-- refusal 15: these, "or sum above 64 bits", and of a frame that closes "also where this added sum passes 64 bits"
abbrev pub is_refused : List ℕ → ℕ → ℕ → ℕ → ℕ → Bool
is_refused tally limit before after charge =
    bad_entry (length tally) limit before after
    || leb (2 ^ 64) (spent tally before charge)
    || (ltb after before && leb (2 ^ 64) (joined tally before after charge))

-- the number of the refusal, 0 for none
abbrev pub enter_refusal : List ℕ → ℕ → ℕ → ℕ → ℕ → ℕ
enter_refusal tally limit before after charge = cond (is_refused tally limit before after charge) 15 0

-- "the charge, which is added at the depth before"
abbrev pub charged : List ℕ → ℕ → ℕ → List ℕ
charged tally before charge = set tally before (spent tally before charge)

-- the charge added; then "an opened frame's place is set to 0", and a closed frame's tally "is added to its caller's and stays in its own place"
abbrev pub entered : List ℕ → ℕ → ℕ → ℕ → List ℕ
entered tally before after charge =
    cond (ltb before after) (set (charged tally before charge) after 0)
    (cond (ltb after before) (set (charged tally before charge) after (joined tally before after charge)) (charged tally before charge))

-- the answer for a number: `Ok` for 0, and a refusal by its number
abbrev pub enter_answer : ℕ → Result (Unit {0}) Refusal
enter_answer n = cond (eqb n 0) (Ok tt) (Err (numbered_refusal n))

unfoldable pub enter_of : List ℕ → ℕ → ℕ → ℕ → ℕ → Result (Unit {0}) Refusal
enter_of tally limit before after charge = enter_answer (enter_refusal tally limit before after charge)

-- the tally afterwards: on a refusal, what was given
unfoldable pub tally_after : List ℕ → ℕ → ℕ → ℕ → ℕ → List ℕ
tally_after tally limit before after charge =
    cond (eqb (enter_refusal tally limit before after charge) 0) (entered tally before after charge) tally
