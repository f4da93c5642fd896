-- Lists of entries, and what the places hold after them. Document 01: "A lent list of 64-bit numbers, indexed by depth: a frame's charges while it is the current one."
-- To these document 02, CR 5, adds what closes into the frame: "Wallet makers now quote a frame with all it opened. When a frame closes, its tally, the return's charge
-- included, is added to its caller's". The frame of a depth is the one that was opened there last.
use Rattle.std.specs.Prelude.{ℕ, suc, ◌+◌, Bool, cond, ◌&&◌, ◌||◌, ◌≡◌, List, [], ◌∷◌, ltb, eqb, get_or, replicate}
use Rattle.tally.specs.Tally.{enter_refusal, tally_after}

pub record Entry : Type 0 where
  pub limit : ℕ
  pub before : ℕ
  pub after : ℕ
  pub charge : ℕ

-- ---- entries made one after the other
abbrev pub tally_after_entry : List ℕ → Entry → List ℕ
tally_after_entry tally e = tally_after tally e.limit e.before e.after e.charge

unfoldable pub tally_after_entries : List ℕ → List Entry → List ℕ
tally_after_entries tally [] = tally
tally_after_entries tally (e ∷ es) = tally_after_entries (tally_after_entry tally e) es

-- those that are not refused, each put in front of the ones taken before it: the latest first
unfoldable pub taken_after : List Entry → List ℕ → List Entry → List Entry
taken_after earlier tally [] = earlier
taken_after earlier tally (e ∷ es) =
    taken_after (cond (eqb (enter_refusal tally e.limit e.before e.after e.charge) 0) (e ∷ earlier) earlier) (tally_after_entry tally e) es

abbrev pub taken_of : List ℕ → List Entry → List Entry
taken_of tally entries = taken_after [] tally entries

-- ---- what a frame spent
-- an entry opens the frame of its depth after where that is above its depth before
abbrev pub opens_at : ℕ → Entry → Bool
opens_at depth e = ltb e.before e.after && eqb e.after depth

-- an entry from the depth above closes a frame into the one of this depth
abbrev pub closes_into : ℕ → Entry → Bool
closes_into depth e = eqb e.before (suc depth) && eqb e.after depth

-- What the frame of a depth spent: its charges since it was opened and, for each entry that closed a frame into it since then, what that frame had spent by then, "the
-- return's charge included". Of a frame that was there before these entries, what its place held then is counted, too.
unfoldable pub spend_of : List ℕ → ℕ → List Entry → ℕ
spend_of tally depth [] = get_or tally depth 0
spend_of tally depth (e ∷ earlier) =
    cond (opens_at depth e) 0
    (spend_of tally depth earlier
    + (cond (eqb e.before depth) e.charge 0 + cond (closes_into depth e) (spend_of tally (suc depth) earlier + e.charge) 0))

-- Whatever the entries, refused ones among them, the place at a depth holds what its frame spent.
abbrev pub PlaceHoldsSpend : Type 0
PlaceHoldsSpend =
    (tally : List ℕ) (entries : List Entry) (depth : ℕ) → get_or (tally_after_entries tally entries) depth 0 ≡ spend_of tally depth (taken_of tally entries)

-- ---- the same as one sum of charges, where the entries are those of one cycle after the other
-- the latest of them ends at a depth; none at all end at every depth
abbrev pub EndsAt : ℕ → List Entry → Type 0
EndsAt depth [] = Unit {0}
EndsAt depth (e ∷ earlier) = e.after ≡ depth

-- each begins at the depth at which the one before it ended
abbrev pub Consecutive : List Entry → Type 0
Consecutive [] = Unit {0}
Consecutive (e ∷ earlier) = EndsAt e.before earlier × Consecutive earlier

-- those after the opening of the frame of a depth; all where none opened it
unfoldable pub since_opening : ℕ → List Entry → List Entry
since_opening depth [] = []
since_opening depth (e ∷ earlier) = cond (opens_at depth e) [] (e ∷ since_opening depth earlier)

-- those up to the last that begins or ends at a depth
unfoldable pub to_last_at : ℕ → List Entry → List Entry
to_last_at depth [] = []
to_last_at depth (e ∷ earlier) = cond (eqb e.before depth || eqb e.after depth) (e ∷ earlier) (to_last_at depth earlier)

unfoldable pub charges_of : List Entry → ℕ
charges_of [] = 0
charges_of (e ∷ es) = e.charge + charges_of es

-- From a tally of zeros, as a listing has it, where the entries taken are consecutive, a place holds the sum of all charges, at whatever depth they were made, after the
-- entry that opened its frame (of all from the first on where none did, as at depth 1 of a listing) up to the last entry that begins or ends at its depth. What a frame
-- that is still open inside it was charged is not in it yet.
abbrev pub PlaceHoldsCharges : Type 0
PlaceHoldsCharges =
    (size : ℕ) (entries : List Entry) (depth : ℕ)
    → Consecutive (taken_of (replicate size 0) entries)
    → get_or (tally_after_entries (replicate size 0) entries) depth 0
    ≡ charges_of (since_opening depth (to_last_at depth (taken_of (replicate size 0) entries)))
