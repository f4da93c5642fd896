-- What the places hold after a list of entries. Assumes nothing.
use Rattle.std.proofs.Common.{◌≡◌, ℕ, suc, ◌+◌, ◌<◌, ◌≤◌, Bool, true, false, cond, ◌&&◌, ◌||◌, List, [], ◌∷◌, ltb, eqb, get_or, refl, sym, subst, ◌∙◌, arith, replicate}
use Rattle.std.proofs.lemmas.List.{get_or-replicate, get_or_past, length-replicate}
use borrow.Author.Tests.{eqb-true}
use Rattle.tally.specs.Tally.{enter_refusal, entered, tally_after}
use Rattle.tally.proofs.TallyLaws.{place_after}
use Rattle.tally.specs.Entries.{Entry, tally_after_entry, tally_after_entries, taken_after, taken_of, opens_at, spend_of, PlaceHoldsSpend}
use Rattle.tally.specs.Entries.{EndsAt, Consecutive, since_opening, to_last_at, charges_of, PlaceHoldsCharges}

-- ---- any entries
-- a tally whose places hold what the frames spent by these entries, the latest first
abbrev Holds : List ℕ → List ℕ → List Entry → Type 0
Holds from tally taken = (depth : ℕ) → get_or tally depth 0 ≡ spend_of from depth taken

module _ (from tally : List ℕ) (earlier : List Entry) (h : Holds from tally earlier) (e : Entry) where
  abbrev refusal : ℕ
  refusal = enter_refusal tally e.limit e.before e.after e.charge

  after_entry : Holds from (tally_after_entry tally e) (cond (eqb refusal 0) (e ∷ earlier) earlier)
  unfolding tally_after spend_of
  after_entry depth = go (eqb refusal 0) refl
    where
      go : (b : Bool) → eqb refusal 0 ≡ b
          → get_or (cond b (entered tally e.before e.after e.charge) tally) depth 0 ≡ spend_of from depth (cond b (e ∷ earlier) earlier)
      go true t =
          rw (← h depth, ← h (suc depth)) (place_after tally e.limit e.before e.after e.charge depth (eqb-true refusal 0 t))
      go false t = h depth

all_hold : (from tally : List ℕ) (earlier entries : List Entry) → Holds from tally earlier
    → Holds from (tally_after_entries tally entries) (taken_after earlier tally entries)
unfolding tally_after_entries taken_after
all_hold from tally earlier [] h = h
all_hold from tally earlier (e ∷ es) h = all_hold from (tally_after_entry tally e) _ es (after_entry from tally earlier h e)

pub place_holds_spend : PlaceHoldsSpend
unfolding spend_of
place_holds_spend tally entries = all_hold tally tally [] entries (λ depth. refl)

-- ---- entries one after the other
-- an entry that is taken goes one depth up or down at most
abbrev Near : List Entry → Type 0
Near [] = Unit {0}
Near (e ∷ earlier) = (e.before ≤ e.after + 1) × (e.after ≤ e.before + 1) × Near earlier

near_entry : (tally : List ℕ) (e : Entry) (earlier : List Entry) → Near earlier
    → Near (cond (eqb (enter_refusal tally e.limit e.before e.after e.charge) 0) (e ∷ earlier) earlier)
near_entry tally e earlier n = grind arith

all_near : (tally : List ℕ) (earlier entries : List Entry) → Near earlier → Near (taken_after earlier tally entries)
unfolding taken_after
all_near tally earlier [] n = n
all_near tally earlier (e ∷ es) n = all_near (tally_after_entry tally e) _ es (near_entry tally e earlier n)

-- the charges since the opening of the frame of a depth
abbrev since : ℕ → List Entry → ℕ
since depth es = charges_of (since_opening depth es)

-- of the current frame they are its spend; of one below it, its spend and those since the opening of the next
record Sums (tally : List ℕ) (es : List Entry) : Type 0 where
  current : (depth : ℕ) → EndsAt depth es → since depth es ≡ spend_of tally depth es
  below : (depth now : ℕ) → depth < now → EndsAt now es → since depth es ≡ spend_of tally depth es + since (suc depth) es
  whole : (depth : ℕ) → spend_of tally depth es ≡ since depth (to_last_at depth es)

-- In numbers: an entry of the charge c from depth b to a, one up or down at most, and what is known of depth d and the next, since and spent before it.
module _ (b a d c since0 since1 spent0 spent1 : ℕ) (down : b ≤ a + 1) (up : a ≤ b + 1)
    (same : b ≡ d → since0 ≡ spent0) (above : d < b → since0 ≡ spent0 + since1) where
  abbrev since_then : ℕ
  since_then = cond (ltb b a && eqb a d) 0 (c + since0)

  abbrev spent_then : ℕ
  spent_then = cond (ltb b a && eqb a d) 0 (spent0 + (cond (eqb b d) c 0 + cond (eqb b (suc d) && eqb a d) (spent1 + c) 0))

  at_depth : (b ≡ suc d → since1 ≡ spent1) → (eqb b d || eqb a d) ≡ true → since_then ≡ spent_then
  at_depth same1 t = grind arith

  above_depth : d < a → since_then ≡ spent_then + cond (ltb b a && eqb a (suc d)) 0 (c + since1)
  above_depth l = grind arith

module _ (tally : List ℕ) (e : Entry) (es : List Entry) (n : Near (e ∷ es)) (c : Consecutive (e ∷ es)) (s : Sums tally es) where
  since_next : (depth : ℕ) → since depth (e ∷ es) ≡ cond (opens_at depth e) 0 (e.charge + since depth es)
  unfolding since_opening charges_of
  since_next depth = go (opens_at depth e)
    where
      go : (b : Bool) → charges_of (cond b [] (e ∷ since_opening depth es)) ≡ cond b 0 (e.charge + since depth es)
      go true = refl
      go false = refl

  same : (depth : ℕ) → e.before ≡ depth → since depth es ≡ spend_of tally depth es
  same depth b = s.current depth (subst (λ (n : ℕ). EndsAt n es) b c.0)

  above : (depth : ℕ) → depth < e.before → since depth es ≡ spend_of tally depth es + since (suc depth) es
  above depth l = s.below depth e.before l c.0

  -- it begins or ends at the depth
  touched : (depth : ℕ) → (eqb e.before depth || eqb e.after depth) ≡ true → since depth (e ∷ es) ≡ spend_of tally depth (e ∷ es)
  unfolding spend_of
  touched depth t =
      since_next depth
      ∙ at_depth e.before e.after depth e.charge (since depth es) (since (suc depth) es) (spend_of tally depth es) (spend_of tally (suc depth) es) n.0 n.1
      (same depth) (above depth) (same (suc depth)) t

  inside : (depth now : ℕ) → depth < now → EndsAt now (e ∷ es) → since depth (e ∷ es) ≡ spend_of tally depth (e ∷ es) + since (suc depth) (e ∷ es)
  unfolding spend_of
  inside depth now l at =
      rw (since_next depth, since_next (suc depth))
      (above_depth e.before e.after depth e.charge (since depth es) (since (suc depth) es) (spend_of tally depth es) (spend_of tally (suc depth) es) n.0 n.1
      (same depth) (above depth) (omega (arith, at)))

  elsewhere : (depth : ℕ) → (eqb e.before depth || eqb e.after depth) ≡ false → spend_of tally depth (e ∷ es) ≡ spend_of tally depth es
  unfolding spend_of
  elsewhere depth t = grind arith

  counted : (depth : ℕ) → spend_of tally depth (e ∷ es) ≡ since depth (to_last_at depth (e ∷ es))
  unfolding to_last_at
  counted depth = go (eqb e.before depth || eqb e.after depth) refl
    where
      go : (t : Bool) → (eqb e.before depth || eqb e.after depth) ≡ t
          → spend_of tally depth (e ∷ es) ≡ since depth (cond t (e ∷ es) (to_last_at depth es))
      go true t = sym (touched depth t)
      go false t = elsewhere depth t ∙ s.whole depth

  sums_next : Sums tally (e ∷ es)
  sums_next = record { current = λ depth at. touched depth (grind (arith, at)); below = inside; whole = counted }

-- from zeros
sums : (tally : List ℕ) → ((depth : ℕ) → get_or tally depth 0 ≡ 0) → (es : List Entry) → Near es → Consecutive es → Sums tally es
unfolding spend_of since_opening to_last_at charges_of
sums tally zeros [] n c = record { current = λ depth e. sym (zeros depth); below = λ depth now l e. omega (arith, zeros depth); whole = zeros }
sums tally zeros (e ∷ es) n c = sums_next tally e es n c (sums tally zeros es n.2 c.1)

zero_at : (size depth : ℕ) → get_or {A = ℕ} (replicate size 0) depth 0 ≡ 0
zero_at size depth = grind (arith, get_or-replicate {A = ℕ} size depth 0 0, get_or_past {X = ℕ} (replicate size 0) depth 0, length-replicate {A = ℕ} size 0)

pub place_holds_charges : PlaceHoldsCharges
place_holds_charges size entries depth c =
    let zeros = replicate size 0 in
    place_holds_spend zeros entries depth ∙ (sums zeros (λ d. zero_at size d) (taken_of zeros entries) (all_near zeros [] entries tt) c).whole depth
