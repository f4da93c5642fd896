-- Entries of the spend tally. Assumes nothing.
use Rattle.std.proofs.Common.{◌≡◌, ℕ, suc, ◌+◌, ◌-◌, ◌^◌, ◌<◌, ◌≤◌, Bool, true, false, cond, ◌&&◌, List, length, get_or, set, ltb, eqb, arith, refl, sym, ◌∙◌}
use Rattle.std.proofs.lemmas.Grind.{common_steps}
use Rattle.std.specs.Prelude.{Result, Ok, Err}
use Rattle.refusal.specs.declared.Refusal.{Refusal}
use Rattle.refusal.specs.Refusal.{refusal_number}
use Rattle.tally.specs.Tally.{bad_entry, joined, enter_refusal, charged, entered, enter_of, tally_after}

-- both depths of an entry that is taken have their places, and are one apart at most
pub in_tally : (tally : List ℕ) (limit before after charge : ℕ) → enter_refusal tally limit before after charge ≡ 0
    → (before < length tally) × (after < length tally) × (before ≤ after + 1) × (after ≤ before + 1)
in_tally tally limit before after charge e = grind arith

-- the place at each depth after an entry that is taken: its own, with the charge where it is of the depth before, and with the tally of a frame that closes into it
pub place_after : (tally : List ℕ) (limit before after charge depth : ℕ) → enter_refusal tally limit before after charge ≡ 0
    → get_or (entered tally before after charge) depth 0
    ≡ cond (ltb before after && eqb after depth) 0
    (get_or tally depth 0 + (cond (eqb before depth) charge 0 + cond (eqb before (suc depth) && eqb after depth) (get_or tally (suc depth) 0 + charge) 0))
place_after tally limit before after charge depth e = grind (arith, common_steps)

-- the number of an answer, beside the answer and the tally
pub numbered : (tally : List ℕ) (limit before after charge : ℕ) (r : Result (Unit {0}) Refusal) (t : List ℕ)
    → (r ≡ enter_of tally limit before after charge) × (t ≡ tally_after tally limit before after charge)
    → (r ≡ enter_of tally limit before after charge)
    × (t ≡ tally_after tally limit before after charge)
    × (refusal_number r ≡ enter_refusal tally limit before after charge)
unfolding enter_of
numbered tally limit before after charge r t e = grind (arith, common_steps)

-- Case by case: the reasons for refusal 15, each of which changes nothing, and what an entry gives that is taken. The first reason is the entry itself.
pub refused_entry : (tally : List ℕ) (limit before after charge : ℕ) (bad : Bool) → bad ≡ bad_entry (length tally) limit before after → bad ≡ true
    → (Err Refusal.TallyEntry ≡ enter_of tally limit before after charge) × (tally ≡ tally_after tally limit before after charge)
unfolding enter_of tally_after
refused_entry tally limit before after charge bad e t = rw (sym e ∙ t) (refl, refl)

-- both depths of an entry that is not bad have their places, whether its sums fit or not
pub good_in_tally : (size limit before after : ℕ) → bad_entry size limit before after ≡ false → (before < size) × (after < size)
good_in_tally size limit before after good = grind arith

-- an entry whose tally and depths are good
pub record GoodEntry (tally : List ℕ) (limit before after charge : ℕ) : Type 0 where
  pub good : bad_entry (length tally) limit before after ≡ false
  pub width : charge < 2 ^ 64

module _ {tally : List ℕ} {limit before after charge : ℕ} (n : GoodEntry tally limit before after charge) where
  pub places : (before < length tally) × (after < length tally)
  places = good_in_tally (length tally) limit before after n.good

  -- the sum at the depth before
  pub refused_sum : 2 ^ 64 - 1 - charge < get_or tally before 0
      → (Err Refusal.TallyEntry ≡ enter_of tally limit before after charge) × (tally ≡ tally_after tally limit before after charge)
  unfolding enter_of tally_after
  refused_sum l = grind (arith, common_steps)

  module _ (l : get_or tally before 0 ≤ 2 ^ 64 - 1 - charge) where
    pub entered_open : before < after
        → (Ok tt ≡ enter_of tally limit before after charge)
        × (set (charged tally before charge) after 0 ≡ tally_after tally limit before after charge)
    unfolding enter_of tally_after
    entered_open o = grind (arith, common_steps)

    pub entered_same : after ≡ before
        → (Ok tt ≡ enter_of tally limit before after charge)
        × (charged tally before charge ≡ tally_after tally limit before after charge)
    unfolding enter_of tally_after
    entered_same o = grind (arith, common_steps)

    -- the sum at the depth after, where a frame closes
    pub refused_join : after < before → 2 ^ 64 ≤ joined tally before after charge
        → (Err Refusal.TallyEntry ≡ enter_of tally limit before after charge) × (tally ≡ tally_after tally limit before after charge)
    unfolding enter_of tally_after
    refused_join c j = grind (arith, common_steps)

    pub entered_closed : after < before → joined tally before after charge < 2 ^ 64
        → (Ok tt ≡ enter_of tally limit before after charge)
        × (set (charged tally before charge) after (joined tally before after charge) ≡ tally_after tally limit before after charge)
    unfolding enter_of tally_after
    entered_closed c j = grind (arith, common_steps)
