-- What was spent and what is held, over lists of lines. Assumes nothing.
use Rattle.std.proofs.Common.{◌≡◌, ℕ, ◌+◌, ◌<◌, ◌≤◌, inl, inr, Bool, true, ◌&&◌, eqb, Result, List, [], ◌∷◌, get_or, refl, ap, ◌∙◌, arith, Ok, Err}
use Rattle.std.proofs.lemmas.Grind.{common_steps}
use Rattle.std.proofs.lemmas.Bool.{cond_both}
use Rattle.std.specs.Result.{is_ok}
use borrow.Author.Tests.{eq-eqb, eqb-true}
use Rattle.refusal.specs.declared.Refusal.{Refusal}
use Rattle.refusal.specs.Refusal.{numbered_refusal}
use Rattle.tally.specs.Tally.{entered, enter_refusal, enter_answer, enter_of, tally_after}
use Rattle.cycle.specs.declared.Cycled.{Cycled}
use Rattle.cycle.specs.declared.CycleAnswer.{CycleAnswer}
use Rattle.cycle.specs.declared.CycleRefusal.{CycleRefusal}
use Rattle.cycle.specs.Cycle.{cycle_charge}
use Rattle.table.specs.declared.Line.{Line}
use Rattle.line_cycle.specs.LineCycle.{Holding, start_holding, input_of, requested_state, cycle_in, entry_of, line_answer, store_after, entries_after, holding_after, total_held, spend_at}
use Rattle.spends.specs.Lines.{from_start, none_refused, holding_after_lines, places_to, ErgsAccounted, LeavesDepth1, SpendIsErgsLess}
use Rattle.spends.proofs.Cycles.{all_finished}
use Rattle.spends.proofs.Totals.{total_after}
use Rattle.tally.proofs.TallyLaws.{in_tally}
use Rattle.spends.proofs.Places.{entry_adds, opened_at_0}
use native.Mathlib.Decide.{dec_lt}
use Rattle.spends.proofs.Bottom.{BottomFar, far_after}

-- what holds from a listing's start on
pub record Accounted (ergs : ℕ) (b : Holding) : Type 0 where
  pub sum : places_to b.state.depth b.tally + total_held b ≡ ergs
  pub place_0 : get_or b.tally 0 0 ≡ 0
  pub far : BottomFar b.state b.store

-- place 0 stays 0 where no frame at depth 0 is left or reached
place_0_stays : (t : List ℕ) (b a c : ℕ) → 1 ≤ b → 1 ≤ a → get_or t 0 0 ≡ 0 → get_or (entered t b a c) 0 0 ≡ 0
place_0_stays t b a c hb ha z = grind (arith, common_steps)

-- ---- a line
-- an entry that is made has no refusal
made : (n : ℕ) → is_ok (enter_answer n) ≡ true → n ≡ 0
made n e =
    cond_both (eqb n 0) (Ok tt) (Err (numbered_refusal n)) (λ (r : Result (Unit {0}) Refusal). is_ok r ≡ true → n ≡ 0) (λ t e. eqb-true n 0 t) (λ t e. absurd (cc)) e

both_true : (a b : Bool) → (a && b) ≡ true → (a ≡ true) × (b ≡ true)
both_true a b e = grind arith

module _ (limit ergs : ℕ) (line : Line) (b : Holding) where
  abbrev cycled : Cycled
  cycled = cycle_in limit line b

  -- a line that is not refused has a finished cycle and an entry that is taken
  pub record Taken : Type 0 where
    pub finished : is_ok cycled.answer ≡ true
    pub entry : enter_refusal b.tally limit b.state.depth cycled.state.depth (cycle_charge cycled.answer) ≡ 0

  taken_by : (a : Result CycleAnswer CycleRefusal) → cycled.answer ≡ a → is_ok (entry_of limit b.state.depth b.tally cycled a) ≡ true → Taken
  unfolding enter_of
  taken_by (Ok answer) same e = record { finished = rw same refl; entry = made _ e }
  taken_by (Err refused) same e = absurd (cc)

  pub taken : is_ok (line_answer limit line b).answer ≡ true → Taken
  unfolding line_answer
  taken e = taken_by cycled.answer refl e

  pub line_accounted : is_ok (line_answer limit line b).answer ≡ true → Accounted ergs b → Accounted ergs (holding_after limit line b)
  unfolding line_answer store_after entries_after tally_after requested_state
  line_accounted e a =
      let t = taken e in
      let input = input_of limit line.op line.price in
      let given = requested_state b.state line.want in
      let f = all_finished input given b.store t.finished in
      let far = far_after input given b.store f (record { deep = a.far.deep; current = a.far.current; saved = a.far.saved }) in
      rw (t.finished, eq-eqb _ 0 t.entry)
      (record {
        sum = omega (arith, a.sum, entry_adds b.tally limit b.state.depth cycled.state.depth (cycle_charge cycled.answer) t.entry, total_after input given b.store f);
        place_0 = place_0_stays b.tally b.state.depth cycled.state.depth (cycle_charge cycled.answer) a.far.deep far.deep a.place_0;
        far = far;
      })

lines_accounted : (limit ergs : ℕ) (lines : List Line) (b : Holding) → none_refused limit b lines ≡ true → Accounted ergs b → Accounted ergs (holding_after_lines limit b lines)
unfolding none_refused holding_after_lines
lines_accounted limit ergs [] b e a = a
lines_accounted limit ergs (line ∷ lines) b e a =
    let t = both_true (is_ok (line_answer limit line b).answer) (none_refused limit (holding_after limit line b) lines) e in
    lines_accounted limit ergs lines (holding_after limit line b) t.1 (line_accounted limit ergs line b t.0 a)

pub start_accounted : (ergs : ℕ) → Accounted ergs (start_holding ergs)
unfolding places_to
start_accounted ergs = record { sum = omega arith; place_0 = refl; far = record { deep = omega arith; current = λ e. refl; saved = λ h. refl } }

pub ergs_accounted : ErgsAccounted
ergs_accounted ergs limit lines e = (lines_accounted limit ergs lines (start_holding ergs) e (start_accounted ergs)).sum

-- at depth 1 the places are that of depth 1 and place 0
at_depth_1 : (ergs : ℕ) (b : Holding) → Accounted ergs b → b.state.depth ≡ 1 → spend_at 1 b + total_held b ≡ ergs
unfolding places_to
at_depth_1 ergs b a one =
    let sums : places_to b.state.depth b.tally ≡ get_or b.tally 1 0 + get_or b.tally 0 0 = ap (λ (n : ℕ). places_to n b.tally) one in
    omega (arith, a.sum, a.place_0, sums)

pub own_and_total : (ergs : ℕ) (b : Holding) → Accounted ergs b → b.state.depth ≡ 1 → spend_at b.state.depth b + total_held b ≡ ergs
own_and_total ergs b a one = ap (λ (n : ℕ). spend_at n b + total_held b) one ∙ at_depth_1 ergs b a one

-- at depth 2, in an opened frame, they are these and one that holds 0
module _ (limit ergs : ℕ) (line : Line) (b : Holding) (e : is_ok (line_answer limit line b).answer ≡ true) (a : Accounted ergs b) where
  abbrev left : Holding
  left = holding_after limit line b

  abbrev charge_then : ℕ
  charge_then = cycle_charge (cycle_in limit line b).answer

  near : left.state.depth ≤ b.state.depth + 1
  unfolding line_answer
  near = (in_tally b.tally limit b.state.depth left.state.depth charge_then (taken limit ergs line b e).entry).3

  opened : b.state.depth < left.state.depth → get_or left.tally left.state.depth 0 ≡ 0
  unfolding line_answer entries_after tally_after
  opened l =
      let t = taken limit ergs line b e in
      rw (t.finished, eq-eqb _ 0 t.entry)
      (opened_at_0 b.tally b.state.depth left.state.depth charge_then l (in_tally b.tally limit b.state.depth left.state.depth charge_then t.entry).1)

  from_depth_1 : b.state.depth ≡ 1 → Dec (1 < left.state.depth) → spend_at 1 left + total_held left ≡ ergs
  unfolding places_to
  from_depth_1 one (no same) =
      let after = line_accounted limit ergs line b e a in
      at_depth_1 ergs left after (omega (arith, after.far.deep))
  from_depth_1 one (yes above) =
      let after = line_accounted limit ergs line b e a in
      let two : left.state.depth ≡ 2 = omega (arith, near) in
      let sums : places_to left.state.depth left.tally ≡ get_or left.tally 2 0 + (get_or left.tally 1 0 + get_or left.tally 0 0) =
      ap (λ (n : ℕ). places_to n left.tally) two in
      omega (arith, after.sum, after.place_0, sums, ap (λ (n : ℕ). get_or left.tally n 0) two, opened (omega arith))

  leaving_depth_1 : LeavesDepth1 limit line b → spend_at 1 left + total_held left ≡ ergs
  leaving_depth_1 (inl one) = from_depth_1 one (dec_lt 1 left.state.depth)
  leaving_depth_1 (inr one) = at_depth_1 ergs left (line_accounted limit ergs line b e a) one

pub spend_is_ergs_less : SpendIsErgsLess
spend_is_ergs_less ergs limit lines line e f leaves =
    leaving_depth_1 limit ergs line (from_start ergs limit lines) f
    (lines_accounted limit ergs lines (start_holding ergs) e (start_accounted ergs)) leaves
