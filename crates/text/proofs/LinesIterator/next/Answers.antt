use Rattle.std.proofs.Common.{◌≡◌, ◌-◌, ◌∷◌, length, take, drop, eqb, arith, rules, tests, ap}
use Rattle.std.proofs.lemmas.Fn.{always_returns_same}
use Rattle.text.specs.Parts.{lines_of}
use Rattle.text.proofs.PartsLaws.{lines_step}
use Rattle.text.proofs.LinesIterator.next.Goals as goal

step : (c : goal.After-unwrap_or) → lines_of c.args.self.now.rest.now
    ≡ c.unwrap_or.result.now ∷ lines_of (take (length c.args.self.now.rest.now - length c.in_ok-line.line.now) (drop (length c.in_ok-line.line.now) c.args.self.now.rest.now))
step c =
    let took = c.in_ok-line.ensures.steps in
    let at = took.1.2 (λ b. eqb b 10) (always_returns_same _ _ _ (λ a r q k. search (rules, tests))) in
    rw (c.unwrap_or.ensures, ← c.split_inclusive.ensures.rest)
    (lines_step c.split_inclusive.result.rest.now c.in_ok-line.line c.next.new.self.rest.now took.0 took.1.1 at.1 c.strip_suffix.result c.strip_suffix.ensures.cases took.2)

pub returns-clause-steps : goal.returns-clause-steps
returns-clause-steps c = step c

pub returns-clause-goes : goal.returns-clause-goes
returns-clause-goes c = record { on = λ h. (search rules, search rules, omega (arith, ap length (step c))); keeps = search rules; rests = search rules }
