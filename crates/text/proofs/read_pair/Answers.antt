use Rattle.std.proofs.Common.{◌∙◌, sym, rules, tests}
use Rattle.text.proofs.FieldsLaws.{split_fields}
use Rattle.text.proofs.PairLaws as laws
use Rattle.text.proofs.read_pair.Goals as goal

pub returns-in_err-first : goal.returns-in_err-first
returns-in_err-first c =
    let line = c.args.line.now in
    let fields = split_fields line c.split-fields.ensures.rest c.split-fields.ensures.done (λ x b q k. search (rules, tests)) in
    c.from_residual-in_err-first.ensures ∙ laws.pair_no_first 64 line fields c.next.ensures.steps c.in_ok-next.was c.read_u64.ensures c.in_err-first.was

pub returns-in_err-next-2 : goal.returns-in_err-next-2
returns-in_err-next-2 c =
    let line = c.args.line.now in
    let fields = split_fields line c.split-fields.ensures.rest c.split-fields.ensures.done (λ x b q k. search (rules, tests)) in
    c.from_residual-in_err-next-2.ensures ∙ laws.pair_one 64 line fields c.next.ensures.steps c.in_ok-next.was c.next-2.ensures.steps c.in_err-next-2.was

pub returns-in_err-second : goal.returns-in_err-second
returns-in_err-second c =
    let line = c.args.line.now in
    let fields = split_fields line c.split-fields.ensures.rest c.split-fields.ensures.done (λ x b q k. search (rules, tests)) in
    c.from_residual-in_err-second.ensures
    ∙ laws.pair_no_second 64 line fields c.next.ensures.steps c.in_ok-next.was c.next-2.ensures.steps c.in_ok-next-2.was c.read_u64-2.ensures c.in_err-second.was

pub returns : goal.returns
returns c =
    let line = c.args.line.now in
    let fields = split_fields line c.split-fields.ensures.rest c.split-fields.ensures.done (λ x b q k. search (rules, tests)) in
    c.then_some.ensures
    ∙ laws.pair_two 64 line fields c.next.ensures.steps c.in_ok-next.was c.next-2.ensures.steps c.in_ok-next-2.was c.next-3.ensures.steps _ c.is_none.ensures
    (sym c.read_u64.ensures ∙ c.in_ok-first.was) (sym c.read_u64-2.ensures ∙ c.in_ok-second.was)
