use Rattle.std.proofs.Common.{◌∙◌, sym, rules, tests}
use Rattle.text.proofs.FieldsLaws.{split_fields}
use Rattle.table.proofs.LineLaws as laws
use Rattle.table.proofs.lines.line_of.Goals as goal

pub returns-in_err-op : goal.returns-in_err-op
returns-in_err-op c =
    let line = c.args.line.now in
    c.from_residual-in_err-op.ensures ∙ laws.line_no_op line (split_fields line c.split-fields.ensures.rest c.split-fields.ensures.done (λ x b q k. search (rules, tests)))
    c.next.ensures.steps c.in_ok-next.was c.named.ensures c.in_err-op.was

pub returns-in_err-next-2 : goal.returns-in_err-next-2
returns-in_err-next-2 c =
    let line = c.args.line.now in
    c.from_residual-in_err-next-2.ensures ∙ laws.line_one line (split_fields line c.split-fields.ensures.rest c.split-fields.ensures.done (λ x b q k. search (rules, tests)))
    c.next.ensures.steps c.in_ok-next.was c.next-2.ensures.steps c.in_err-next-2.was

pub returns-in_err-price : goal.returns-in_err-price
returns-in_err-price c =
    let line = c.args.line.now in
    c.from_residual-in_err-price.ensures ∙ laws.line_no_price line (split_fields line c.split-fields.ensures.rest c.split-fields.ensures.done (λ x b q k. search (rules, tests)))
    c.next.ensures.steps c.in_ok-next.was c.next-2.ensures.steps c.in_ok-next-2.was c.read_number.ensures c.in_err-price.was

pub returns-in_err-next-3 : goal.returns-in_err-next-3
returns-in_err-next-3 c =
    let line = c.args.line.now in
    c.from_residual-in_err-next-3.ensures ∙ laws.line_two line (split_fields line c.split-fields.ensures.rest c.split-fields.ensures.done (λ x b q k. search (rules, tests)))
    c.next.ensures.steps c.in_ok-next.was c.next-2.ensures.steps c.in_ok-next-2.was c.next-3.ensures.steps c.in_err-next-3.was

pub returns-in_err-want : goal.returns-in_err-want
returns-in_err-want c =
    let line = c.args.line.now in
    c.from_residual-in_err-want.ensures ∙ laws.line_no_want line (split_fields line c.split-fields.ensures.rest c.split-fields.ensures.done (λ x b q k. search (rules, tests)))
    c.next.ensures.steps c.in_ok-next.was c.next-2.ensures.steps c.in_ok-next-2.was c.next-3.ensures.steps c.in_ok-next-3.was c.read_number-2.ensures c.in_err-want.was

pub returns-then-is_some : goal.returns-then-is_some
returns-then-is_some c =
    let line = c.args.line.now in
    laws.line_more line (split_fields line c.split-fields.ensures.rest c.split-fields.ensures.done (λ x b q k. search (rules, tests)))
    c.next.ensures.steps c.in_ok-next.was c.next-2.ensures.steps c.in_ok-next-2.was c.next-3.ensures.steps c.in_ok-next-3.was c.next-4.ensures.steps (sym c.is_some.ensures ∙ c.if-is_some.true)

pub returns : goal.returns
returns c =
    let line = c.args.line.now in
    laws.line_three line (split_fields line c.split-fields.ensures.rest c.split-fields.ensures.done (λ x b q k. search (rules, tests)))
    c.next.ensures.steps c.in_ok-next.was c.next-2.ensures.steps c.in_ok-next-2.was c.next-3.ensures.steps c.in_ok-next-3.was c.next-4.ensures.steps (sym c.is_some.ensures ∙ c.if-is_some.false) (sym c.named.ensures ∙ c.in_ok-op.was) (sym c.read_number.ensures ∙ c.in_ok-price.was) (sym c.read_number-2.ensures ∙ c.in_ok-want.was)
