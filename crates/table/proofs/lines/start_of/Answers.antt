use Rattle.std.proofs.Common.{◌≡◌, ◌&&◌, leb, ◌∙◌, sym, rules}
use Rattle.text.proofs.NumberLaws.{converted}
use Rattle.table.proofs.LineLaws.{start_narrow}
use Rattle.table.proofs.lines.start_of.Goals as goal

pub returns-in_err-ergs : goal.returns-in_err-ergs
returns-in_err-ergs c = c.from_residual.ensures ∙ sym (rw (start_narrow c.args.line.now, ← c.read_pair.ensures, c.in_err-ergs.was))

pub returns-in_err-ergs-2 : goal.returns-in_err-ergs-2
returns-in_err-ergs-2 c =
    let ergs = converted 32 c.in_ok-ergs.ergs c.try_from.result c.try_from.ensures c.ok.ensures.value c.in_err-ergs-2.was in
    c.from_residual-in_err-ergs-2.ensures ∙ sym (rw (start_narrow c.args.line.now, ← c.read_pair.ensures, c.in_ok-ergs.was, ergs))

pub returns-in_err-limit : goal.returns-in_err-limit
returns-in_err-limit c =
    let ergs = converted 32 c.in_ok-ergs.ergs c.try_from.result c.try_from.ensures c.ok.ensures.value c.in_ok-ergs-2.was in
    let limit = converted 32 c.in_ok-ergs.limit c.try_from-2.result c.try_from-2.ensures c.ok-2.ensures.value c.in_err-limit.was in
    c.from_residual-in_err-limit.ensures ∙ sym (rw (start_narrow c.args.line.now, ← c.read_pair.ensures, c.in_ok-ergs.was, ergs, limit))

pub returns : goal.returns
returns c =
    let ergs = converted 32 c.in_ok-ergs.ergs c.try_from.result c.try_from.ensures c.ok.ensures.value c.in_ok-ergs-2.was in
    let limit = converted 32 c.in_ok-ergs.limit c.try_from-2.result c.try_from-2.ensures c.ok-2.ensures.value c.in_ok-limit.was in
    let inside : c.contains.result ≡ (leb 1 c.in_ok-limit.limit && leb c.in_ok-limit.limit 16) = search rules in
    c.then_some.ensures ∙ sym (rw (start_narrow c.args.line.now, ← c.read_pair.ensures, c.in_ok-ergs.was, ergs, limit, ← inside))
