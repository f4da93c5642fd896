use Rattle.std.proofs.Common.{[], ◌∷◌, rules, tests, ◌∙◌, sym}
use Rattle.std.proofs.lemmas.Iterator.{YieldsList-from_slice}
use Rattle.std.proofs.lemmas.Iterator.Adapters.{option_map_id}
use Rattle.std.proofs.lemmas.Iterator.Consumers.{YieldsList-from_copied, YieldsList-at}
use Rattle.std.proofs.lemmas.Iterator.Search.{find_from_yields_List}
use Rattle.text.specs.Bytes.{same_bytes}
use Rattle.table.specs.declared.Op.{Op}
use Rattle.table.specs.Line.{name_of, op_of}
use Rattle.table.proofs.Op.named.Goals as goal

pub returns : goal.returns
unfolding op_of
returns c =
    let ops = Op.Add ∷ Op.Call ∷ Op.Ok ∷ Op.Revert ∷ Op.Panic ∷ [] in
    let source = YieldsList-from_copied (YieldsList-at c.copied.ensures.source (YieldsList-from_slice ops c.iter.ensures.rest)) in
    let found =
    find_from_yields_List (λ op. same_bytes c.args.name.now (name_of op)) _ _ c.find.result c.find.ensures.ran source (λ x b q k. search (rules, tests)) in
    sym (option_map_id c.find.result) ∙ found
