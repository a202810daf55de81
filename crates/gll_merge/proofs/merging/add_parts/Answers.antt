use Rattle.std.proofs.Common.{List, [], ◌∷◌, ◌++◌, Global, Vec, map, ap, ◌∙◌}
use Rattle.std.proofs.lemmas.List.{map_push}
use Rattle.label_clean.specs.declared.runs.RunList.{RunList}
use Rattle.gll_merge.proofs.merging.add_parts.Goals as goal

abbrev lists_of : Vec RunList Global → List RunList
lists_of d = d.items

pub returns-clause-parts : goal.returns-clause-parts
returns-clause-parts g c =
    ap (map lists_of) c.in_ok-push.ensures.items
    ∙ map_push lists_of c.args.parts.now.items c.into_parts-workspace.result.1
    ∙ ap (λ list. map lists_of c.args.parts.now.items ++ list ∷ []) c.into_parts-workspace.ensures
