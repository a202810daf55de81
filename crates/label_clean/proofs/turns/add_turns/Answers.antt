use Rattle.std.proofs.Common.{◌++◌, [], ◌∷◌, ap, sym, ◌∙◌, append_assoc, map, take, get_or, arith}
use Rattle.std.proofs.lemmas.List.{append-nil, map_more, take_all}
use Rattle.label_clean.specs.declared.runs.Run.{Run}
use Rattle.label_clean.specs.RunLists.{turn_of}
use Rattle.label_clean.proofs.turns.add_turns.Goals as goal

abbrev nothing : Run
nothing = record { pos = 0; from = 0; to = 0 }

pub loop-run-init : goal.loop-run-init
loop-run-init c = sym (append-nil c.args.turns.now.items)

pub loop-run-preserved : goal.loop-run-preserved
loop-run-preserved c =
    let old = c.args.turns.now.items in
    let runs = c.args.runs.now in
    let k = c.loop-run.run-index in
    c.in_ok-push.ensures.items ∙ ap (λ ts. ts ++ turn_of c.args.list (get_or runs k nothing) ∷ []) c.loop-run.invariant
    ∙ append_assoc old (map (turn_of c.args.list) (take k runs)) (turn_of c.args.list (get_or runs k nothing) ∷ [])
    ∙ ap (λ ts. old ++ ts) (sym (map_more (turn_of c.args.list) runs k nothing c.loop-run-test.true))

pub returns : goal.returns
returns c = c.loop-run.invariant ∙ ap (λ runs. c.args.turns.now.items ++ map (turn_of c.args.list) runs) (take_all c.loop-run.run-index c.args.runs.now (omega (arith, c.loop-run-test.false)))
