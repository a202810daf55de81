use Rattle.std.proofs.Common.{◌≡◌, ◌∙◌, ◌∷◌, [], ◌++◌, ◌+◌, ap, arith, length}
use Rattle.std.specs.Prelude.{refl}
use Rattle.std.proofs.lemmas.List.{take_all}
use Rattle.renumbering.specs.Renumbered.{renumbered}
use Rattle.renumbering.proofs.NewNumbers.{IsRanking-renumbered, renumbered_more}
use Rattle.renumbering.proofs.renumbered.nodes_of.Goals as goal

pub loop-p-preserved : goal.loop-p-preserved
loop-p-preserved c =
    c.in_ok-push.ensures.items ∙ ap (λ l. l ++ (c.pos.result + 1) ∷ []) c.loop-p.invariant
    ∙ renumbered_more c.args.bfs_order.now c.args.ranking.now c.loop-p.p c.at.result c.pos.result (omega (arith, c.loop-p-test.true, c.n-n.ensures.value)) c.at.ensures.value c.pos.ensures.value

pub returns-clause-ranking : goal.returns-clause-ranking
returns-clause-ranking c =
    let at = c.args.ranking.now in
    let all : c.loop-p.nodes.items ≡ renumbered c.args.bfs_order.now at = c.loop-p.invariant ∙ ap (renumbered c.args.bfs_order.now) (take_all c.loop-p.p at (omega (arith, c.loop-p-test.false, c.n-n.ensures.value))) in
    rw all (IsRanking-renumbered (length at) c.args.bfs_order.now at c.n-places.ensures.ranking c.requires c.n-n.ensures.ranking refl)
