use Rattle.std.proofs.Common.{◌≡◌, ◌+◌, [], ◌∷◌, ◌++◌, get_or, take}
use Rattle.std.proofs.lemmas.List.{take_more}
use Rattle.near_points.proofs.PointLists.{AreWordsOf-more}
use Rattle.near_points.proofs.point_words.words_of.Goals as goal

pub loop-node-preserved : goal.loop-node-preserved
loop-node-preserved c =
    let i = c.loop-node.node-index in
    let nodes = c.args.nodes.now in
    let v = get_or nodes i 0 in
    let more = AreWordsOf-more c.args.index.now.rows (take i nodes) v c.loop-node.words.items c.loop-node.invariant in
    let seen : take (i + 1) nodes ≡ take i nodes ++ v ∷ [] = take_more nodes i 0 c.loop-node-test.true in
    rw (seen, c.in_ok-add_row.ensures, c.row.ensures.value) more
