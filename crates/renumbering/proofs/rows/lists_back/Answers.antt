use Rattle.std.proofs.Common.{◌≡◌, ◌∙◌, ap, arith, ◌+◌, ◌≤◌, length}
use Rattle.renumbering.specs.Renumbered.{number_in, list_of}
use Rattle.renumbering.proofs.RowsBack.{lists_done, lists_left, list_moved}
use Rattle.renumbering.proofs.rows.lists_back.Goals as goal

pub loop-k-preserved : goal.loop-k-preserved
loop-k-preserved g c =
    let bfs_order = c.args.bfs_order.now in
    let lists = c.args.lists.items in
    let k = c.loop-k.k in
    let old = c.loop-k.old.items in
    let list = c.replace.result in
    let within : k + 1 ≤ length bfs_order = omega (arith, c.loop-k-test.true, c.n-n.ensures.value) in
    let moved : list.items ≡ list_of old (number_in bfs_order (k + 1)) =
    list_moved bfs_order old list c.index_mut.result.now (k + 1) c.pos.result (omega (arith, c.pos.ensures.position, c.loop-k.invariant.old, c.loop-k.old.ok.0)) c.pos.ensures.value (c.replace.ensures.value ∙ c.index_mut.ensures.value) in
    record {
      size = omega (arith, c.in_ok-push.ensures.len, c.loop-k.invariant.size);
      old = c.loop-k.invariant.old;
      done = λ v low high. ap (λ l. list_of l v) c.in_ok-push.ensures.items ∙ lists_done bfs_order lists c.loop-k.back.items list k (omega (arith, c.loop-k.invariant.size, c.loop-k.back.ok.0)) c.loop-k.invariant.done (moved ∙ c.loop-k.invariant.left (k + 1) (omega arith) within) v low high;
      left = lists_left bfs_order lists old c.replace.new.dest k c.pos.result c.n-n.ensures.ranking c.pos.ensures.value c.loop-k.invariant.left;
    }
