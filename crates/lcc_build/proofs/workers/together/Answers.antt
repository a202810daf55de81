use Rattle.std.proofs.Common.{◌≡◌, [], ◌++◌, sym, subst}
use Rattle.std.specs.Prelude.{IsOk, OnOk, true}
use Rattle.label_rows.specs.Visits.{puts_of}
use Rattle.pruned_tree.specs.GrownBy.{IsGrownBy}
use Rattle.pruned_tree.proofs.GrownPuts.{AreApart-distinct, IsGrownBy-then, IsGrownBy-after}
use Rattle.lcc_build.proofs.PutsTogether.{IsOk-both, over_both, puts_of-append}
use Rattle.lcc_build.proofs.workers.together.Goals as goal

pub returns-clause-done : goal.returns-clause-done
returns-clause-done c =
    let edges = c.args.ground.now.job.now.graph.now.edges in
    let at = c.args.ground.now.job.now.ranking.now in
    let first = c.args.whole.claims.got in
    let second = c.args.share.claims.got in
    let one = c.args.whole.rows.visits in
    let two = c.args.share.rows.visits in
    record {
      over = subst (λ memory. OnOk memory (c.join.new.seat.over ≡ true)) (sym c.and.ensures) (over_both c.args.whole.memory c.args.share.memory c.args.whole.claims.over c.args.share.claims.over c.join.new.seat.over c.join.ensures.over c.requires.whole_done.over);
      grown = λ v node.
          let all : IsGrownBy edges at (first ++ second) (IsOk c.and.result) v [] (puts_of one v ++ puts_of two v) =
          IsGrownBy-then edges at first second (IsOk c.args.whole.memory) (IsOk c.args.share.memory) (IsOk c.and.result) v [] (puts_of one v) (puts_of one v ++ puts_of two v)
          (c.requires.whole_done.grown v node) (IsGrownBy-after edges at second (IsOk c.args.share.memory) v (puts_of one v) (puts_of two v) (c.requires.share_done.grown v node))
          (AreApart-distinct first second (rw (← c.join.ensures.got) c.join.ensures.once)) (λ ok. IsOk-both c.args.whole.memory c.args.share.memory (rw (← c.and.ensures) ok)) in
          rw (c.join.ensures.got, c.join-2.ensures.visits, puts_of-append one two v) all;
    }
