use Rattle.std.proofs.Common.{get_or, arith}
use Rattle.std.proofs.lemmas.Option.{slice_get-get_or}
use Rattle.plant_build.specs.TreeEntries.{entries_of}
use Rattle.plant_build.proofs.PlantedRows.{count_of_nodes}
use Rattle.plant_build.proofs.HeldParts.{HoldsPart-tree}
use Rattle.plant_build.proofs.batch.plant_root.Goals as goal

pub overflow_cast-len : goal.overflow_cast-len
overflow_cast-len g c =
    let few = count_of_nodes c.args.job.now.graph.now.n c.in_ok-planted.planted.items c.in_ok-planted.ensures.nodes c.in_ok-planted.ensures.once in
    omega (arith, few, c.n-n.ensures.graph.small, c.in_ok-planted.planted.ok.0)

pub returns-clause-gains : goal.returns-clause-gains
returns-clause-gains g c =
    let planted = c.in_ok-planted.planted.items in
    let at = c.args.job.now.ranking.now in
    let root = slice_get-get_or at c.args.p 0 c.requires.position in
    record {
      n = c.in_ok-put_tree.ensures.sink;
      gained = λ v. entries_of c.args.p v planted;
      part = HoldsPart-tree c.args.job.now.graph.now.edges at c.args.p (get_or at c.args.p 0) planted root c.in_ok-planted.ensures.once (λ v d. c.in_ok-planted.ensures.each (get_or at c.args.p 0) v d root);
      grown = λ v. rw c.deref.ensures.value at (c.in_ok-put_tree.ensures.grows v);
    }
