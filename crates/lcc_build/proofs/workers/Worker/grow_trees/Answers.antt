use Rattle.std.proofs.Common.{◌≡◌, refl, subst, ◌∙◌}
use Rattle.lcc_build.specs.Shares.{IsShareOf, IsNew}
use Rattle.lcc_build.proofs.DoneShares.{IsDone-from_new}
use Rattle.lcc_build.proofs.workers.Worker.grow_trees.Goals as goal

pub returns-in-Some : goal.returns-in-Some
returns-in-Some g c =
    let ready = c.requires.ready in
    let same : ready.share ≡ c.in-Some.share = let value = c.in-Some.ensures.value in let there = ready.there in cc in
    let of : IsShareOf c.args.ground.now 0 c.in-Some.share = subst (IsShareOf c.args.ground.now 0) same ready.of in
    let done = c.lcc_share.ensures in
    record {
      share = c.lcc_share.result;
      there = refl;
      of = record { claim_seat = done.claim_seat; row_seat = done.row_seat; claim_left = done.claim_left ∙ of.claim_left; row_left = done.row_left ∙ of.row_left };
      done = IsDone-from_new c.args.ground.now.job.now.graph.now.edges c.args.ground.now.job.now.ranking.now c.in-Some.share c.lcc_share.result (subst IsNew same ready.new) done.over done.grown;
    }
