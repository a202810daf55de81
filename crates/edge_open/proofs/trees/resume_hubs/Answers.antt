use Rattle.std.proofs.Common.{◌∙◌, List, Ok, refl, subst}
use Rattle.walk_laws.specs.Joined.{Joined}
use Rattle.resumed_tree.specs.declared.resuming.Start.{Start}
use Rattle.edge_open.specs.OpenArcs.{AreOpenBut}
use Rattle.edge_open.proofs.HubGroups.{group_may, others_may, hub_within}
use Rattle.edge_open.proofs.KeptEntries.{AreOpenBut-resumed}
use Rattle.edge_open.proofs.trees.resume_hubs.Goals as goal

pub resume-requires-clause-position : goal.resume-requires-clause-position
resume-requires-clause-position c =
    hub_within (Joined c.args.graph.now.edges) c.args.ranking.now c.loop-p.left.now c.in-Some.p c.in-Some.group.now c.in-Some.others.now c.in-Some.ensures.some c.loop-p.invariant.may

pub resume-requires-clause-starts : goal.resume-requires-clause-starts
resume-requires-clause-starts c =
    group_may (Joined c.args.graph.now.edges) c.args.ranking.now c.loop-p.left.now c.in-Some.p c.in-Some.group.now c.in-Some.others.now c.in-Some.ensures.some c.loop-p.invariant.may

pub loop-p-preserved : goal.loop-p-preserved
loop-p-preserved c =
    let J = Joined c.args.graph.now.edges in
    let at = c.args.ranking.now in
    let p = c.in-Some.p in
    let group = c.in-Some.group.now in
    let others = c.in-Some.others.now in
    let begins = c.in-Some.ensures.some in
    record {
      work = c.in_ok-resume.ensures.same ∙ c.loop-p.invariant.work;
      may = others_may J at c.loop-p.left.now p group others begins c.loop-p.invariant.may;
      arcs = AreOpenBut-resumed c.args.graph.now.n c.args.graph.now.edges at c.n-n.ensures.graph c.requires.nodes c.n-ranked.ensures.ranking p group others c.loop-p.rows c.resume.new.rows (Ok c.in_ok-resume.field-0) refl c.in_ok-resume.ensures.resumed begins.hub
          (subst (λ (some : List Start). AreOpenBut some J J at c.loop-p.rows) begins.both c.loop-p.invariant.arcs);
    }
