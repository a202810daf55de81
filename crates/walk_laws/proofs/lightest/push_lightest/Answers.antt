use Rattle.std.proofs.Common.{rules, ◌++◌, [], ◌∷◌, get_or, refl, inl, inr, ap, ◌∙◌, append_assoc}
use Rattle.std.proofs.lemmas.List.Elements.{All-push}
use Rattle.walk_laws.specs.LightestArcs.{no_arc, FollowsItsLike, IsLeastTo, IsLeastEdge}
use Rattle.walk_laws.proofs.LightestRows.{edge_of, rising_after, least_from_first, HaveEdges-skip, HaveEdges-put, HaveEdges-all}
use Rattle.walk_laws.proofs.lightest.push_lightest.Goals as goal
use Rattle.walk_laws.proofs.lightest.push_lightest.Goals.{then-arc-v-via-then-arc-v, then-arc-v-via-else-arc-v+then-follows_its_like}

pub loop-k-preserved-then-arc-v : goal.loop-k-preserved-then-arc-v
loop-k-preserved-then-arc-v c =
    let so_far = c.loop-k.invariant.more in
    record {
      more = (
        so_far.0,
        so_far.1,
        so_far.2,
        HaveEdges-skip c.args.arcs.now c.args.v c.loop-k.k so_far.0 c.loop-k-test.true (elim c.then-arc-v.branch [
          | then-arc-v-via-then-arc-v w ↦ inl (search rules)
          | then-arc-v-via-else-arc-v+then-follows_its_like w ↦ inr (search rules)
        ]) so_far.3,
      );
    }

pub least_weight-requires-clause-rising : goal.least_weight-requires-clause-rising
least_weight-requires-clause-rising c = rising_after c.args.arcs.now c.loop-k.k c.requires

pub loop-k-preserved : goal.loop-k-preserved
loop-k-preserved c =
    let so_far = c.loop-k.invariant.more in
    let row = c.args.arcs.now in
    let to = (get_or row c.loop-k.k no_arc).to in
    let edge = edge_of c.args.v to c.least_weight.result in
    let first : ¬ FollowsItsLike row c.loop-k.k = search rules in
    let least : IsLeastTo row to c.least_weight.result = least_from_first row c.loop-k.k c.least_weight.result c.requires c.loop-k-test.true first c.least_weight.ensures in
    let one : IsLeastEdge row c.args.v edge = record { from = refl; rises = c.if-arc-v.false; least = least } in
    record {
      more = (
        so_far.0 ++ edge ∷ [],
        c.in_ok-push.ensures.items ∙ ap (λ es. es ++ edge ∷ []) so_far.1 ∙ append_assoc c.args.edges.now.items so_far.0 (edge ∷ []),
        All-push (IsLeastEdge row c.args.v) so_far.0 edge so_far.2 one,
        HaveEdges-put row c.args.v c.loop-k.k c.least_weight.result so_far.0 c.loop-k-test.true so_far.3,
      );
    }

pub returns : goal.returns
returns c =
    let so_far = c.loop-k.invariant.more in
    (so_far.0, so_far.1, so_far.2, HaveEdges-all c.args.arcs.now c.args.v c.loop-k.k so_far.0 (search rules) so_far.3)
