use Rattle.std.proofs.Common.{◌≡◌, ◌≢◌, ℕ, ◌+◌, ◌^◌, ◌<◌, ◌≤◌, List, replicate, length, get_or, sym, ap, subst, ◌∙◌, arith}
use Rattle.std.proofs.Math.ListN.{set, length-set}
use Rattle.std.specs.Prelude.{◌↔◌, Some, Contains, slice_get}
use Rattle.walk_laws.specs.declared.graph.Arc.{Arc}
use Rattle.walk_laws.specs.ArcRows.{arcs_in}
use Rattle.walk_laws.specs.Canonical.{IsCanonical}
use Rattle.walk_laws.specs.Graph.{greatest_weight}
use Rattle.walk_laws.specs.Joined.{Joined}
use Rattle.walk_laws.specs.Ranking.{position_of}
use Rattle.frontier.specs.declared.reach.Reach.TheVariants.{Unreached, Queued, Settled}
use Rattle.plant_tree.specs.Planted.{NamesEachOnce}
use Rattle.plant_tree.specs.Wanted.{wanted}
use Rattle.plant_tree.proofs.PlantedExactly.{AreLabels, planted_exactly, labels_of_nodes, round_of_tree}
use Rattle.plant_tree.proofs.TreeEnds.{Starts, starts, first_tree}
use Rattle.plant_tree.proofs.TreeFacts.{IsTree, reach_of}
use Rattle.plant_tree.proofs.TreeLabels.{labels-start, labels_kept, labels_more, once_more}
use Rattle.walk_laws.proofs.JoinedEdges.{IsArc, arcs_of_row, fits_96}
use Rattle.plant_tree.proofs.TreeSize.{unsettled, unsettled-le, IsSized-start, IsSized-round, unsettled-settled, room_of_next, node_of_queued, none_found, nothing_found}
use Rattle.plant_tree.specs.Relaxed.{relaxed_all}
use Rattle.plant_tree.proofs.TreeSteps.{offered}
use Rattle.plant_tree.proofs.TreeTypes.{Found, Reach}
use Rattle.plant_tree.proofs.TreeWanted.{wanted-settled, wanted-start, none_wanted}
use Rattle.plant_tree.proofs.planter.grow.Goals as goal
use Rattle.plant_tree.proofs.planter.grow.Goals.{After-new-planted, At-loop-wanted, In-Some, After-arc_row, In_ok-wanted}

-- the frontier as it is at first: the root alone is queued
record AtFirst (n root p : ℕ) (nodes : List Reach) : Type 0 where
  pub empty : List Reach
  pub none : empty ≡ replicate (n + 1) none_found
  pub now : nodes ≡ set empty root (Queued (record { dist = 0; carried = record { position = p } }))

at_first : (c : After-new-planted) → AtFirst c.args.graph.now.n c.at.result c.args.p c.offer.new.self
at_first c =
    let none : c.clear.new.self ≡ replicate (c.args.graph.now.n + 1) none_found = c.clear.ensures ∙ ap (λ k. replicate k none_found) c.requires.nodes in
    let untouched : reach_of c.clear.new.self c.at.result ≡ Unreached = ap (λ ns. reach_of ns c.at.result) none ∙ nothing_found (c.args.graph.now.n + 1) c.at.result in
    record {
      empty = c.clear.new.self;
      none = none;
      now = c.in_ok-offer.ensures.ok ∙ ap (λ r. set c.clear.new.self c.at.result (offered r (record { dist = 0; carried = record { position = c.args.p } }))) untouched;
    }

pub loop-wanted-init : goal.loop-wanted-init
loop-wanted-init c =
    let first = at_first c in
    let n = c.args.graph.now.n in
    let heaviest = greatest_weight c.args.graph.now.edges in
    let root = c.at.result in
    let node : c.at.result ≤ c.args.graph.now.n = omega (arith, c.at.ensures.within, c.requires.ranked) in
    let sized = IsSized-start c.args.graph.now.n (greatest_weight c.args.graph.now.edges) c.at.result c.args.p first.empty first.none c.at.ensures.node node in
    rw first.now (record {
      sized = sized;
      tree = λ h is.
          let same : c.at.result ≡ h = let both : Some c.at.result ≡ Some h = sym c.at.ensures.value ∙ is in cc in
          let start : Starts c.at.result c.args.p (set first.empty c.at.result (Queued (record { dist = 0; carried = record { position = c.args.p } }))) =
          starts c.args.graph.now.n c.at.result c.args.p first.empty first.none node in
          let P : ℕ → Type 0 = λ r. IsTree (Joined c.args.graph.now.edges) (Joined c.args.graph.now.edges) c.args.ranking.now r (set first.empty c.at.result (Queued (record { dist = 0; carried = record { position = c.args.p } }))) in
          let Q : ℕ → Type 0 = λ q. Starts c.at.result q (set first.empty c.at.result (Queued (record { dist = 0; carried = record { position = c.args.p } }))) in
          subst P same (first_tree (Joined c.args.graph.now.edges) c.args.ranking.now c.at.result _ (subst Q (sym c.at.ensures.inverse) start));
      count = sym (wanted-start c.args.graph.now.n c.at.result c.args.p first.empty first.none node);
      settled = omega (arith, unsettled-le (set first.empty c.at.result (Queued (record { dist = 0; carried = record { position = c.args.p } }))), sized.size);
      labels = subst (AreLabels c.args.p (set first.empty c.at.result (Queued (record { dist = 0; carried = record { position = c.args.p } })))) (sym c.new-planted.ensures.items) (labels-start c.args.graph.now.n c.at.result c.args.p first.empty first.none node);
      once = subst NamesEachOnce (sym c.new-planted.ensures.items) (λ i j d lt within. absurd (omega (arith, within)));
    })

-- what holds where no queued node carries the root
exact : (c : At-loop-wanted) → ((x : ℕ) (f : Found) → reach_of c.loop-wanted.frontier x ≡ Queued f → f.carried.position ≢ c.args.p) → (h v d : ℕ) → slice_get c.args.ranking.now c.args.p ≡ Some h → Contains c.loop-wanted.planted.items (v, d) ↔ IsCanonical (Joined c.args.graph.now.edges) c.args.ranking.now h v d
exact c done h v d root =
    let position : position_of c.args.ranking.now h ≡ c.args.p = let both : Some c.at.result ≡ Some h = sym c.at.ensures.value ∙ root in let one : c.at.result ≡ h = cc in ap (position_of c.args.ranking.now) (sym one) ∙ c.at.ensures.inverse in
    planted_exactly c.args.graph.now.n c.args.graph.now.edges c.args.ranking.now h c.args.p v d c.loop-wanted.frontier c.loop-wanted.planted.items c.requires.graph position (c.loop-wanted.invariant.tree h root) done c.loop-wanted.invariant.labels

pub returns-in_default-clause-nodes : goal.returns-in_default-clause-nodes
returns-in_default-clause-nodes c =
    labels_of_nodes c.args.graph.now.n c.args.p c.loop-wanted.frontier c.loop-wanted.planted.items c.loop-wanted.invariant.sized.size c.loop-wanted.invariant.sized.no_node c.loop-wanted.invariant.labels

pub returns-in_default-clause-each : goal.returns-in_default-clause-each
returns-in_default-clause-each c = λ h v d root.
    exact (goal.at.returns-in_default-clause-each c).At-loop-wanted (λ x f queued _. c.in_default.ensures.none x f queued) h v d root

pub returns-clause-nodes : goal.returns-clause-nodes
returns-clause-nodes c =
    labels_of_nodes c.args.graph.now.n c.args.p c.loop-wanted.frontier c.loop-wanted.planted.items c.loop-wanted.invariant.sized.size c.loop-wanted.invariant.sized.no_node c.loop-wanted.invariant.labels

pub returns-clause-each : goal.returns-clause-each
returns-clause-each c = λ h v d root.
    exact (goal.at.returns-clause-each c).At-loop-wanted (none_wanted c.args.p c.loop-wanted.frontier (omega (arith, c.loop-wanted-test.false, c.loop-wanted.invariant.count))) h v d root

pub overflow_add-settled : goal.overflow_add-settled
overflow_add-settled c = omega (arith, c.loop-wanted.invariant.settled, c.requires.graph.small, unsettled-settled c.loop-wanted.frontier c.in-Some.v c.in-Some.found c.in-Some.ensures.queued)

-- the walk to the node that the round settles, and an edge after it
room_for_arc : (c : In-Some) → c.in-Some.found.dist + greatest_weight c.args.graph.now.edges < 2 ^ 96
room_for_arc c =
    let queued = c.in-Some.ensures.queued in
    let node = node_of_queued _ _ _ _ c.in-Some.v c.in-Some.found c.loop-wanted.invariant.sized queued in
    let room = room_of_next _ _ _ _ c.in-Some.v c.in-Some.found c.loop-wanted.invariant.sized queued in
    fits_96 c.args.graph.now.n c.args.graph.now.edges c.in-Some.found.dist _ c.requires.graph (omega (arith, node)) room

pub label-requires : goal.label-requires
label-requires c = omega (arith, room_for_arc (goal.at.label-requires c).In-Some)

-- the arcs of the node that the round settles
arc_of : (c : After-arc_row) → (k : ℕ) (d : Arc) → k < length (arcs_in c.arc_row.result) → IsArc c.args.graph.now.n (greatest_weight c.args.graph.now.edges) (get_or (arcs_in c.arc_row.result) k d)
arc_of c = arcs_of_row c.args.graph.now.n c.args.graph.now.edges c.in-Some.v (arcs_in c.arc_row.result) c.requires.graph c.arc_row.ensures

pub relax_row-requires-clause-nodes : goal.relax_row-requires-clause-nodes
relax_row-requires-clause-nodes c = omega (arith, ap length c.in-Some.ensures.settles, length-set c.loop-wanted.frontier c.in-Some.v (Settled c.in-Some.found), c.loop-wanted.invariant.sized.size, c.requires.ranked)

pub relax_row-requires-clause-few : goal.relax_row-requires-clause-few
relax_row-requires-clause-few c = omega (arith, c.requires.ranked, c.requires.graph.small)

pub relax_row-requires-clause-ends : goal.relax_row-requires-clause-ends
relax_row-requires-clause-ends c = λ k d lt.
    let arc = arc_of (goal.at.relax_row-requires-clause-ends c).After-arc_row k d lt in
    (arc.from_one, omega (arith, arc.up_to_n, c.requires.ranked))

pub relax_row-requires-clause-fits : goal.relax_row-requires-clause-fits
relax_row-requires-clause-fits c = λ k d lt.
    omega (arith, room_for_arc (goal.at.relax_row-requires-clause-fits c).In-Some, (arc_of (goal.at.relax_row-requires-clause-fits c).After-arc_row k d lt).light)

pub relax_row-requires-clause-count : goal.relax_row-requires-clause-count
relax_row-requires-clause-count c = omega (arith, c.wants-wanted.ensures, wanted-settled c.args.p c.loop-wanted.frontier c.in-Some.v c.in-Some.found c.in-Some.ensures.queued, c.loop-wanted.invariant.count, ap (wanted c.args.p) c.in-Some.ensures.settles)

-- the frontier after the round
round_now : (c : In_ok-wanted) → c.relax_row.new.frontier ≡ relaxed_all c.args.ranking.now c.in-Some.found (arcs_in c.arc_row.result) (set c.loop-wanted.frontier c.in-Some.v (Settled c.in-Some.found))
round_now c =
    c.in_ok-wanted.ensures.relaxed ∙ ap (relaxed_all c.args.ranking.now c.in-Some.found (arcs_in c.arc_row.result)) c.in-Some.ensures.settles

pub loop-wanted-smaller : goal.loop-wanted-smaller
loop-wanted-smaller c =
    let round = IsSized-round _ c.args.graph.now.edges c.args.ranking.now _ c.in-Some.v c.in-Some.found _ c.requires.graph c.loop-wanted.invariant.sized c.in-Some.ensures.queued c.arc_row.ensures in
    omega (arith, ap unsettled (round_now c), round.1)

pub loop-wanted-preserved : goal.loop-wanted-preserved
loop-wanted-preserved c =
    let queued = c.in-Some.ensures.queued in
    let n = c.args.graph.now.n in
    let row = (arcs_in c.arc_row.result) in
    let settled_nodes = set c.loop-wanted.frontier c.in-Some.v (Settled c.in-Some.found) in
    let round = IsSized-round _ c.args.graph.now.edges c.args.ranking.now _ c.in-Some.v c.in-Some.found _ c.requires.graph c.loop-wanted.invariant.sized queued c.arc_row.ensures in
    let arcs = arcs_of_row c.args.graph.now.n c.args.graph.now.edges c.in-Some.v (arcs_in c.arc_row.result) c.requires.graph c.arc_row.ensures in
    record {
      sized = rw (round_now c) round.0;
      tree = λ h is. rw (round_now c) (round_of_tree c.args.graph.now.n c.args.graph.now.edges c.args.ranking.now h c.in-Some.v c.in-Some.found (arcs_in c.arc_row.result) c.loop-wanted.frontier
          c.requires.graph c.loop-wanted.invariant.sized.size (c.loop-wanted.invariant.tree h is) queued c.in-Some.ensures.nearest c.arc_row.ensures);
      count = c.in_ok-wanted.ensures.count;
      settled = omega (arith, ap unsettled (round_now c), round.1, c.loop-wanted.invariant.settled);
      labels = subst (AreLabels c.args.p c.relax_row.new.frontier) (sym c.in_ok-label.ensures) (rw (round_now c) (labels_kept c.args.p c.args.ranking.now c.in-Some.found (arcs_in c.arc_row.result) (set c.loop-wanted.frontier c.in-Some.v (Settled c.in-Some.found)) _
          (λ k d lt. omega (arith, (arcs k d lt).up_to_n, length-set c.loop-wanted.frontier c.in-Some.v (Settled c.in-Some.found), c.loop-wanted.invariant.sized.size))
          (labels_more c.args.p c.loop-wanted.frontier c.loop-wanted.planted.items c.in-Some.v c.in-Some.found c.loop-wanted.invariant.labels queued)));
      once = subst NamesEachOnce (sym c.in_ok-label.ensures) (once_more c.args.p c.loop-wanted.frontier c.loop-wanted.planted.items c.in-Some.v c.in-Some.found c.loop-wanted.invariant.labels queued c.loop-wanted.invariant.once);
    }
