use Rattle.std.proofs.Common.{◌≡◌, ◌+◌, ◌-◌, ◌<◌, ◌≤◌, ◌^◌, List, drop, get_or, length, map, min, sym, ap, ◌∙◌, arith}
use Rattle.walk_laws.specs.declared.graph.Arc.{Arc}
use Rattle.walk_laws.specs.Ranking.{position_of}
use Rattle.walk_laws.proofs.NarrowRows.{arc_in_row}
use Rattle.frontier.specs.Reaches.{improves, with_offer}
use Rattle.plant_tree.specs.Relaxed.{higher, relaxed, relaxed_all}
use Rattle.plant_tree.specs.Wanted.{wants, wanted}
use Rattle.plant_tree.proofs.TreeFacts.{reach_of}
use Rattle.plant_tree.proofs.TreeSize.{length-relaxed}
use Rattle.plant_tree.proofs.TreeSteps.{relaxed_unimproved, relaxed_all-next}
use Rattle.plant_tree.proofs.TreeTypes.{Reach}
use Rattle.plant_tree.proofs.TreeWanted.{wants_one, wanted-le, wanted-relaxed}
use Rattle.plant_tree.proofs.planter.relax.Given as given
use Rattle.plant_tree.proofs.planter.relax.Goals as goal
use Rattle.plant_tree.proofs.planter.relax.Goals.{After-widened-arc, In_ok-after, After-wants-wanted-in-loop-arc}

-- the arcs in full room
abbrev row : (g : given.Over) (c : After-widened-arc g) → List Arc
row g c = map (λ a. g.A.AnyArc.arc a) c.args.arcs.now

-- the arc of the round stands there
here : (g : given.Over) (c : After-widened-arc g) → (c.loop-arc.arc-index < length (row g c)) × (get_or (row g c) c.loop-arc.arc-index c.widened-arc.result ≡ c.widened-arc.result)
here g c = arc_in_row (λ a. g.A.AnyArc.arc a) c.args.arcs.now c.loop-arc.arc-index c.arc-item.result c.widened-arc.result c.loop-arc-test.true c.arc-item.is c.widened-arc.ensures

-- its end is a node
node : (g : given.Over) (c : After-widened-arc g) → (1 ≤ c.widened-arc.result.to) × (c.widened-arc.result.to ≤ length c.args.ranking.now)
node g c = rw (here g c).1 at (c.requires.ends c.loop-arc.arc-index c.widened-arc.result (here g c).0)

inside : (g : given.Over) (c : After-widened-arc g) → c.widened-arc.result.to < length c.loop-arc.frontier
inside g c = omega (arith, (node g c).1, c.requires.nodes, c.loop-arc.invariant.size)

pub overflow_add-dist : goal.overflow_add-dist
overflow_add-dist g c =
    let up = (goal.at.overflow_add-dist g c).After-widened-arc in
    let fits : c.args.found.dist + c.widened-arc.result.w < 2 ^ 96 = rw (here g up).1 at (c.requires.fits c.loop-arc.arc-index c.widened-arc.result (here g up).0) in
    omega (arith, fits)

pub reach-before-requires : goal.reach-before-requires
reach-before-requires g c = inside g (goal.at.reach-before-requires g c).After-widened-arc

-- the other arcs do from here what they do from the frontier after this arc
rest_now : (g : given.Over) (c : After-widened-arc g) (now : List Reach) → now ≡ relaxed c.args.ranking.now c.args.found c.widened-arc.result c.loop-arc.frontier
    → relaxed_all c.args.ranking.now c.args.found (drop (c.loop-arc.arc-index + 1) (row g c)) now ≡ relaxed_all c.args.ranking.now c.args.found (row g c) c.args.frontier.now
rest_now g c now is =
    ap (relaxed_all c.args.ranking.now c.args.found (drop (c.loop-arc.arc-index + 1) (row g c))) (is ∙ ap (λ a. relaxed c.args.ranking.now c.args.found a c.loop-arc.frontier) (sym (here g c).1))
    ∙ sym (relaxed_all-next c.args.ranking.now c.args.found (row g c) c.loop-arc.arc-index c.widened-arc.result c.loop-arc.frontier (here g c).0) ∙ c.loop-arc.invariant.rest

pub loop-arc-preserved-then-not-improves : goal.loop-arc-preserved-then-not-improves
loop-arc-preserved-then-not-improves g c =
    let up = (goal.at.loop-arc-preserved-then-not-improves g c).After-widened-arc in
    let same : relaxed c.args.ranking.now c.args.found c.widened-arc.result c.loop-arc.frontier ≡ c.loop-arc.frontier = relaxed_unimproved c.args.ranking.now c.args.found c.widened-arc.result c.loop-arc.frontier (ap (λ r. improves r (c.args.found.dist + c.widened-arc.result.w)) (sym c.reach-before.ensures) ∙ sym c.improves.ensures ∙ c.if-not-improves.true) in
    record {
      size = c.loop-arc.invariant.size;
      rest = rest_now g up c.loop-arc.frontier (sym same);
      count = c.loop-arc.invariant.count;
    }

pub pos-requires-clause-node : goal.pos-requires-clause-node
pos-requires-clause-node g c = (node g (goal.at.pos-requires-clause-node g c).After-widened-arc).0

pub pos-requires-clause-within : goal.pos-requires-clause-within
pos-requires-clause-within g c = (node g (goal.at.pos-requires-clause-within g c).After-widened-arc).1

pub offer_from-requires-clause-node : goal.offer_from-requires-clause-node
offer_from-requires-clause-node g c = inside g (goal.at.offer_from-requires-clause-node g c).After-widened-arc

-- the frontier after the offer along the arc
relaxed_now : (g : given.Over) (c : In_ok-after g) → c.offer_from.new.self ≡ relaxed c.args.ranking.now c.args.found c.widened-arc.result c.loop-arc.frontier
relaxed_now g c =
    let a : Arc = c.widened-arc.result in
    let high : c.min.result ≡ min c.args.found.carried.position (position_of c.args.ranking.now a.to) = c.min.ensures ∙ ap (min c.args.found.carried.position) c.pos.ensures.value in
    c.in_ok-after.ensures.ok ∙ ap (λ m. with_offer higher c.loop-arc.frontier a.to (record { dist = c.args.found.dist + a.w; carried = record { position = m } })) high

length_now : (g : given.Over) (c : In_ok-after g) → length c.offer_from.new.self ≡ length c.loop-arc.frontier
length_now g c = ap length (relaxed_now g c) ∙ length-relaxed c.args.ranking.now c.args.found c.widened-arc.result c.loop-arc.frontier

-- the count is right again after the arc
count_now : (g : given.Over) (c : After-wants-wanted-in-loop-arc g) → c.widened-arc.result.to < length c.loop-arc.frontier → c.offer_from.new.self ≡ relaxed c.args.ranking.now c.args.found c.widened-arc.result c.loop-arc.frontier →
    c.loop-arc.wanted - c.wants-wanted.result + c.wants-wanted-in-loop-arc.result ≡ wanted c.args.p c.offer_from.new.self
count_now g c within now =
    let a : Arc = c.widened-arc.result in
    let change = wanted-relaxed c.args.p c.args.ranking.now c.args.found a c.loop-arc.frontier within in
    let before : c.wants-wanted.result ≡ wants c.args.p (reach_of c.loop-arc.frontier a.to) = c.wants-wanted.ensures ∙ ap (wants c.args.p) c.reach-before.ensures in
    let after : c.wants-wanted-in-loop-arc.result ≡ wants c.args.p (reach_of (relaxed c.args.ranking.now c.args.found a c.loop-arc.frontier) a.to) =
    c.wants-wanted-in-loop-arc.ensures ∙ ap (wants c.args.p) (c.in_ok-after.ensures.reach ∙ ap (λ ns. reach_of ns a.to) now) in
    omega (arith, change, before, after, c.loop-arc.invariant.count, ap (wanted c.args.p) now, wants_one c.args.p c.loop-arc.frontier a.to within)

pub overflow_add-wanted : goal.overflow_add-wanted
overflow_add-wanted g c =
    let few = wanted-le c.args.p c.offer_from.new.self in
    let count = count_now g c (inside g (goal.at.overflow_add-wanted g c).After-widened-arc) (relaxed_now g (goal.at.overflow_add-wanted g c).In_ok-after) in
    omega (arith, few, count, length_now g (goal.at.overflow_add-wanted g c).In_ok-after, c.loop-arc.invariant.size, c.requires.nodes, c.requires.few)

pub loop-arc-preserved : goal.loop-arc-preserved
loop-arc-preserved g c =
    let up = (goal.at.loop-arc-preserved g c).After-widened-arc in
    let now = relaxed_now g (goal.at.loop-arc-preserved g c).In_ok-after in
    record {
      size = length_now g (goal.at.loop-arc-preserved g c).In_ok-after ∙ c.loop-arc.invariant.size;
      rest = rest_now g up c.offer_from.new.self now;
      count = count_now g c (inside g up) now;
    }
