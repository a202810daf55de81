use Rattle.std.proofs.Common.{◌≡◌, ◌+◌, ◌^◌, ◌<◌, ◌≤◌, List, refl, length, map, get_or, ap, sym, subst, ◌∙◌, arith}
use Rattle.walk_laws.specs.declared.graph.Arc.{Arc}
use Rattle.walk_laws.proofs.NarrowRows.{arc_in_row}
use Rattle.frontier.specs.declared.reach.Reach.{Reach}
use Rattle.frontier.specs.Reaches.{improves, with_offer}
use Rattle.pruned_tree.specs.declared.bare.Bare.{Bare}
use Rattle.pruned_tree.specs.Relaxed.{IsRelaxed}
use Rattle.pruned_tree.proofs.RelaxedArcs.{IsRelaxed-none, IsRelaxed-over, IsRelaxed-unimproved, IsRelaxed-next}
use Rattle.pruned_tree.proofs.growing.relax.Given as given
use Rattle.pruned_tree.proofs.growing.relax.Goals as goal
use Rattle.pruned_tree.proofs.growing.relax.Goals.{After-widened-arc, then-pos-p+in_ok-offer_from, else-pos-p}

-- what counts of two offers at one distance
abbrev first : Bare → Bare → Bare
first a b = a

-- the arcs in full room
abbrev row : (g : given.Over) (c : After-widened-arc g) → List Arc
row g c = map (λ a. g.A.AnyArc.arc a) c.args.arcs.now

-- the arc of the round stands there, and its end is a node
here : (g : given.Over) (c : After-widened-arc g) → (c.loop-arc.arc-index < length (row g c)) × (get_or (row g c) c.loop-arc.arc-index c.widened-arc.result ≡ c.widened-arc.result)
here g c = arc_in_row (λ a. g.A.AnyArc.arc a) c.args.arcs.now c.loop-arc.arc-index c.arc-item.result c.widened-arc.result c.loop-arc-test.true c.arc-item.is c.widened-arc.ensures

node : (g : given.Over) (c : After-widened-arc g) → (1 ≤ c.widened-arc.result.to) × (c.widened-arc.result.to ≤ length c.args.ranking.now)
node g c = rw (here g c).1 at (c.requires.ends c.loop-arc.arc-index c.widened-arc.result (here g c).0)

inside : (g : given.Over) (c : After-widened-arc g) → c.widened-arc.result.to < length c.loop-arc.frontier
inside g c = omega (arith, (node g c).1, c.requires.nodes, c.loop-arc.invariant.size)

pub loop-arc-init : goal.loop-arc-init
loop-arc-init g c = IsRelaxed-none c.args.ranking.now c.args.p c.args.dist (map (λ a. g.A.AnyArc.arc a) c.args.arcs.now) c.args.frontier.now

pub overflow_add-reached : goal.overflow_add-reached
overflow_add-reached g c =
    let up = (goal.at.overflow_add-reached g c).After-widened-arc in
    let fits : c.args.dist + c.widened-arc.result.w < 2 ^ 96 = rw (here g up).1 at (c.requires.fits c.loop-arc.arc-index c.widened-arc.result (here g up).0) in
    omega (arith, fits)

pub reach-before-requires : goal.reach-before-requires
reach-before-requires g c = inside g (goal.at.reach-before-requires g c).After-widened-arc

pub loop-arc-preserved-then-not-improves : goal.loop-arc-preserved-then-not-improves
loop-arc-preserved-then-not-improves g c =
    let up = (goal.at.loop-arc-preserved-then-not-improves g c).After-widened-arc in
    IsRelaxed-unimproved c.args.ranking.now c.args.p c.args.dist (row g up) c.loop-arc.arc-index c.widened-arc.result (here g up).0 c.args.frontier.now c.loop-arc.frontier
    (rw (here g up).1 (ap (λ r. improves r (c.args.dist + c.widened-arc.result.w)) (sym c.reach-before.ensures) ∙ sym c.improves.ensures ∙ c.if-not-improves.true)) c.loop-arc.invariant

pub pos-requires-clause-node : goal.pos-requires-clause-node
pos-requires-clause-node g c = (node g (goal.at.pos-requires-clause-node g c).After-widened-arc).0

pub pos-requires-clause-within : goal.pos-requires-clause-within
pos-requires-clause-within g c = (node g (goal.at.pos-requires-clause-within g c).After-widened-arc).1

pub offer_from-requires-clause-node : goal.offer_from-requires-clause-node
offer_from-requires-clause-node g c = inside g (goal.at.offer_from-requires-clause-node g c).After-widened-arc

pub loop-arc-preserved : goal.loop-arc-preserved
loop-arc-preserved g c =
    let up = (goal.at.loop-arc-preserved g c).After-widened-arc in
    let a : Arc = c.widened-arc.result in
    let k = c.loop-arc.arc-index in
    let there = here g up in
    let P : List (Reach Bare) → Type 0 = λ nodes. IsRelaxed c.args.ranking.now c.args.p c.args.dist (k + 1) (row g up) c.args.frontier.now nodes in
    elim c.if-pos-p.branch [
      | then-pos-p+in_ok-offer_from w ↦
          subst P (sym (w.frontier-is ∙ w.in_ok-offer_from.ensures.ok))
          (subst (λ (x : Arc). P (with_offer first c.loop-arc.frontier x.to (record { dist = c.args.dist + x.w; carried = record {} }))) there.1
          (IsRelaxed-next c.args.ranking.now c.args.p c.args.dist (row g up) k a there.0 first c.args.frontier.now c.loop-arc.frontier
          (record { dist = c.args.dist + (get_or (row g up) k a).w; carried = record {} }) refl (rw there.1 (omega (arith, w.if-pos-p.true, c.pos.ensures.value))) (rw there.1 (inside g up)) c.loop-arc.invariant))
      | else-pos-p w ↦
          subst P (sym w.frontier-is)
          (IsRelaxed-over c.args.ranking.now c.args.p c.args.dist (row g up) k a there.0 c.args.frontier.now c.loop-arc.frontier (rw there.1 (omega (arith, w.if-pos-p.false, c.pos.ensures.value))) c.loop-arc.invariant)
    ]
