use Rattle.std.proofs.Common.{false, get_or, refl, arith}
use Rattle.std.specs.Prelude.{IsTrue}
use Rattle.std.proofs.lemmas.List.Elements.{All-contains, Contains-get_or}
use Rattle.walk_laws.specs.declared.graph.Arc.{Arc}
use Rattle.hub_index.proofs.CoveredEntries.{All-one_more, All-whole}
use Rattle.hub_query.proofs.ArcsInOrder.{no_arc, arc_at, no_lesser}
use Rattle.hub_query.proofs.Onward.{LeadsNowhere, as_arc}
use Rattle.hub_query.proofs.walking.arc_onward.Goals as goal
use Rattle.hub_query.proofs.walking.arc_onward.Goals.{else-w-left-via-then-w-left+else-are_apart_by, else-w-left-via-else-w-left}

pub are_apart_by-requires-clause-first : goal.are_apart_by-requires-clause-first
are_apart_by-requires-clause-first c =
    (arc_at c.args.graph.now.n c.args.graph.now.edges c.args.x c.arcs-arc-items.result.now c.loop-arc.arc-index no_arc c.requires.graph c.requires.first c.requires.first_within c.arcs-arc-items.ensures.joined c.loop-arc-test.true).from_one

pub are_apart_by-requires-clause-first_within : goal.are_apart_by-requires-clause-first_within
are_apart_by-requires-clause-first_within c =
    let arc = arc_at c.args.graph.now.n c.args.graph.now.edges c.args.x c.arcs-arc-items.result.now c.loop-arc.arc-index no_arc c.requires.graph c.requires.first c.requires.first_within c.arcs-arc-items.ensures.joined c.loop-arc-test.true in
    omega (arith, arc.up_to_n, c.requires.size)

pub returns-then-are_apart_by : goal.returns-then-are_apart_by
returns-then-are_apart_by c =
    let arcs = c.arcs-arc-items.result.now in
    let a : Arc = get_or c.arcs-arc-items.result.now c.loop-arc.arc-index no_arc in
    record {
      light = omega (arith, c.from-w.ensures, c.if-w-left.true);
      arc = (c.arcs-arc-items.ensures.joined a.to a.w).0 (Contains-get_or arcs c.loop-arc.arc-index no_arc c.loop-arc-test.true);
      meet = rw c.from-w.ensures at c.if-are_apart_by.ensures.0 refl;
      least = λ z on.
          let leads = as_arc c.args.index.now c.args.v c.args.left z on.weight on.rest on.adds on.meet in
          no_lesser arcs c.arcs-arc-items.ensures.rising c.loop-arc.arc-index c.loop-arc-test.true (λ b. LeadsNowhere c.args.index.now c.args.v c.args.left b → ⊥)
          (λ k d lt nowhere. nowhere (c.loop-arc.invariant k d lt))
          (record { to = z; w = on.weight }) ((c.arcs-arc-items.ensures.joined z on.weight).1 on.arc) leads;
    }

pub loop-arc-preserved : goal.loop-arc-preserved
loop-arc-preserved c =
    All-one_more (LeadsNowhere c.args.index.now c.args.v c.args.left) c.arcs-arc-items.result.now c.loop-arc.arc-index no_arc c.loop-arc-test.true c.loop-arc.invariant
    (λ light apart. elim c.else-w-left.branch [
      | else-w-left-via-then-w-left+else-are_apart_by w ↦ let found : IsTrue false = w.if-are_apart_by.ensures.1 (rw c.from-w.ensures apart) in absurd cc
      | else-w-left-via-else-w-left w ↦ omega (arith, w.if-w-left.false, c.from-w.ensures, light)
    ])

pub returns : goal.returns
returns c = λ y on.
    as_arc c.args.index.now c.args.v c.args.left y on.weight on.rest on.adds on.meet
    (All-contains (LeadsNowhere c.args.index.now c.args.v c.args.left) c.arcs-arc-items.result.now (record { to = y; w = on.weight })
    (All-whole (LeadsNowhere c.args.index.now c.args.v c.args.left) c.arcs-arc-items.result.now c.loop-arc.arc-index (omega (arith, c.loop-arc-test.false)) c.loop-arc.invariant)
    ((c.arcs-arc-items.ensures.joined y on.weight).1 on.arc))
