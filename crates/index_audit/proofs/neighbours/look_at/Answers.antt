use Rattle.std.proofs.Common.{◌≡◌, ◌+◌, map, arith}
use Rattle.std.proofs.lemmas.List.Kept.{AllPairs-from_increasing}
use Rattle.walk_laws.specs.Labelling.{label_row}
use Rattle.walk_laws.proofs.LabelRows.{Rises}
use Rattle.hub_query.proofs.RowFacts.{row_rises}
use Rattle.hub_query.proofs.Sums.{pos_of}
use Rattle.index_audit.proofs.Sound.{node_at}
use Rattle.index_audit.proofs.Verdicts.{covered_by_itself}
use Rattle.index_audit.proofs.Around.{not_nearer}
use Rattle.index_audit.proofs.neighbours.look_at.Goals as goal
use Rattle.index_audit.proofs.neighbours.look_at.Goals.{in-Some+else-far-weight+else-far-way, in_default}

pub returns-then-far-weight : goal.returns-then-far-weight
returns-then-far-weight c =
    let index = c.args.index.now in
    let there = rw c.row-row.ensures.value at c.in-Some.ensures in
    let sum : c.in-Some.far + c.args.arc.w ≡ c.args.entry.dist = omega (arith, c.if-far-weight.true, c.get-far.ensures.value, c.get-dist.ensures.value, c.from-weight.ensures) in (
      (c.in-Some.far, there, sum),
      covered_by_itself index.order index.rows c.args.hub c.args.entry.pos c.args.arc.to (c.args.entry.dist + c.args.arc.w) c.in-Some.far c.row-row.ensures.well_formed c.requires.place there (omega (arith, sum)),
    )

pub returns-then-far-way : goal.returns-then-far-way
returns-then-far-way c =
    let index = c.args.index.now in
    let up : Rises pos_of (label_row index.rows c.args.arc.to) = AllPairs-from_increasing (map (λ e. e.pos) (label_row index.rows c.args.arc.to)) (row_rises index.order index.rows c.args.arc.to c.row-row.ensures.well_formed c.requires.node c.requires.within) in
    let there = rw c.row-row.ensures.value at c.in-Some.ensures in (
      not_nearer index.rows c.args.entry c.args.arc c.in-Some.far up there (λ same. c.if-far-weight.false (omega (arith, c.get-far.ensures.value, c.get-dist.ensures.value, c.from-weight.ensures, same))),
      covered_by_itself index.order index.rows c.args.hub c.args.entry.pos c.args.arc.to (c.args.entry.dist + c.args.arc.w) c.in-Some.far c.row-row.ensures.well_formed c.requires.place there (omega (arith, c.if-far-way.true, c.get-far.ensures.value, c.get-dist.ensures.value, c.from-weight.ensures)),
    )

pub row-requires-clause-node : goal.row-requires-clause-node
row-requires-clause-node c = (node_at c.args.index.now.order c.args.entry.pos c.args.hub c.row-row.ensures.well_formed.ranking c.requires.place).0

pub row-requires-clause-within : goal.row-requires-clause-within
row-requires-clause-within c = (node_at c.args.index.now.order c.args.entry.pos c.args.hub c.row-row.ensures.well_formed.ranking c.requires.place).1

pub first_meet-requires-clause-first_rises : goal.first_meet-requires-clause-first_rises
first_meet-requires-clause-first_rises c =
    let node = node_at c.args.index.now.order c.args.entry.pos c.args.hub c.row-row.ensures.well_formed.ranking c.requires.place in
    rw c.row.ensures.value (row_rises c.args.index.now.order c.args.index.now.rows c.args.hub c.row.ensures.well_formed node.0 node.1)

pub returns-in-Some-first_meet : goal.returns-in-Some-first_meet
returns-in-Some-first_meet c =
    let index = c.args.index.now in
    let up : Rises pos_of (label_row index.rows c.args.arc.to) = AllPairs-from_increasing (map (λ e. e.pos) (label_row index.rows c.args.arc.to)) (row_rises index.order index.rows c.args.arc.to c.row-row.ensures.well_formed c.requires.node c.requires.within) in
    let first = rw (c.row.ensures.value, c.row-row.ensures.value, c.get-dist.ensures.value, c.from-weight.ensures) at c.in-Some-first_meet.ensures in (
      elim c.match-distance_at.branch [
        | in-Some+else-far-weight+else-far-way w ↦ not_nearer index.rows c.args.entry c.args.arc w.in-Some.far up (rw c.row-row.ensures.value at w.in-Some.ensures) (λ same. omega (arith, w.if-far-way.false, w.get-far.ensures.value, c.get-dist.ensures.value, c.from-weight.ensures, same))
        | in_default w ↦ λ n. (rw c.row-row.ensures.value at w.in_default.ensures) n.0 n.1
      ],
      (c.in-Some-first_meet.field-0, first.here),
    )

pub returns-in-None : goal.returns-in-None
returns-in-None c =
    let index = c.args.index.now in
    let up : Rises pos_of (label_row index.rows c.args.arc.to) = AllPairs-from_increasing (map (λ e. e.pos) (label_row index.rows c.args.arc.to)) (row_rises index.order index.rows c.args.arc.to c.row-row.ensures.well_formed c.requires.node c.requires.within) in
    let none = rw (c.row.ensures.value, c.row-row.ensures.value, c.get-dist.ensures.value, c.from-weight.ensures) at c.in-None.ensures in (
      elim c.match-distance_at.branch [
        | in-Some+else-far-weight+else-far-way w ↦ not_nearer index.rows c.args.entry c.args.arc w.in-Some.far up (rw c.row-row.ensures.value at w.in-Some.ensures) (λ same. omega (arith, w.if-far-way.false, w.get-far.ensures.value, c.get-dist.ensures.value, c.from-weight.ensures, same))
        | in_default w ↦ λ n. (rw c.row-row.ensures.value at w.in_default.ensures) n.0 n.1
      ],
      λ covered. none covered.0 covered.1,
    )
