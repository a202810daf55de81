use Rattle.std.proofs.Common.{◌≡◌, ◌-◌, true, false, ltb, Contains, map, ap, subst, sym, ◌∙◌, arith, rules}
use Rattle.std.specs.Prelude.{IsTrue}
use Rattle.std.specs.List.Sorted.{IsPartitionPoint, IsStrictlyIncreasing}
use Rattle.std.proofs.lemmas.Bool.{leb-true, le-leb}
use Rattle.std.proofs.lemmas.List.Sorted.{IsPartitionPoint-from_clause, IsPartitionedBy-ltb}
use Rattle.walk_laws.specs.declared.entry.Entry.{Entry}
use Rattle.label_clean.proofs.Covering.{entry, pos_of}
use Rattle.label_clean.proofs.Meetings.{never_falls, stands_there}
use Rattle.label_clean.proofs.cover.meets.Goals as goal
use Rattle.label_clean.proofs.cover.meets.Goals.{After-partition_point-place}

-- the place parts the row
point : (c : After-partition_point-place) → IsStrictlyIncreasing (map pos_of c.args.row.now) → IsPartitionPoint (λ (e : Entry). ltb e.pos c.args.other.pos ≡ true) (λ e. ltb e.pos c.args.other.pos ≡ false) c.args.row.now c.partition_point-place.result
point c rising = IsPartitionPoint-from_clause (λ (e : Entry). ltb e.pos c.args.other.pos) _ _ c.partition_point-place.ensures.partitioned (IsPartitionedBy-ltb pos_of c.args.row.now c.args.other.pos (never_falls c.args.row.now rising)) (λ a r q k. search rules)

pub returns-then-place-row : goal.returns-then-place-row
returns-then-place-row c rising = (
  λ t. let none : IsTrue false = t in absurd cc,
  λ m. let found = stands_there c.args.row.now c.args.other.pos c.partition_point-place.result m.0 rising (point (goal.at.returns-then-place-row c).After-partition_point-place rising) m.1 in absurd (omega (arith, found.0, c.if-place-row.true)),
)

pub returns-then-met-other : goal.returns-then-met-other
returns-then-met-other c rising = (
  λ t. let none : IsTrue false = t in absurd cc,
  λ m. let found = stands_there c.args.row.now c.args.other.pos c.partition_point-place.result m.0 rising (point (goal.at.returns-then-met-other c).After-partition_point-place rising) m.1 in absurd (c.if-met-other.true (ap pos_of (c.index-row-place.is ∙ found.1 c.index-row-place.result))),
)

pub returns : goal.returns
returns c rising =
    let met : Entry = c.index-row-place.result in
    let place = c.partition_point-place.result in (
      λ t. (
        met.dist,
        subst (λ q. Contains c.args.row.now (entry q met.dist)) c.if-met-other.false (place, c.if-place-row.false, sym c.index-row-place.is),
        omega (arith, leb-true c.get.result (c.args.dist - c.get-far.result) t, c.get.ensures.value, c.get-far.ensures.value, c.if-far-dist.false),
      ),
      λ m.
          let found = stands_there c.args.row.now c.args.other.pos place m.0 rising (point (goal.at.returns c).After-partition_point-place rising) m.1 in
          let far : met.dist ≡ m.0 = ap (λ (e : Entry). e.dist) (c.index-row-place.is ∙ found.1 met) in
          le-leb c.get.result (c.args.dist - c.get-far.result) (omega (arith, far, m.2, c.get.ensures.value, c.get-far.ensures.value)),
    )
