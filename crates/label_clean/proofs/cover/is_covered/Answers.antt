use Rattle.std.proofs.Common.{false, ap, subst, arith}
use Rattle.std.specs.Prelude.{IsTrue}
use Rattle.std.proofs.lemmas.List.Elements.{All-contains}
use Rattle.hub_index.specs.RootDistances.{IsCover}
use Rattle.hub_index.proofs.CoveredEntries.{All-one_more, All-whole}
use Rattle.label_clean.proofs.TestedRows.{dist_of, no_cover_after}
use Rattle.label_clean.proofs.cover.is_covered.Goals as goal

pub returns-then-get-dist : goal.returns-then-get-dist
returns-then-get-dist c = (
  λ t. let none : IsTrue false = t in absurd cc,
  λ cover. absurd (no_cover_after c.args.table.now c.args.pos c.args.dist c.args.row.now c.loop-entry.entry-index c.entry-item.result (c.requires.rising c.if-is_by_distance.true) c.loop-entry-test.true (omega (arith, c.if-get-dist.true, c.get.ensures.value, ap dist_of c.entry-item.is)) c.loop-entry.invariant cover),
)

pub loop-entry-preserved : goal.loop-entry-preserved
loop-entry-preserved c =
    All-one_more (λ e. IsCover c.args.table.now c.args.pos c.args.dist e → ⊥) c.args.row.now c.loop-entry.entry-index c.entry-item.result c.loop-entry-test.true c.loop-entry.invariant
    (subst (λ e. IsCover c.args.table.now c.args.pos c.args.dist e → ⊥) c.entry-item.is (λ cover. let found : IsTrue false = c.if-covers.ensures.1 cover in absurd cc))

pub returns : goal.returns
returns c = (
  λ t. let none : IsTrue false = t in absurd cc,
  λ cover. absurd (All-contains (λ e. IsCover c.args.table.now c.args.pos c.args.dist e → ⊥) c.args.row.now cover.0
      (All-whole (λ e. IsCover c.args.table.now c.args.pos c.args.dist e → ⊥) c.args.row.now c.loop-entry.entry-index c.loop-entry-test.false c.loop-entry.invariant) cover.1 cover.2),
)
