use Rattle.std.proofs.Common.{◌≡◌, false, [], sym, subst, arith}
use Rattle.std.specs.Prelude.{IsTrue}
use Rattle.hub_index.proofs.CoveredEntries.{All-one_more, All-whole}
use Rattle.label_clean.specs.Needless.{IsNeedless}
use Rattle.label_clean.specs.Kept.{IsKept}
use Rattle.label_clean.proofs.KeptEntries.{IsKept-none, IsKept-with, IsKept-without}
use Rattle.label_clean.proofs.testing.keep.Goals as goal

pub loop-entry-init : goal.loop-entry-init
loop-entry-init c = λ v held.
    let P = IsNeedless c.args.ranking.now c.args.tested.now v in (
      subst (IsKept P []) (sym c.clear.ensures.items) (IsKept-none P),
      λ t k d lt. absurd (omega (arith, lt)),
    )

pub loop-entry-preserved-then-is_needless : goal.loop-entry-preserved-then-is_needless
loop-entry-preserved-then-is_needless c = λ v held.
    let P = IsNeedless c.args.ranking.now c.args.tested.now v in (
      IsKept-without P c.args.row.now c.loop-entry.kept.items c.loop-entry.entry-index c.entry-item.result c.entry-item.is c.loop-entry-test.true (c.loop-entry.invariant v held).0
          ((c.is_needless.ensures v held).0 c.if-is_needless.true),
      λ t. let none : IsTrue false = t in absurd cc,
    )

pub loop-entry-preserved : goal.loop-entry-preserved
loop-entry-preserved c = λ v held.
    let P = IsNeedless c.args.ranking.now c.args.tested.now v in
    let i = c.loop-entry.entry-index in
    let x = c.entry-item.result in
    let good : P x → ⊥ =
    λ bad. let found : IsTrue c.is_needless.result = (c.is_needless.ensures v held).1 bad in let none : c.is_needless.result ≡ false = c.if-is_needless.false in absurd cc in (
      rw c.in_ok-push.ensures.items (IsKept-with P c.args.row.now c.loop-entry.kept.items i x c.entry-item.is c.loop-entry-test.true (c.loop-entry.invariant v held).0 c.requires.row.once good),
      λ t. All-one_more (λ e. P e → ⊥) c.args.row.now i x c.loop-entry-test.true ((c.loop-entry.invariant v held).1 t) (subst (λ e. P e → ⊥) c.entry-item.is good),
    )

pub returns-clause-all : goal.returns-clause-all
returns-clause-all c = λ t v held. All-whole (λ e. IsNeedless c.args.ranking.now c.args.tested.now v e → ⊥) c.args.row.now c.loop-entry.entry-index c.loop-entry-test.false ((c.loop-entry.invariant v held).1 t)
