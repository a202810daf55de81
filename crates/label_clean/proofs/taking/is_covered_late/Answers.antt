use Rattle.std.proofs.Common.{◌∙◌, ◌≤◌, inl, inr, false, refl, arith}
use Rattle.std.specs.Prelude.{IsTrue}
use Rattle.std.proofs.lemmas.List.Elements.{All-contains, All-push}
use Rattle.walk_laws.specs.Labelling.{label_row}
use Rattle.label_clean.specs.Tested.{IsCovering}
use Rattle.hub_index.proofs.Backwards.{next_stands}
use Rattle.label_clean.proofs.LateParts.{late_came}
use Rattle.label_clean.proofs.taking.is_covered_late.Goals as goal

pub returns-then-entry-first : goal.returns-then-entry-first
returns-then-entry-first c rising hub_rising = (
  λ t. let none : IsTrue false = t in absurd cc,
  λ one.
      let row = label_row c.args.rows.now c.args.v in
      let came = late_came row _ c.loop-entry.yielded _ (c.into_iter-entry-iterator.ensures.into_iter_gives ∙ c.from_last-entry-items.ensures) c.loop-entry.yielded_by c.args.first c.loop-entry.invariant.late
      (inr (c.in-Some.entry, _, c.in-Some.ensures.steps, c.if-entry-first.true)) rising one.0 in
      absurd (All-contains (λ e. ¬ IsCovering c.args.hub_row.now c.args.pos c.args.dist e) c.loop-entry.yielded one.0 (c.loop-entry.invariant.none hub_rising) (came.1 (one.1, one.2)) one.3),
)

pub returns-then-covers : goal.returns-then-covers
returns-then-covers c rising hub_rising = (
  λ t.
      let row = label_row c.args.rows.now c.args.v in
      (c.in-Some.entry, next_stands row _ c.loop-entry.yielded _ (c.into_iter-entry-iterator.ensures.into_iter_gives ∙ c.from_last-entry-items.ensures) c.loop-entry.yielded_by c.in-Some.entry _ c.in-Some.ensures.steps, omega (arith, c.if-entry-first.false), (c.if-covers.ensures hub_rising).0 refl),
  λ one. refl,
)

pub loop-entry-preserved : goal.loop-entry-preserved
loop-entry-preserved c = record {
  late = All-push (λ e. c.args.first ≤ e.pos) c.loop-entry.yielded c.in-Some.entry c.loop-entry.invariant.late (omega (arith, c.if-entry-first.false));
  none = λ hub_rising. All-push (λ e. ¬ IsCovering c.args.hub_row.now c.args.pos c.args.dist e) c.loop-entry.yielded c.in-Some.entry (c.loop-entry.invariant.none hub_rising)
      (λ covering. let found : IsTrue false = (c.if-covers.ensures hub_rising).1 covering in absurd cc);
}

pub returns : goal.returns
returns c rising hub_rising = (
  λ t. let none : IsTrue false = t in absurd cc,
  λ one.
      let row = label_row c.args.rows.now c.args.v in
      let came = late_came row _ c.loop-entry.yielded _ (c.into_iter-entry-iterator.ensures.into_iter_gives ∙ c.from_last-entry-items.ensures) c.loop-entry.yielded_by c.args.first c.loop-entry.invariant.late
      (inl c.in-None.ensures.steps.0) rising one.0 in
      absurd (All-contains (λ e. ¬ IsCovering c.args.hub_row.now c.args.pos c.args.dist e) c.loop-entry.yielded one.0 (c.loop-entry.invariant.none hub_rising) (came.1 (one.1, one.2)) one.3),
)
