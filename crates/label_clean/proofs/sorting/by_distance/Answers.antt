use Rattle.std.proofs.Common.{◌≡◌, ℕ, ◌+◌, ◌<◌, ◌≤◌, List, length, get_or, sym, ap, subst, ◌∙◌, arith}
use Rattle.std.proofs.lemmas.List.{length-map}
use Rattle.std.specs.List.Sorted.{IsNonDecreasingBy}
use Rattle.walk_laws.specs.declared.entry.Entry.{Entry}
use Rattle.walk_laws.specs.Labelling.{label_row}
use Rattle.walk_laws.specs.Ranking.{position_of}
use Rattle.label_clean.specs.RawRows.{HasEachOnce}
use Rattle.label_clean.specs.Tested.{HasEntriesOf, count_by_distance}
use Rattle.label_clean.proofs.TestedRows.{dist_of}
use Rattle.label_clean.proofs.RowItems.{items_of, row_at, each_changed, take_filled}
use Rattle.label_clean.proofs.sorting.by_distance.Given as given
use Rattle.label_clean.proofs.sorting.by_distance.Goals as goal
use Rattle.label_clean.proofs.sorting.by_distance.Goals.{After-from_rows}

pub par_for_each_mut-requires-after_bounds : goal.par_for_each_mut-requires-after_bounds
par_for_each_mut-requires-after_bounds g c κs within = λ i p lt is.
    let before = c.into_rows-rows.result.items in
    let same : c.as_mut_slice.result.now ≡ before = c.as_mut_slice.ensures.value in
    let inside : i < length before = omega (arith, lt, ap length same) in
    let size : length c.args.rows ≡ length before = ap length (sym c.into_rows-rows.ensures) ∙ length-map before (λ row. row.items) in
    let once : HasEachOnce (label_row c.args.rows (i + 1)) = c.requires.rows (i + 1) (omega arith) (omega (arith, inside, size)) in
    let here : label_row c.args.rows (i + 1) ≡ p.now.items = ap (λ rows. label_row rows (i + 1)) (sym c.into_rows-rows.ensures) ∙ row_at before i p.now inside ∙ ap (λ row. row.items) (sym (subst (λ xs. p.now ≡ get_or xs i p.now) same is)) in
    (subst HasEachOnce here once, omega (arith, inside, size, c.requires.size))

-- what each row is like afterwards
abbrev Sorted : List ℕ → ℕ → List Entry → List Entry → Type 0
Sorted at v before after = HasEntriesOf before after × (position_of at v < count_by_distance (length at) → IsNonDecreasingBy dist_of after)

each : (g : given.Over) (c : After-from_rows g) → (v : ℕ) → 1 ≤ v → v ≤ length c.args.rows → Sorted c.args.ranking.now v (label_row c.args.rows v) (label_row c.from_rows.result v)
each g c v from_one up_to_n =
    let before = c.into_rows-rows.result.items in
    let after = c.par_for_each_mut.new.s in
    let same : c.as_mut_slice.result.now ≡ before = c.as_mut_slice.ensures.value in
    let size : length after ≡ length before = omega (arith, c.par_for_each_mut.auto.s, ap length same) in
    let long : length before ≡ c.into_rows-rows.result.len = omega (arith, ap length same, c.as_mut_slice.ensures.len) in
    let all = each_changed (Sorted c.args.ranking.now) before after size (λ i d lt.
    let call = (c.par_for_each_mut.ensures i d (omega (arith, lt, ap length same))).1 in
    let was : call.argument.now ≡ get_or before i d = call.argument_is ∙ ap (λ xs. get_or xs i d) same in
    subst (λ y. Sorted c.args.ranking.now (i + 1) (get_or before i d).items y.items) call.left (subst (λ x. Sorted c.args.ranking.now (i + 1) x.items call.after_call.now.items) was call.call)) v from_one (omega (arith, up_to_n, ap length c.into_rows-rows.ensures)) in
    subst (Sorted c.args.ranking.now v (label_row c.args.rows v)) (ap (λ rows. label_row (items_of rows) v) (sym (take_filled c.into_rows-rows.result.len after before size long)) ∙ ap (λ rows. label_row rows v) (sym c.from_rows.ensures))
    (subst (λ rows. Sorted c.args.ranking.now v (label_row rows v) (label_row (items_of after) v)) c.into_rows-rows.ensures all)

pub returns-clause-rows : goal.returns-clause-rows
returns-clause-rows g c = λ v from_one up_to_n. (each g (goal.at.returns-clause-rows g c).After-from_rows v from_one up_to_n).0

pub returns-clause-rising : goal.returns-clause-rising
returns-clause-rising g c = λ v from_one up_to_n. (each g (goal.at.returns-clause-rising g c).After-from_rows v from_one up_to_n).1
