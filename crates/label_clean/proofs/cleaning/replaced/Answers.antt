use Rattle.std.proofs.Common.{◌≡◌, ◌+◌, ◌<◌, ◌∷◌, ◌++◌, Some, None, [], length, get_or, set, refl, sym, ap, subst, ◌∙◌, arith}
use Rattle.std.specs.Prelude.{slice_set}
use Rattle.std.proofs.lemmas.List.{get_or-set_same, get_or-set_other, length-set, map-set}
use Rattle.label_clean.specs.Kept.{IsKeptRow, HasSurvivors}
use Rattle.label_clean.proofs.KeptRows.{AreReplaced, AreReplaced-more, last_within, last_kept, last_row, HasSurvivors-all}
use Rattle.label_clean.proofs.RowItems.{items_of}
use Rattle.label_clean.proofs.cleaning.replaced.Goals as goal
use Rattle.label_clean.proofs.cleaning.replaced.Goals.{In-Some}

-- the rows so far, with the one that is taken
so_far : (c : In-Some) → AreReplaced c.args.ranking.now c.args.tested (length c.args.ranking.now) (c.pop.new.self.items ++ c.in-Some.row ∷ []) (items_of c.loop-row.rows.items)
so_far c = subst (λ kept. AreReplaced c.args.ranking.now c.args.tested (length c.args.ranking.now) kept (items_of c.loop-row.rows.items)) c.in-Some.ensures.items c.loop-row.invariant

pub loop-row-preserved-in-Some-row : goal.loop-row-preserved-in-Some-row
loop-row-preserved-in-Some-row c =
    let up = (goal.at.loop-row-preserved-in-Some-row c).In-Some in
    let at = c.args.ranking.now in
    let tested = c.args.tested in
    let left = c.pop.new.self.items in
    let rows = items_of c.loop-row.rows.items in
    let i : c.len.result ≡ length left = c.len.ensures ∙ c.pop.new.self.ok.0 in
    let new = c.in-Some-row.row.items in
    let now : items_of (slice_set c.loop-row.rows.items c.len.result c.in-Some-row.row) ≡ set rows (length left) new =
    map-set (λ row. row.items) c.loop-row.rows.items c.len.result c.in-Some-row.row ∙ ap (λ k. set rows k new) i in
    let within : length left < length rows = omega (arith, last_within at tested (length at) left c.in-Some.row rows (so_far up), (so_far up).size) in
    let kept : IsKeptRow at tested (length left + 1) (Some c.in-Some-row.row) = subst (IsKeptRow at tested (length left + 1)) c.in-Some-row.is (last_kept at tested (length at) left c.in-Some.row rows (so_far up)) in
    subst (AreReplaced at tested (length at) left) (sym now)
    (AreReplaced-more at tested (length at) left c.in-Some.row rows (so_far up) (set rows (length left) new) (length-set rows (length left) new)
    (λ k other. get_or-set_other rows (length left) k new [] other)
    (subst (HasSurvivors at tested (length left + 1)) (sym (get_or-set_same rows (length left) new [] within)) kept))

pub loop-row-preserved : goal.loop-row-preserved
loop-row-preserved c =
    let up = (goal.at.loop-row-preserved c).In-Some in
    let at = c.args.ranking.now in
    let tested = c.args.tested in
    let left = c.pop.new.self.items in
    let rows = items_of c.loop-row.rows.items in
    let within = last_within at tested (length at) left c.in-Some.row rows (so_far up) in
    let stay : IsKeptRow at tested (length left + 1) None = subst (IsKeptRow at tested (length left + 1)) c.in-None.is (last_kept at tested (length at) left c.in-Some.row rows (so_far up)) in
    AreReplaced-more at tested (length at) left c.in-Some.row rows (so_far up) rows refl (λ k other. refl)
    (HasSurvivors-all at tested (length left + 1) (get_or rows (length left) []) (last_row at tested (length at) left c.in-Some.row rows (so_far up)) (c.requires.tested.raw (length left + 1) (omega arith) (omega (arith, within))).once stay)
