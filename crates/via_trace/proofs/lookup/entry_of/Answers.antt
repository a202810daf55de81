use Rattle.std.proofs.Common.{rules, ◌≡◌, ◌<◌, map, length, get_or, ap, sym, subst, ◌∙◌, arith}
use Rattle.std.specs.Prelude.{slice_get, Some, Contains}
use Rattle.std.specs.List.Sorted.{IsStrictlyIncreasing}
use Rattle.std.proofs.lemmas.List.{get_or_default}
use Rattle.std.proofs.lemmas.List.Kept.{AllPairs-from_increasing}
use Rattle.std.proofs.lemmas.List.Sorted.{answers_always}
use Rattle.std.proofs.lemmas.Option.{slice_get-get_or}
use Rattle.walk_laws.specs.declared.entry.Entry.{Entry}
use Rattle.walk_laws.specs.Labelling.{label_row}
use Rattle.entry_vias.specs.RowVias.{via_row}
use Rattle.hub_query.proofs.RowFacts.{row_rises}
use Rattle.via_trace.specs.Traces.{entry_at}
use Rattle.via_trace.proofs.RowFacts.{nothing}
use Rattle.via_trace.proofs.Searched.{searched_found, searched_none}
use Rattle.via_trace.proofs.lookup.entry_of.Goals as goal

pub returns-in-Err : goal.returns-in-Err
returns-in-Err c = λ d there.
    let row = c.row-row.result.now in
    let index = c.index.result.now in
    let row_is : c.row-row.result.now ≡ label_row c.args.traced.now.rows c.args.x = c.row-row.ensures.value ∙ ap (λ rows. label_row rows c.args.x) c.index.ensures.rows in
    let rising : IsStrictlyIncreasing (map (λ (e : Entry). e.pos) c.row-row.result.now) = rw c.row-row.ensures.value (row_rises index.order index.rows c.args.x c.row-row.ensures.well_formed c.requires.node (omega (arith, c.requires.within, ap length c.index.ensures.order))) in
    let by_key = c.in-Err.ensures.position (λ (e : Entry). e.pos) (answers_always _ _ _ (λ f a r g called. search rules)) in
    searched_none row (AllPairs-from_increasing (map (λ e. e.pos) row) rising) c.args.pos c.in-Err.field-0 c.in-Err.ensures.bound by_key d (subst (λ r. Contains r (entry_at c.args.pos d)) (sym row_is) there)

pub returns-in-Ok : goal.returns-in-Ok
returns-in-Ok c =
    let row = c.row-row.result.now in
    let index = c.index.result.now in
    let place = c.in-Ok.place in
    let traced = c.args.traced.now in
    let row_is : c.row-row.result.now ≡ label_row c.args.traced.now.rows c.args.x = c.row-row.ensures.value ∙ ap (λ rows. label_row rows c.args.x) c.index.ensures.rows in
    let rising : IsStrictlyIncreasing (map (λ (e : Entry). e.pos) c.row-row.result.now) = rw c.row-row.ensures.value (row_rises index.order index.rows c.args.x c.row-row.ensures.well_formed c.requires.node (omega (arith, c.requires.within, ap length c.index.ensures.order))) in
    let by_key = c.in-Ok.ensures.position (λ (e : Entry). e.pos) (answers_always _ _ _ (λ f a r g called. search rules)) in
    let found = searched_found row (AllPairs-from_increasing (map (λ e. e.pos) row) rising) c.args.pos place c.in-Ok.ensures.bound by_key in
    let vias_are : c.row.result.now ≡ via_row c.args.traced.now.vias c.args.x = c.row.ensures ∙ ap (λ vias. via_row vias c.args.x) c.vias.ensures.value in
    let well = c.row-row.ensures.well_formed in
    let beside = c.vias.ensures.have_vias.row c.args.x c.requires.node (omega (arith, c.requires.within, ap length c.index.ensures.order, ap length c.index.ensures.rows, well.size)) in
    let within : c.in-Ok.place < length c.row.result.now = omega (arith, c.in-Ok.ensures.bound, beside.size, ap length vias_are, ap length row_is) in
    record {
      place = place;
      entry = ap (λ r. slice_get r place) (sym row_is) ∙ slice_get-get_or row place nothing c.in-Ok.ensures.bound ∙ ap (λ q. Some (entry_at q (get_or row place nothing).dist)) found ∙ ap (λ d. Some (entry_at c.args.pos d)) (ap (λ (e : Entry). e.dist) (get_or_default row place nothing c.index-row-place.result c.in-Ok.ensures.bound) ∙ sym c.get.ensures.value);
      via = ap (λ r. slice_get r place) (sym vias_are) ∙ slice_get-get_or c.row.result.now place 0 within;
    }
