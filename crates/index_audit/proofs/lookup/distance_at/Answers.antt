use Rattle.std.proofs.Common.{rules, map, Contains, subst}
use Rattle.std.proofs.lemmas.List.{get_or_default}
use Rattle.std.proofs.lemmas.List.Kept.{AllPairs-from_increasing}
use Rattle.std.proofs.lemmas.List.Sorted.{answers_always}
use Rattle.walk_laws.specs.declared.entry.Entry.{Entry}
use Rattle.index_audit.proofs.Searched.{nothing, searched_found, searched_none}
use Rattle.index_audit.proofs.lookup.distance_at.Goals as goal

pub returns-in-Ok : goal.returns-in-Ok
returns-in-Ok c =
    let row = c.args.row.now in
    let by_key = c.in-Ok.ensures.position (λ (e : Entry). e.pos) (answers_always _ _ _ (λ f a r g called. search rules)) in
    subst (λ (e : Entry). Contains c.args.row.now (record { pos = c.args.pos; dist = e.dist })) (get_or_default row c.in-Ok.place nothing _ c.in-Ok.ensures.bound)
    (searched_found row (AllPairs-from_increasing (map (λ e. e.pos) row) c.requires) c.args.pos c.in-Ok.place c.in-Ok.ensures.bound by_key)

pub returns-in-Err : goal.returns-in-Err
returns-in-Err c =
    let row = c.args.row.now in
    let by_key = c.in-Err.ensures.position (λ (e : Entry). e.pos) (answers_always _ _ _ (λ f a r g called. search rules)) in
    searched_none row (AllPairs-from_increasing (map (λ e. e.pos) row) c.requires) c.args.pos c.in-Err.field-0 c.in-Err.ensures.bound by_key
