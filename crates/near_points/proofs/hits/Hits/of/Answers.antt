use Rattle.std.proofs.Common.{◌≡◌, ◌<◌, ◌∷◌, ◌∙◌, ℕ, List, sym, ap, ap₂, length, get_or, arith}
use Rattle.std.specs.Prelude.{slice_range}
use Rattle.std.proofs.lemmas.List.{get_or_default}
use Rattle.near_points.specs.declared.hit.Hit.{Hit}
use Rattle.near_points.specs.HitLists.{lists_from}
use Rattle.near_points.proofs.HitLists.{length-lists, lists_at, ends_rise}
use Rattle.near_points.proofs.hits.Hits.of.Goals as goal

within : (hits : List Hit) (ends : List ℕ) (all : List (List Hit)) (source : ℕ) → lists_from 0 hits ends ≡ all → source < length all → source < length ends
within hits ends all source is inside = let long = length-lists 0 hits ends in omega (arith, long, ap length is, inside)

pub begin_of-requires : goal.begin_of-requires
begin_of-requires c =
    let inside = within c.self.inside.hits.items c.self.inside.ends.items c.args.self.now c.args.source c.self.view_is c.requires in
    omega (arith, inside, ap length c.deref-2.ensures.value)

pub index-requires : goal.index-requires
index-requires c =
    let inside = within c.self.inside.hits.items c.self.inside.ends.items c.args.self.now c.args.source c.self.view_is c.requires in
    omega (arith, inside, ap length c.deref-2.ensures.value, c.deref-2.ensures.len)

pub part-requires : goal.part-requires
part-requires c =
    let ends = c.self.inside.ends.items in
    let inside = within c.self.inside.hits.items ends c.args.self.now c.args.source c.self.view_is c.requires in
    let rise = ends_rise 0 ends (length c.self.inside.hits.items) c.args.source c.self.invariant inside in
    let begin : c.begin_of.result ≡ get_or (0 ∷ ends) c.args.source 0 = c.begin_of.ensures ∙ ap (λ (es : List ℕ). get_or (0 ∷ es) c.args.source 0) c.deref-2.ensures.value in
    let end : c.index.result.now ≡ get_or ends c.args.source 0 = c.index.ensures ∙ get_or_default ends c.args.source c.index.result.now 0 inside in
    record {
      rises = omega (arith, rise.0, begin, end);
      within = omega (arith, rise.1, end, ap length c.deref.ensures.value);
    }

pub returns : goal.returns
returns c =
    let ends = c.self.inside.ends.items in
    let hits = c.self.inside.hits.items in
    let inside = within hits ends c.args.self.now c.args.source c.self.view_is c.requires in
    let begin : c.begin_of.result ≡ get_or (0 ∷ ends) c.args.source 0 = c.begin_of.ensures ∙ ap (λ (es : List ℕ). get_or (0 ∷ es) c.args.source 0) c.deref-2.ensures.value in
    let end : c.index.result.now ≡ get_or ends c.args.source 0 = c.index.ensures ∙ get_or_default ends c.args.source c.index.result.now 0 inside in
    rw (← c.self.view_is)
    (c.part.ensures
    ∙ ap (λ (hs : List Hit). slice_range hs c.begin_of.result c.index.result.now) c.deref.ensures.value
    ∙ ap₂ (slice_range hits) begin end
    ∙ sym (lists_at 0 hits ends c.args.source inside))
