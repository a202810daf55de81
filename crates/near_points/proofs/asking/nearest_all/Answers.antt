use Rattle.std.specs.Prelude.{Result, IfOk}
use Rattle.std.specs.declared.alloc.AllocError.{AllocError}
use Rattle.std.specs.List.{AllZip}
use Rattle.std.proofs.Common.{◌≡◌, ℕ, ◌≤◌, List, All, length, max, subst, sym, ◌∙◌, arith}
use Rattle.std.proofs.lemmas.Result.{IfOk-weaker}
use Rattle.rayon.specs.Lists.{chunks_of}
use Rattle.rayon.proofs.ToStd.{slice-AllZip, chunks_of-concat}
use Rattle.hub_query.specs.Parts.{AreJoined}
use Rattle.hub_query.proofs.Placed.{chunks_of-each}
use Rattle.near_points.specs.declared.hit.Hit.{Hit}
use Rattle.near_points.specs.PointSets.{IsNearestOf}
use Rattle.near_points.proofs.ZippedParts.{AllZip-of_parts}
use Rattle.near_points.proofs.asking.nearest_all.Goals as goal

pub collect-requires-clause-ready : goal.collect-requires-clause-ready
collect-requires-clause-ready g c =
    let sources = c.args.sources.now in
    let size = max c.part_len.result 1 in
    let IsSource : ℕ → Type 0 = λ s. (1 ≤ s) × (s ≤ length c.args.index.now.order) in
    let nodes = chunks_of-each IsSource size sources c.requires.sources in
    rw (c.map.ensures.base, c.map.ensures.f, c.par_chunks.ensures.size, c.par_chunks.ensures.slice) (λ κs outlive k d lt x is.
    (subst (λ (part : List ℕ). (c.args.points.now.index ≡ c.args.index.now) × All IsSource part) (sym is) (c.requires.index, nodes k d lt), λ y p. tt))

pub returns : goal.returns
returns g c =
    let sources = c.args.sources.now in
    let size = max c.part_len.result 1 in
    let Right = IsNearestOf c.args.points.now c.args.k in
    let gathered = c.in_ok-parts.ensures in
    let chain = rw (c.map.ensures.base, c.map.ensures.f) at gathered.1 in
    let shown = chain.1 ∙ (λ i. chunks_of (max (c.par_chunks.ensures.size i) 1) (c.par_chunks.ensures.slice i)) in
    let Told = λ (part : List ℕ) (told : Result (List (List Hit)) AllocError). IfOk told (λ hits. AllZip Right part hits) in
    let zipped = slice-AllZip chain.0 (chunks_of size sources) shown Told gathered.0 chain.2 in
    record {
      nearest = IfOk-weaker c.join_parts.result (AreJoined (λ (part : List (List Hit)). part) c.in_ok-parts.parts.items) (λ hits. AllZip Right sources hits)
          (λ hits joined.
          subst (λ ss. AllZip Right ss hits) (chunks_of-concat size sources (omega arith))
          (AllZip-of_parts Right (chunks_of size sources) c.in_ok-parts.parts.items hits (subst (AllZip Told (chunks_of size sources)) (sym gathered.2) zipped) joined))
          c.join_parts.ensures;
    }
