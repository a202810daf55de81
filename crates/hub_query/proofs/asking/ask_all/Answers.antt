use Rattle.std.specs.Prelude.{Result, IfOk}
use Rattle.std.specs.declared.alloc.AllocError.{AllocError}
use Rattle.std.specs.List.{AllZip}
use Rattle.std.proofs.Common.{ℕ, ◌≤◌, List, All, length, max, subst, sym, ◌∙◌, arith}
use Rattle.std.proofs.lemmas.Result.{IfOk-weaker}
use Rattle.rayon.specs.Lists.{chunks_of}
use Rattle.rayon.proofs.ToStd.{slice-AllZip, chunks_of-All, chunks_of-concat}
use Rattle.hub_query.specs.declared.answer.Answer.{Answer}
use Rattle.hub_query.specs.Parts.{AreJoined}
use Rattle.hub_query.specs.Meant.{IsMeetOf}
use Rattle.hub_query.proofs.Placed.{AllZip-joined, chunks_of-each}
use Rattle.hub_query.proofs.asking.ask_all.Goals as goal

pub collect-requires-clause-ready : goal.collect-requires-clause-ready
collect-requires-clause-ready g c =
    let pairs = c.args.pairs.now in
    let size = max c.part_len.result 1 in
    let IsPair : ℕ × ℕ → Type 0 = λ p. (1 ≤ p.0) × (p.0 ≤ length c.args.index.now.order) × (1 ≤ p.1) × (p.1 ≤ length c.args.index.now.order) in
    let few = chunks_of-All size pairs (omega arith) in
    let nodes = chunks_of-each IsPair size pairs c.requires in
    rw (c.map.ensures.base, c.map.ensures.f, c.par_chunks.ensures.size, c.par_chunks.ensures.slice, c.list-pairs.ensures) (λ κs outlive k d lt x is.
    (subst (λ (part : List (ℕ × ℕ)). (length part ≤ 262144) × All IsPair part) (sym is) (omega (arith, (few k d lt).1, c.part_len.ensures.some, c.part_len.ensures.most), nodes k d lt), λ y p. tt))

pub returns : goal.returns
returns g c =
    let pairs = c.args.pairs.now in
    let size = max c.part_len.result 1 in
    let Right = IsMeetOf c.args.index.now in
    let gathered = c.in_ok-parts.ensures in
    let chain = rw (c.map.ensures.base, c.map.ensures.f) at gathered.1 in
    let slice = c.par_chunks.ensures.slice ∙ c.list-pairs.ensures in
    let shown = chain.1 ∙ (λ i. chunks_of (max (c.par_chunks.ensures.size i) 1) (slice i)) in
    let Told = λ (part : List (ℕ × ℕ)) (told : Result (List Answer) AllocError). IfOk told (λ answers. AllZip Right part answers) in
    let zipped = slice-AllZip chain.0 (chunks_of size pairs) shown Told gathered.0 chain.2 in
    IfOk-weaker c.join_parts.result (AreJoined (λ (part : List Answer). part) c.in_ok-parts.parts.items) (λ answers. AllZip Right pairs answers)
    (λ answers joined.
    subst (λ ps. AllZip Right ps answers) (chunks_of-concat size pairs (omega arith))
    (AllZip-joined Right (chunks_of size pairs) c.in_ok-parts.parts.items answers (subst (AllZip Told (chunks_of size pairs)) (sym gathered.2) zipped) joined))
    c.join_parts.ensures
