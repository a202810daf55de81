use Rattle.std.proofs.Common.{◌≡◌, ◌+◌, ◌*◌, ◌/◌, ◌<◌, ℕ, IfOk, Vec, Global, length, get_or, refl, subst, rules, arith}
use Rattle.std.proofs.Math.Nat.{lt-div-mul-add}
use Rattle.std.proofs.lemmas.Result.{IfOk-weaker}
use Rattle.hub_query.specs.Parts.{AreJoined}
use Rattle.chl_lines.specs.PrintedHits.{near_lines, near_part_lines}
use Rattle.chl_lines.proofs.HitParts.{hits_cut}
use Rattle.chl_lines.proofs.PartLines.{lines_of_parts}
use Rattle.chl_lines.proofs.near.near_lines.Goals as goal

pub returns : goal.returns
returns g c =
    let sources = c.args.sources.now in
    let hits = c.args.hits.now in
    let parts = c.in_ok-parts.parts.items in
    let count : length c.in_ok-parts.parts.items ≡ length c.args.sources.now / 1024 + 1 = search rules in
    let reach : length c.args.sources.now < length c.args.sources.now / 1024 * 1024 + 1024 = lt-div-mul-add (omega arith) in
    IfOk-weaker c.join_texts.result (λ text. AreJoined (λ (part : Vec ℕ Global). part.items) parts text.items) (λ text. text.items ≡ near_lines sources hits)
    (λ text joined.
    lines_of_parts 1024 (λ k. k * 1024) (λ k. omega arith) near_lines (λ ys. refl) hits_cut (λ (part : Vec ℕ Global). part.items) sources hits parts text.items (omega arith)
    (λ i d lt.
    let made = (c.in_ok-parts.ensures.each i d (omega (arith, lt, count))).1.met in
    let same : i ≡ 0 + i = omega arith in
    subst (λ k. IfOk (get_or c.in_ok-parts.parts.items i d) (λ text. text.items ≡ near_part_lines c.args.sources.now c.args.hits.now k)) same made)
    joined (omega (arith, count, reach)))
    c.join_texts.ensures
