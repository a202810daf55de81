use Rattle.std.proofs.Common.{◌≡◌, ◌+◌, ◌*◌, ◌/◌, ◌<◌, ℕ, IfOk, Vec, Global, length, map, get_or, refl, subst, rules, arith}
use Rattle.std.proofs.Math.Nat.{lt-div-mul-add}
use Rattle.std.proofs.lemmas.Result.{IfOk-weaker}
use Rattle.hub_query.specs.Meant.{meant}
use Rattle.hub_query.specs.Parts.{AreJoined}
use Rattle.chl_lines.specs.PrintedAnswers.{answer_lines, part_lines}
use Rattle.chl_lines.proofs.AnswerParts.{answers_cut}
use Rattle.chl_lines.proofs.PartLines.{lines_of_parts}
use Rattle.chl_lines.proofs.printed.answer_lines.Goals as goal

pub returns : goal.returns
returns g c =
    let pairs = c.args.pairs.now in
    let answers = map meant c.args.answers.now in
    let parts = c.in_ok-parts.parts.items in
    let count : length c.in_ok-parts.parts.items ≡ length c.args.pairs.now / 65536 + 1 = search rules in
    let reach : length c.args.pairs.now < length c.args.pairs.now / 65536 * 65536 + 65536 = lt-div-mul-add (omega arith) in
    IfOk-weaker c.join_texts.result (λ text. AreJoined (λ (part : Vec ℕ Global). part.items) parts text.items) (λ text. text.items ≡ answer_lines pairs answers)
    (λ text joined.
    lines_of_parts 65536 (λ k. k * 65536) (λ k. omega arith) answer_lines (λ ys. refl) answers_cut (λ (part : Vec ℕ Global). part.items) pairs answers parts text.items (omega arith)
    (λ i d lt.
    let made = (c.in_ok-parts.ensures.each i d (omega (arith, lt, count))).1.met in
    let same : i ≡ 0 + i = omega arith in
    subst (λ k. IfOk (get_or c.in_ok-parts.parts.items i d) (λ text. text.items ≡ part_lines c.args.pairs.now (map meant c.args.answers.now) k)) same made)
    joined (omega (arith, count, reach)))
    c.join_texts.ensures
