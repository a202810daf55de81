use Rattle.std.proofs.Common.{◌++◌, ◌∙◌, sym, ap, get_or, arith}
use Rattle.std.specs.Prelude.{slice_range}
use Rattle.chl_lines.specs.PrintedHits.{near_line, near_lines}
use Rattle.chl_lines.proofs.HitParts.{lines_up_to, no_lines_yet}
use Rattle.chl_lines.proofs.near.lines_between.Goals as goal

pub loop-i-init : goal.loop-i-init
loop-i-init c = rw c.new-text.ensures.items (sym (no_lines_yet c.args.sources.now c.args.hits.now c.args.begin))

pub loop-i-preserved : goal.loop-i-preserved
loop-i-preserved c =
    let sources = c.args.sources.now in
    let hits = c.args.hits.now in
    let i = c.loop-i.i in
    let line = ap (λ own. near_line (get_or sources i 0) own) c.of.ensures in
    c.in_ok-print_hits.ensures
    ∙ ap (λ text. text ++ near_line (get_or sources i 0) c.of.result.now) c.loop-i.invariant
    ∙ ap (λ text. near_lines (slice_range sources c.args.begin i) (slice_range hits c.args.begin i) ++ text) line
    ∙ sym (lines_up_to sources hits c.args.begin i c.requires.same c.loop-i.auto.i (omega (arith, c.loop-i-test.true, c.requires.within)))
