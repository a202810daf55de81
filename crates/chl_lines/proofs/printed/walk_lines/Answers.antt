use Rattle.std.proofs.Common.{◌≡◌, ◌∙◌, ap, sym, ap₂, ℕ, ◌+◌, ◌<◌, List, ◌++◌, length, drop, get_or, append_assoc, arith}
use Rattle.std.proofs.lemmas.List.{drop_more}
use Rattle.hub_query.specs.declared.path_answer.Path.{Path}
use Rattle.chl_lines.specs.PrintedWalks.{walk_line, walk_lines}
use Rattle.chl_lines.proofs.printed.walk_lines.Goals as goal

one_line_more : (pairs : List (ℕ × ℕ)) (walks : List Path) (i : ℕ) (d : ℕ × ℕ) (w : Path) (before after whole : List ℕ) → i < length pairs → i < length walks → before ++ walk_lines (drop i pairs) (drop i walks) ≡ whole → after ≡ before ++ walk_line (get_or pairs i d) (get_or walks i w) → after ++ walk_lines (drop (i + 1) pairs) (drop (i + 1) walks) ≡ whole
one_line_more pairs walks i d w before after whole lt other_lt so_far is =
    ap (λ l. l ++ walk_lines (drop (i + 1) pairs) (drop (i + 1) walks)) is
    ∙ append_assoc before (walk_line (get_or pairs i d) (get_or walks i w)) (walk_lines (drop (i + 1) pairs) (drop (i + 1) walks))
    ∙ ap (λ l. before ++ l) (sym (ap₂ walk_lines (drop_more pairs i d lt) (drop_more walks i w other_lt)))
    ∙ so_far

pub loop-i-preserved : goal.loop-i-preserved
loop-i-preserved c =
    let pair = get_or c.args.pairs.now c.loop-i.i (0, 0) in
    one_line_more c.args.pairs.now c.args.walks.now c.loop-i.i (0, 0) c.index-walks-i.result c.loop-i.text.items c.print_path.new.text.items _ c.loop-i-test.true (omega (arith, c.requires)) c.loop-i.invariant
    (c.in_ok-print_path.ensures ∙ ap (λ w. c.loop-i.text.items ++ walk_line pair w) c.index-walks-i.is)
