use Rattle.std.proofs.Common.{◌≡◌, ◌∙◌, ap, sym, ap₂, ℕ, ◌+◌, ◌<◌, List, ◌++◌, length, drop, get_or, append_assoc, arith}
use Rattle.std.proofs.lemmas.List.{drop_more}
use Rattle.via_trace.specs.declared.trace_answer.Trace.{Trace}
use Rattle.chl_lines.specs.PrintedWalks.{trace_line, trace_lines}
use Rattle.chl_lines.proofs.printed.trace_lines.Goals as goal

one_line_more : (pairs : List (ℕ × ℕ)) (traces : List Trace) (i : ℕ) (d : ℕ × ℕ) (w : Trace) (before after whole : List ℕ) → i < length pairs → i < length traces → before ++ trace_lines (drop i pairs) (drop i traces) ≡ whole → after ≡ before ++ trace_line (get_or pairs i d) (get_or traces i w) → after ++ trace_lines (drop (i + 1) pairs) (drop (i + 1) traces) ≡ whole
one_line_more pairs traces i d w before after whole lt other_lt so_far is =
    ap (λ l. l ++ trace_lines (drop (i + 1) pairs) (drop (i + 1) traces)) is
    ∙ append_assoc before (trace_line (get_or pairs i d) (get_or traces i w)) (trace_lines (drop (i + 1) pairs) (drop (i + 1) traces))
    ∙ ap (λ l. before ++ l) (sym (ap₂ trace_lines (drop_more pairs i d lt) (drop_more traces i w other_lt)))
    ∙ so_far

pub loop-i-preserved : goal.loop-i-preserved
loop-i-preserved c =
    let pair = get_or c.args.pairs.now c.loop-i.i (0, 0) in
    one_line_more c.args.pairs.now c.args.traces.now c.loop-i.i (0, 0) c.index-traces-i.result c.loop-i.text.items c.print_trace.new.text.items _ c.loop-i-test.true (omega (arith, c.requires)) c.loop-i.invariant
    (c.in_ok-print_trace.ensures ∙ ap (λ w. c.loop-i.text.items ++ trace_line pair w) c.index-traces-i.is)
