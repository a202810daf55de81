use Rattle.std.proofs.Common.{◌≡◌, ◌∙◌, ap, sym, ℕ, ◌+◌, ◌<◌, List, [], ◌∷◌, ◌++◌, length, get_or, take, Some, append-nil, arith}
use Rattle.std.specs.Prelude.{slice_get}
use Rattle.std.proofs.lemmas.Grind.{flat_map-append}
use Rattle.std.proofs.lemmas.List.{take_more}
use Rattle.std.proofs.lemmas.Option.{slice_get-get_or}
use Rattle.chl_lines.specs.PrintedOrders.{node_line, order_lines}
use Rattle.chl_lines.proofs.printed.order_lines.Goals as goal

same_node : (a b : ℕ) → Some a ≡ Some b → a ≡ b
same_node a b is = cc

one_line_more : (at : List ℕ) (p v : ℕ) (before after : List ℕ) → p < length at → slice_get at p ≡ Some v → before ≡ order_lines (take p at) → after ≡ before ++ node_line v → after ≡ order_lines (take (p + 1) at)
one_line_more at p v before after lt node so_far is =
    let at_p : get_or at p v ≡ v = same_node (get_or at p v) v (sym (slice_get-get_or at p v lt) ∙ node) in
    is ∙ ap (λ l. l ++ node_line v) so_far
    ∙ sym (ap order_lines (take_more at p v lt) ∙ flat_map-append node_line (take p at) (get_or at p v ∷ []) ∙ ap (λ x. order_lines (take p at) ++ (node_line x ++ [])) at_p ∙ ap (λ l. order_lines (take p at) ++ l) (append-nil (node_line v)))

pub loop-p-preserved : goal.loop-p-preserved
loop-p-preserved c =
    one_line_more c.args.ranking.now c.loop-p.p c.at.result c.loop-p.text.items c.print_node.new.text.items (omega (arith, c.n-p-end.ensures.value)) c.at.ensures.value c.loop-p.invariant c.in_ok-print_node.ensures
