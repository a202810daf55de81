use Rattle.std.proofs.Common.{◌^◌, ◌<◌, sym, ◌∙◌, arith}
use Rattle.dimacs_text.proofs.ArcFacts.{arc_taken}
use Rattle.dimacs_text.proofs.arcs.edge_of.Goals as goal

pub returns : goal.returns
returns c = λ values is.
    let low : c.args.n < 2 ^ 64 = omega arith in
    arc_taken c.args.n values c.args.numbers.now low is c.requires (sym c.is_outside_of.ensures ∙ c.if-is_outside_of.false) (sym c.is_outside_of-else-is_outside_of.ensures ∙ c.if-is_outside_of-2.false) c.if-w-eq0.false c.if-w-gt-GREATEST.false
