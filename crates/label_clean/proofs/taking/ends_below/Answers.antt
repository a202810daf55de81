use Rattle.std.proofs.Common.{◌∙◌, sym, lt-ltb, ltb-true}
use Rattle.walk_laws.specs.Labelling.{label_row}
use Rattle.label_clean.proofs.RowEnds.{EndsBelow-first}
use Rattle.label_clean.proofs.taking.ends_below.Goals as goal

pub returns-in-Some : goal.returns-in-Some
returns-in-Some c =
    let ends = EndsBelow-first c.args.pos (label_row c.args.rows.now c.args.v) c.in-Some.last _ (sym c.from_last.ensures ∙ c.in-Some.ensures.steps) in
    (λ below. ends.0 (ltb-true c.in-Some.last.pos c.args.pos below), λ e. lt-ltb c.in-Some.last.pos c.args.pos (ends.1 e))
