use Rattle.std.proofs.Common.{subst}
use Rattle.walk_laws.specs.Labelling.{label_row}
use Rattle.hub_index.specs.Views.{IsAnswerOf}
use Rattle.hub_index.proofs.plain_rows.PlainRowsRowView.offer.Goals as goal

pub returns-clause-answer : goal.returns-clause-answer
returns-clause-answer c = subst (λ g. IsAnswerOf c.args.table.now (label_row g.rows c.args.v) c.args.entry c.offer.result) c.self.view_is c.offer.ensures.answer
