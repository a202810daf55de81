use Rattle.std.proofs.lemmas.Result.{IfOk-weaker}
use Rattle.chl_outputs.proofs.commands.degree.nodes_text.Goals as goal

pub returns : goal.returns
returns c = IfOk-weaker c.order_lines.result _ _ (λ text is. (c.in_ok-ranking.ranking, c.in_ok-ranking.ensures, is)) c.order_lines.ensures
