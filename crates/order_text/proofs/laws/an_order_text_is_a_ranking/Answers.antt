use Rattle.order_text.proofs.OrderNodes.{orders_rank}
use Rattle.order_text.proofs.laws.an_order_text_is_a_ranking.Goals as goal

pub returns : goal.returns
returns c = orders_rank
