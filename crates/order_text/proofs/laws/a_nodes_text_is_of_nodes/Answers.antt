use Rattle.order_text.proofs.OrderNodes.{texts_faults, texts_of_nodes}
use Rattle.order_text.proofs.laws.a_nodes_text_is_of_nodes.Goals as goal

pub returns : goal.returns
returns c = (texts_of_nodes, texts_faults)
