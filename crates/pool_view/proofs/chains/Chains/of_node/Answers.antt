use Rattle.std.proofs.Common.{◌-◌, length, reverse, sym, subst, ap, arith}
use Rattle.std.proofs.lemmas.List.{get_or_read}
use Rattle.hub_index.specs.NodeEntries.{entries_of_node}
use Rattle.pool_view.specs.Links.{IsChain}
use Rattle.pool_view.proofs.Chained.{whole_chain}
use Rattle.pool_view.proofs.Linked.{IsChain-from, chain_from_head}
use Rattle.pool_view.proofs.chains.Chains.of_node.Goals as goal
use Rattle.pool_view.proofs.chains.Chains.of_node.Goals.{After-index}

-- where the chain begins
begins : (c : After-index) → IsChain c.args.entries.now c.as_slice.result.now c.index.result.now (reverse (entries_of_node c.args.entries.now c.args.v))
begins c =
    let chains = c.args.self.now in
    let head = get_or_read chains.heads.items (c.args.v - 1) c.index.result.now (omega (arith, c.requires.node.from_one, c.requires.node.up_to_n)) c.index.ensures 0 in
    subst (λ ns. IsChain c.args.entries.now ns c.index.result.now (reverse (entries_of_node c.args.entries.now c.args.v))) (sym c.as_slice.ensures.value)
    (subst (λ k. IsChain c.args.entries.now chains.nexts.items k (reverse (entries_of_node c.args.entries.now c.args.v))) (sym head) (whole_chain c.args.entries.now chains c.requires.chained c.args.v c.requires.node))

pub invariant_of-result : goal.invariant_of-result
invariant_of-result c = (
  omega (arith, ap length c.as_slice.ensures.value, c.requires.chained.count),
  IsChain-from c.args.entries.now c.as_slice.result.now c.index.result.now _ (begins (goal.at.invariant_of-result c).After-index),
)

pub returns : goal.returns
returns c = chain_from_head c.args.entries.now c.as_slice.result.now c.index.result.now _ (begins (goal.at.returns c).After-index)
