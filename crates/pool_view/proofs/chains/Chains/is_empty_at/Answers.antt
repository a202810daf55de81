use Rattle.std.proofs.Common.{◌≡◌, ◌↔◌, ◌-◌, true, nat_eq, [], subst, sym, arith}
use Rattle.std.proofs.lemmas.List.{get_or_read}
use Rattle.hub_index.specs.NodeEntries.{entries_of_node}
use Rattle.pool_view.proofs.Chained.{head_tells}
use Rattle.pool_view.proofs.chains.Chains.is_empty_at.Goals as goal

pub returns : goal.returns
returns c entries chained =
    let chains = c.args.self.now in
    let head = get_or_read chains.heads.items (c.args.v - 1) c.index.result.now (omega (arith, c.requires.from_one, c.requires.up_to_n)) c.index.ensures 0 in
    subst (λ k. nat_eq k 0 ≡ true ↔ (entries_of_node entries c.args.v ≡ [])) (sym head) (head_tells entries chains chained c.args.v c.requires)
