use Rattle.std.proofs.Common.{◌≡◌, ◌-◌, take, length, List, sym, ap, subst, ◌∙◌}
use Rattle.hub_index.specs.declared.node_entry.NodeEntry.{NodeEntry}
use Rattle.hub_index.specs.Views.{IsNode}
use Rattle.hub_index.proofs.RowsGathered.{put-done}
use Rattle.pool_view.specs.Putting.{AreKept, Putting}
use Rattle.pool_view.proofs.PutRows.{AreKept-more, AreKept-same, if-failed, unlisted}
use Rattle.pool_view.proofs.puts.Puts.chain.Goals as goal

pub invariant_of-self-then-is_err : goal.invariant_of-self-then-is_err
invariant_of-self-then-is_err c =
    let kept = c.self.inside.kept.items in
    let x : NodeEntry = record { node = c.args.v; pos = c.args.pos; dist = c.args.dist } in
    let back : c.pop.new.self.items ≡ kept =
    c.pop.ensures.rest ∙ ap (λ n. take (n - 1) c.push.new.self.items) c.push.new.self.ok.0 ∙ ap (λ (xs : List NodeEntry). take (length xs - 1) xs) c.in_ok-push.ensures.items ∙ unlisted kept x in
    let refused = if-failed c.put.result _ (sym c.is_err.ensures.value ∙ c.if-is_err.true) c.put.ensures.err in
    subst (λ (xs : List NodeEntry). AreKept xs c.put.new.self) (sym back) (AreKept-same kept c.self.inside.chains c.put.new.self c.self.invariant refused.0 refused.1)

pub invariant_of-self-else-is_err : goal.invariant_of-self-else-is_err
invariant_of-self-else-is_err c =
    let kept = c.self.inside.kept.items in
    let x : NodeEntry = record { node = c.args.v; pos = c.args.pos; dist = c.args.dist } in
    let node : IsNode (length c.self.inside.chains.heads.items) c.args.v = subst (λ (w : Putting). IsNode w.n c.args.v) (sym c.self.view_is) c.requires.node in
    let put = put-done c.put.result _ (sym c.is_err.ensures.value ∙ c.if-is_err.false) c.put.ensures.put in
    subst (λ es. AreKept es c.put.new.self) (sym c.in_ok-push.ensures.items) (AreKept-more kept x c.self.inside.chains c.put.new.self c.self.invariant node c.put.ensures.size put)
