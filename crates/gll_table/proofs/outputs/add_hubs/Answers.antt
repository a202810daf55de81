use Rattle.std.proofs.Common.{◌≡◌, sym, subst, arith}
use Rattle.gll_table.specs.Partition.{ListsHubs, hub_entries}
use Rattle.gll_table.specs.Outputs.{Output}
use Rattle.gll_table.proofs.OutputHubs.{ListsHubs-listed}
use Rattle.gll_table.proofs.outputs.add_hubs.Goals as goal

pub returns-then-output-next : goal.returns-then-output-next
returns-then-output-next g c =
    let listed : c.as_slice.result.now ≡ hub_entries g.B.Build.order c.args.next c.output.inside.workspace.list.items =
    subst (λ es. c.as_slice.result.now ≡ hub_entries g.B.Build.order c.args.next es) c.deref.ensures.value
    (subst (λ os. c.as_slice.result.now ≡ hub_entries os c.args.next c.deref.result.now) c.args.context.now.order
    (subst (λ hs. hs ≡ hub_entries c.args.context.now.ranking.now c.args.next c.deref.result.now) (sym c.as_slice.ensures.value) c.in_ok-list_hubs.ensures)) in (
      c.as_slice.result.now,
      c.in_ok-extend_from_slice.ensures.items,
      subst (λ (s : Output). ListsHubs g.B.Build.order c.args.next s.list c.as_slice.result.now) c.output.view_is
          (subst (ListsHubs g.B.Build.order c.args.next c.output.inside.workspace.list.items) (sym listed) (ListsHubs-listed g.B.Build.order c.args.next c.args.next c.output.inside.workspace.list.items c.requires (omega arith) c.output.invariant.put.nodes)),
    )

pub returns : goal.returns
returns g c =
    let listed : c.deref-2.result.now ≡ hub_entries g.B.Build.order c.output.inside.far c.output.inside.workspace.list.items = subst (λ hs. hs ≡ hub_entries g.B.Build.order c.output.inside.far c.output.inside.workspace.list.items) (sym c.deref-2.ensures.value) c.output.invariant.are_hubs in (
      c.deref-2.result.now,
      c.in_ok-extend_from_slice-2.ensures.items,
      subst (λ (s : Output). ListsHubs g.B.Build.order c.args.next s.list c.deref-2.result.now) c.output.view_is
          (subst (ListsHubs g.B.Build.order c.args.next c.output.inside.workspace.list.items) (sym listed) (ListsHubs-listed g.B.Build.order c.args.next c.output.inside.far c.output.inside.workspace.list.items c.requires c.if-output-next.false c.output.invariant.put.nodes)),
    )
