use Rattle.std.proofs.Common.{◌≡◌, ◌-◌, inl, length, take, refl, sym, ap, subst, ◌∙◌}
use Rattle.std.specs.Prelude.{OnOk, OnErr, Some, All}
use Rattle.walk_laws.specs.Labelling.{label_row}
use Rattle.hub_index.specs.declared.node_entry.NodeEntry.{NodeEntry}
use Rattle.hub_index.specs.Views.{IsNode}
use Rattle.label_pool.specs.Seats.{Seated}
use Rattle.pool_view.specs.Fitting.{Fitting, order_of}
use Rattle.pool_view.specs.Putting.{Putting, IsPooledBy}
use Rattle.pool_view.specs.Viewing.{Viewing, HasGained, IsForOwn, IsViewing, fact_of}
use Rattle.pool_view.proofs.KeptViews.{stays_open}
use Rattle.pool_view.proofs.PutRows.{unlisted}
use Rattle.pool_view.proofs.PutViews.{gained-kept, is_node, keeping, nodes-kept, opened-kept, own_is, pooled-kept, pooled-more, view_of, viewing-kept, viewing-pooled}
use Rattle.pool_view.proofs.view.PoolView.put.Goals as goal

pub keep-requires : goal.keep-requires
keep-requires g c =
    let node = subst (λ (w : Viewing). IsNode (length (order_of w.seat.pool.fact)) c.args.v) (sym c.self.view_is) c.requires.node in
    record { node = is_node c.self.inside.seat c.self.inside.global c.self.inside.puts c.self.invariant.1 c.self.invariant.4 c.args.v node }

pub invariant_of-self : goal.invariant_of-self
invariant_of-self g c =
    let seat = c.self.inside.seat in
    let global = c.self.inside.global in
    let puts = c.self.inside.puts in
    let node = subst (λ (w : Viewing). IsNode (length (order_of w.seat.pool.fact)) c.args.v) (sym c.self.view_is) c.requires.node in
    let fits = subst (λ w. fact_of w c.args.v c.args.entry) (sym c.self.view_is) c.requires.fits in
    let for_own = subst (λ (w : Viewing). IsForOwn w c.args.v c.args.entry.dist w.seat.past) (sym c.self.view_is) (c.if-not-is_for_pool.ensures.no refl) in
    let r = c.keep.result in
    let new = c.keep.new.self in
    let ok = c.keep.ensures.ok in
    let err = c.keep.ensures.err in (
      c.self.invariant.0,
      viewing-kept seat global puts c.self.invariant.1 c.self.invariant.4 c.args.v c.args.entry node fits r new ok err seat seat.past refl,
      opened-kept seat global puts c.self.invariant.1 c.self.invariant.4 c.args.v c.args.entry node fits r new ok err c.self.inside.past for_own c.self.invariant.2,
      pooled-kept seat seat puts new c.args.v c.args.entry r ok err refl c.self.invariant.3,
      nodes-kept seat global puts c.self.invariant.1 c.self.invariant.4 c.args.v c.args.entry node fits r new ok err,
    )

pub returns-then-not-is_for_pool-clause-ok : goal.returns-then-not-is_for_pool-clause-ok
returns-then-not-is_for_pool-clause-ok g c =
    let seat = c.self.inside.seat in
    let global = c.self.inside.global in
    let puts = c.self.inside.puts in
    let node = subst (λ (w : Viewing). IsNode (length (order_of w.seat.pool.fact)) c.args.v) (sym c.self.view_is) c.requires.node in
    let fits = subst (λ w. fact_of w c.args.v c.args.entry) (sym c.self.view_is) c.requires.fits in
    let for_own = subst (λ (w : Viewing). IsForOwn w c.args.v c.args.entry.dist w.seat.past) (sym c.self.view_is) (c.if-not-is_for_pool.ensures.no refl) in
    subst (λ w. OnOk c.keep.result (HasGained w c.args.v c.args.entry (view_of seat global c.keep.new.self))) c.self.view_is
    (gained-kept seat global puts c.self.invariant.1 c.self.invariant.4 c.args.v c.args.entry node fits c.keep.result c.keep.new.self c.keep.ensures.ok seat seat.past refl for_own)

pub invariant_of-self-in-Put : goal.invariant_of-self-in-Put
invariant_of-self-in-Put g c =
    let seat = c.self.inside.seat in
    let global = c.self.inside.global in
    let puts = c.self.inside.puts in
    let node = subst (λ (w : Viewing). IsNode (length (order_of w.seat.pool.fact)) c.args.v) (sym c.self.view_is) c.requires.node in
    let fits = subst (λ w. fact_of w c.args.v c.args.entry) (sym c.self.view_is) c.requires.fits in
    let none = sym (own_is seat global puts c.self.invariant.1 c.self.invariant.4 c.args.v node) ∙ ap (λ (w : Viewing). label_row w.own c.args.v) c.self.view_is ∙ (c.if-not-is_for_pool.ensures.yes refl).2 in
    let p = c.in-Put.ensures.put in (
      ap (λ (s : Seated Fitting). s.pool) p.after_is ∙ c.self.invariant.0,
      subst (λ w. IsViewing (view_of c.put.new.seat global w)) (sym c.in_ok-list.ensures.ok) (viewing-pooled seat global puts c.self.invariant.1 c.self.invariant.4 c.args.v c.args.entry node fits c.put.new.seat p),
      stays_open c.self.inside.past seat c.put.new.seat puts c.list.new.self (ap (λ (s : Seated Fitting). s.past) p.after_is) (ap (λ (w : Putting). w.kept) c.in_ok-list.ensures.ok) c.self.invariant.2,
      subst (IsPooledBy c.put.new.seat) (sym c.in_ok-list.ensures.ok) (pooled-more seat c.put.new.seat puts c.args.v c.args.entry p none c.self.invariant.3),
      subst (λ (w : Putting). All (λ (e : NodeEntry). IsNode w.n e.node) w.kept) (sym c.in_ok-list.ensures.ok) c.self.invariant.4,
    )

pub keep-requires-in-Full : goal.keep-requires-in-Full
keep-requires-in-Full g c =
    let node = subst (λ (w : Viewing). IsNode (length (order_of w.seat.pool.fact)) c.args.v) (sym c.self.view_is) c.requires.node in
    let same = ap (λ (w : Putting). w.n) c.unlist.ensures ∙ ap (λ (w : Putting). w.n) c.in_ok-list.ensures.ok in
    record { node = subst (λ n. IsNode n c.args.v) (sym same) (is_node c.self.inside.seat c.self.inside.global c.self.inside.puts c.self.invariant.1 c.self.invariant.4 c.args.v node) }

pub invariant_of-self-in-Full : goal.invariant_of-self-in-Full
invariant_of-self-in-Full g c =
    let seat = c.self.inside.seat in
    let global = c.self.inside.global in
    let puts = c.self.inside.puts in
    let x : NodeEntry = record { node = c.args.v; pos = c.args.entry.pos; dist = c.args.entry.dist } in
    let node = subst (λ (w : Viewing). IsNode (length (order_of w.seat.pool.fact)) c.args.v) (sym c.self.view_is) c.requires.node in
    let fits = subst (λ w. fact_of w c.args.v c.args.entry) (sym c.self.view_is) c.requires.fits in
    let back : c.unlist.new.self ≡ puts =
    c.unlist.ensures ∙ ap (λ (w : Putting). record w { list = take (length w.list - 1) w.list }) c.in_ok-list.ensures.ok ∙ ap (λ list. record puts { list = list }) (unlisted puts.list x) in
    let r = c.keep-in-Full.result in
    let new = c.keep-in-Full.new.self in
    let ok : OnOk r (new ≡ keeping puts c.args.v c.args.entry) = subst (λ w. OnOk r (new ≡ keeping w c.args.v c.args.entry)) back c.keep-in-Full.ensures.ok in
    let err : OnErr r (new ≡ puts) = subst (λ (w : Putting). OnErr r (new ≡ w)) back c.keep-in-Full.ensures.err in
    let full = c.in-Full.ensures.full in (
      ap (λ (s : Seated Fitting). s.pool) full.4 ∙ c.self.invariant.0,
      viewing-kept seat global puts c.self.invariant.1 c.self.invariant.4 c.args.v c.args.entry node fits r new ok err c.put.new.seat (Some c.in-Full.cell) full.4,
      (c.in-Full.cell, ap (λ (s : Seated Fitting). s.past) full.4),
      pooled-kept seat c.put.new.seat puts new c.args.v c.args.entry r ok err (ap (λ (s : Seated Fitting). s.puts) full.4) c.self.invariant.3,
      nodes-kept seat global puts c.self.invariant.1 c.self.invariant.4 c.args.v c.args.entry node fits r new ok err,
    )

pub returns-in-Full-clause-ok : goal.returns-in-Full-clause-ok
returns-in-Full-clause-ok g c =
    let seat = c.self.inside.seat in
    let global = c.self.inside.global in
    let puts = c.self.inside.puts in
    let x : NodeEntry = record { node = c.args.v; pos = c.args.entry.pos; dist = c.args.entry.dist } in
    let node = subst (λ (w : Viewing). IsNode (length (order_of w.seat.pool.fact)) c.args.v) (sym c.self.view_is) c.requires.node in
    let fits = subst (λ w. fact_of w c.args.v c.args.entry) (sym c.self.view_is) c.requires.fits in
    let back : c.unlist.new.self ≡ puts =
    c.unlist.ensures ∙ ap (λ (w : Putting). record w { list = take (length w.list - 1) w.list }) c.in_ok-list.ensures.ok ∙ ap (λ list. record puts { list = list }) (unlisted puts.list x) in
    let r = c.keep-in-Full.result in
    let new = c.keep-in-Full.new.self in
    let ok : OnOk r (new ≡ keeping puts c.args.v c.args.entry) = subst (λ w. OnOk r (new ≡ keeping w c.args.v c.args.entry)) back c.keep-in-Full.ensures.ok in
    subst (λ w. OnOk r (HasGained w c.args.v c.args.entry (view_of c.put.new.seat global new))) c.self.view_is
    (gained-kept seat global puts c.self.invariant.1 c.self.invariant.4 c.args.v c.args.entry node fits r new ok c.put.new.seat (Some c.in-Full.cell) c.in-Full.ensures.full.4 (inl (c.in-Full.cell, refl)))
