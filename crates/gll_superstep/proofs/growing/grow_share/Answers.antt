use Rattle.std.proofs.Common.{◌≡◌, ℕ, List, [], All, length, sym, ap, subst, ◌∙◌}
use Rattle.std.specs.Prelude.{IsOk}
use Rattle.walk_laws.specs.Ranking.{IsRanking}
use Rattle.hub_index.specs.declared.node_entry.NodeEntry.{NodeEntry}
use Rattle.hub_index.specs.NodeEntries.{entries_of_node}
use Rattle.hub_index.specs.PlainRows.{IsGathered}
use Rattle.hub_index.specs.Shards.{sharded_rows}
use Rattle.hub_index.specs.Views.{IsNode}
use Rattle.label_clean.specs.Below.{IsChlBelow}
use Rattle.label_pool.specs.Seats.{Seated}
use Rattle.pool_view.specs.Fitting.{Fitting, order_of}
use Rattle.pool_view.specs.Putting.{IsListOf}
use Rattle.pool_view.specs.Viewing.{ViewKept, puts_row}
use Rattle.gll_superstep.specs.Workers.{SuperstepView}
use Rattle.gll_superstep.specs.Workers.{AreUncovered}
use Rattle.gll_superstep.proofs.DoneWorkers.{IsDone-there, grown_from_nothing, listed_by, sufficed_by}
use Rattle.gll_superstep.proofs.JoinedOutputs.{is_at}
use Rattle.gll_superstep.proofs.GrownLists.{HavePutOver-where}
use Rattle.gll_table.proofs.ShardedTables.{IsGathered-below}
use Rattle.gll_superstep.proofs.UncoveredPuts.{AreUncovered-from_nothing}
use Rattle.gll_superstep.proofs.growing.grow_share.Goals as goal

pub new-view-requires-clause-global : goal.new-view-requires-clause-global
new-view-requires-clause-global g c =
    let ranking = subst IsRanking c.args.context.now.order c.n-ranked.ensures.ranking in
    let pool = c.superstep.invariant.1 in
    subst (λ es. IsGathered es (order_of c.superstep.inside.pool.fact) c.rows-global.result) (sym pool.edges_are)
    (subst (λ os. IsGathered g.B.Build.edges os c.rows-global.result) (sym pool.order_is)
    (IsGathered-below g.B.Build.edges g.B.Build.order c.superstep.inside.table.first c.rows-global.result ranking c.rows-global.ensures.below))

pub grow_trees-memory-requires-clause-seat : goal.grow_trees-memory-requires-clause-seat
grow_trees-memory-requires-clause-seat g c =
    is_at g.B.Build.claims c.args.context.now.claims.now c.superstep.inside.table.first c.args.seats.claims (c.requires.seats.claim_seat ∙ ap (λ (s : SuperstepView). s.claims) (sym c.superstep.view_is)) c.args.context.now.claims_are

pub returns-clause-done : goal.returns-clause-done
returns-clause-done g c =
    let edges = c.args.context.now.graph.now.edges in
    let at = c.args.context.now.ranking.now in
    let parts = c.into_parts-pool_seat.ensures in
    let list : List NodeEntry = c.into_parts-pool_seat.result.2.items in
    let pool_is = ap (λ s. s.pool) c.new-view.ensures.seat ∙ c.requires.seats.pool_seat in
    let order_is : order_of c.grow_trees-memory.new.view.seat.pool.fact ≡ c.args.context.now.ranking.now =
    ap (λ (k : ViewKept). order_of k.pool.fact) c.grow_trees-memory.ensures.kept ∙ ap (λ p. order_of p.fact) pool_is ∙ ap (λ (s : SuperstepView). order_of s.pool.fact) (sym c.superstep.view_is) ∙ c.superstep.invariant.1.order_is ∙ sym c.args.context.now.order in
    let global_is : c.new-view.result.global ≡ sharded_rows g.B.Build.shift (length g.B.Build.order) c.args.superstep.now.table.shards =
    c.new-view.ensures.global ∙ c.rows-global.ensures.value ∙ ap (λ (s : SuperstepView). sharded_rows g.B.Build.shift (length g.B.Build.order) s.table.shards) c.superstep.view_is in
    let empty : (v : ℕ) → IsNode (length c.args.context.now.ranking.now) v → puts_row c.new-view.result v ≡ [] = λ v node. ap (λ es. entries_of_node es v) c.new-view.ensures.list in
    let same : (v : ℕ) → puts_row c.grow_trees-memory.new.view v ≡ entries_of_node c.into_parts-pool_seat.result.2.items v = λ v. ap (λ es. entries_of_node es v) (sym c.into_parts-pool_seat.ensures.list) in
    let grown =
    grown_from_nothing edges at (IsOk c.grow_trees-memory.result) c.args.seats.claims.got c.grow_trees-memory.new.seat.got (puts_row c.new-view.result) (puts_row c.grow_trees-memory.new.view) (λ v. entries_of_node c.into_parts-pool_seat.result.2.items v)
    c.grow_trees-memory.ensures.grown c.requires.new.got empty same in
    let apart : (v : ℕ) → IsNode (length c.args.context.now.ranking.now) v → AreUncovered c.args.context.now.ranking.now (sharded_rows g.B.Build.shift (length g.B.Build.order) c.args.superstep.now.table.shards) v (entries_of_node c.into_parts-pool_seat.result.2.items v) = λ v node.
    subst (λ rows. AreUncovered c.args.context.now.ranking.now rows v (entries_of_node c.into_parts-pool_seat.result.2.items v)) global_is
    (AreUncovered-from_nothing at c.new-view.result.global (puts_row c.new-view.result) (puts_row c.grow_trees-memory.new.view) (λ x. entries_of_node c.into_parts-pool_seat.result.2.items x) c.grow_trees-memory.ensures.apart empty same v node) in
    let nodes : All (λ (e : NodeEntry). IsNode (length c.args.context.now.ranking.now) e.node) c.into_parts-pool_seat.result.2.items =
    subst (All (λ (e : NodeEntry). IsNode (length c.args.context.now.ranking.now) e.node)) (sym parts.list) (subst (λ order. All (λ (e : NodeEntry). IsNode (length order) e.node) c.grow_trees-memory.new.view.list) order_is parts.nodes) in
    IsDone-there g.B.Build.edges g.B.Build.order edges at c.args.context.now.edges c.args.context.now.order
    (record {
      begun = c.grow_trees-memory.ensures.begun;
      seat = ap (λ (s : Seated Fitting). s.pool) parts.seat ∙ ap (λ (k : ViewKept). k.pool) c.grow_trees-memory.ensures.kept ∙ pool_is;
      nodes = nodes;
      puts = subst (λ s. IsListOf s c.into_parts-pool_seat.result.2.items) (sym parts.seat) (subst (IsListOf c.grow_trees-memory.new.view.seat) (sym parts.list) parts.puts);
      sufficed = sufficed_by edges at (sharded_rows g.B.Build.shift (length g.B.Build.order) c.args.superstep.now.table.shards) c.grow_trees-memory.new.seat.got list c.grow_trees-memory.result nodes grown apart;
      roots = listed_by (c.clear-2.new.self.items ≡ c.args.seats.claims.got) (c.grow_trees-memory.new.roots.items ≡ c.grow_trees-memory.new.seat.got) c.grow_trees-memory.result c.grow_trees-memory.ensures.listed (c.clear-2.ensures.items ∙ sym c.requires.new.got);
    })

pub returns-clause-put : goal.returns-clause-put
returns-clause-put g c =
    let done = returns-clause-done g c in
    let ranking = subst IsRanking c.args.context.now.order c.n-ranked.ensures.ranking in
    let below = subst (λ (s : SuperstepView). IsChlBelow g.B.Build.edges g.B.Build.order s.table.first (sharded_rows g.B.Build.shift (length g.B.Build.order) s.table.shards)) c.superstep.view_is
    (subst (IsChlBelow g.B.Build.edges g.B.Build.order c.superstep.inside.table.first) c.rows-global.ensures.value c.rows-global.ensures.below) in
    HavePutOver-where g.B.Build.edges g.B.Build.order ranking c.args.superstep.now.table.first (sharded_rows g.B.Build.shift (length g.B.Build.order) c.args.superstep.now.table.shards) below
    c.grow_trees-memory.result c.grow_trees-memory.new.seat.got c.grow_trees-memory.new.roots.items c.into_parts-pool_seat.result.2.items done.sufficed done.roots
