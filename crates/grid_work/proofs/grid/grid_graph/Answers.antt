use Rattle.std.proofs.Common.{◌≡◌, ◌∙◌, ◌*◌, ◌++◌, ap, subst, sym, arith}
use Rattle.std.specs.Prelude.{flat_map}
use Rattle.std.specs.List.{range_with_len}
use Rattle.walk_laws.specs.Graph.{IsGraph}
use Rattle.grid_work.specs.Grid.{ends_in_row, grid_edges, weighted}
use Rattle.grid_work.proofs.Laying.{lays_more}
use Rattle.grid_work.proofs.GridGraphs.{grid_is_graph}
use Rattle.grid_work.proofs.grid.grid_graph.Goals as goal

pub loop-row-preserved : goal.loop-row-preserved
loop-row-preserved c =
    lays_more (record { edges = c.new.result; number = c.args.seed }) c.loop-row.laid c.lay_row.new.self (ends_in_row c.args.side) c.loop-row.row c.loop-row.invariant c.in_ok-lay_row.ensures

pub new-requires-2 : goal.new-requires-2
new-requires-2 c =
    let last : c.loop-row.row ≡ c.args.side = omega arith in
    let laid : c.loop-row.laid.edges.items ≡ grid_edges c.args.side c.args.seed =
    c.loop-row.invariant.edges ∙ ap (λ l. l ++ weighted c.args.seed (flat_map (ends_in_row c.args.side) (range_with_len 0 c.loop-row.row))) c.new.ensures.items ∙ ap (λ k. weighted c.args.seed (flat_map (ends_in_row c.args.side) (range_with_len 0 k))) last in
    subst (IsGraph (c.args.side * c.args.side)) (sym laid) (grid_is_graph c.args.side c.args.seed c.requires)
