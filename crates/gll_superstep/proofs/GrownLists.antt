-- What trees put over a table that is the labelling up to a position, said without the table.
use Rattle.std.proofs.Common.{◌≡◌, ℕ, ◌≤◌, List, Contains, length, get_or, sym, subst, arith}
use Rattle.std.specs.Prelude.{Result, Ok, Err, IfOk}
use Rattle.std.specs.declared.alloc.AllocError.{AllocError}
use Rattle.walk_laws.specs.declared.graph.Edge.{Edge}
use Rattle.walk_laws.specs.declared.entry.Entry.{Entry}
use Rattle.walk_laws.specs.Labelling.{label_row}
use Rattle.walk_laws.specs.Ranking.{IsRanking}
use Rattle.hub_index.specs.declared.node_entry.NodeEntry.{NodeEntry}
use Rattle.hub_index.specs.NodeEntries.{entries_of_node}
use Rattle.hub_index.specs.Views.{IsNode}
use Rattle.label_clean.specs.Below.{IsChlBelow}
use Rattle.label_clean.specs.Joining.{IsCoveredBelow}
use Rattle.label_clean.specs.Needless.{IsNeedless}
use Rattle.label_clean.proofs.Cleaned.{hub_node}
use Rattle.label_clean.proofs.Covering.{covered, entry}
use Rattle.gll_table.specs.Outputs.{HavePutOver}
use Rattle.gll_superstep.specs.Workers.{HavePut}

module _ (edges : List Edge) (at : List ℕ) (ranking : IsRanking at) (first : ℕ) (global : List (List Entry)) (chl : IsChlBelow edges at first global) where
  -- what hubs below the position cover the table covers
  needless : (v : ℕ) → IsNode (length at) v → (e : Entry) → first ≤ e.pos → IsCoveredBelow edges at first v e → IsNeedless at global v e
  needless v node e late c =
      let h = hub_node at ranking e.pos c.hub c.hub_is in
      let of_hub : Contains (label_row global c.hub) c.of_hub = ((chl.row c.hub h.0 h.1).each c.of_hub).1 (c.is_hubs, c.below) in
      let of_node : Contains (label_row global v) c.of_node = ((chl.row v node.from_one node.up_to_n).each c.of_node).1 (c.is_nodes, omega (arith, c.below, c.shared)) in
      record {
        hub = c.hub;
        hub_is = c.hub_is;
        covered = covered (label_row global c.hub) (label_row global v) e.pos e.dist c.of_hub.pos c.of_hub.dist c.of_node.dist (omega (arith, c.below, late)) of_hub (subst (λ p. Contains (label_row global v) (entry p c.of_node.dist)) (sym c.shared) of_node) c.short;
      }

  pub HavePutOver-from : (roots : List ℕ) (list : List NodeEntry) → HavePut edges at global roots list → HavePutOver edges at first roots list
  HavePutOver-from roots list put = record {
    nodes = put.nodes;
    put = put.put;
    apart = λ v node k d within late c. put.apart v node k d within (needless v node (get_or (entries_of_node list v) k d) late c);
  }

  -- where memory sufficed, and the roots are listed
  pub HavePutOver-where : (memory : Result (Unit {0}) AllocError) (roots listed : List ℕ) (list : List NodeEntry) → IfOk memory (λ _. HavePut edges at global roots list) → IfOk memory (λ _. listed ≡ roots) → IfOk memory (λ _. HavePutOver edges at first listed list)
  HavePutOver-where (Ok t) roots listed list put same = subst (λ rs. HavePutOver edges at first rs list) (sym same) (HavePutOver-from roots list put)
  HavePutOver-where (Err fault) roots listed list put same = tt
