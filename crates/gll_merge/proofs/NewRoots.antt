-- The roots of a superstep: the positions from the first one up to the next.
use Rattle.std.proofs.Common.{◌≡◌, ℕ, ◌+◌, ◌-◌, ◌<◌, ◌≤◌, List, All, Contains, length, get_or, sym, ◌∙◌, arith}
use Rattle.std.specs.List.Sorted.{IsPermutation}
use Rattle.std.proofs.lemmas.List.Elements.{All-weaker}
use Rattle.std.proofs.lemmas.List.FromFn.{length-range_with_len, get_or-range_with_len}
use Rattle.std.proofs.lemmas.List.Sorted.{IsPermutation-sym, Contains-permutation}
use Rattle.walk_laws.specs.declared.graph.Edge.{Edge}
use Rattle.walk_laws.specs.declared.entry.Entry.{Entry}
use Rattle.hub_index.specs.declared.node_entry.NodeEntry.{NodeEntry}
use Rattle.hub_index.specs.NodeEntries.{entries_of_node}
use Rattle.hub_index.specs.Views.{IsNode}
use Rattle.table_seats.specs.Numbers.{numbers}
use Rattle.label_clean.specs.Joining.{IsCoveredBelow, JoinsRow}
use Rattle.gll_table.specs.Outputs.{HavePutOver}

-- the numbers from the first one up to the next
pub among : (first next p : ℕ) → first ≤ p → p < next → Contains (numbers first next) p
among first next p from low =
    let size : length (numbers first next) ≡ next - first = length-range_with_len first (next - first) in
    let within : p - first < length (numbers first next) = omega (arith, from, low, size) in
    let there : get_or (numbers first next) (p - first) p ≡ first + (p - first) = get_or-range_with_len first (next - first) (p - first) p (omega (arith, from, low)) in
    let same : first + (p - first) ≡ p = omega (arith, from) in
    (p - first, within, there ∙ same)

pub bounds : (first next p : ℕ) → Contains (numbers first next) p → (first ≤ p) × (p < next)
bounds first next p (k, within, is) =
    let size : length (numbers first next) ≡ next - first = length-range_with_len first (next - first) in
    let low : k < next - first = omega (arith, within, size) in
    let there : get_or (numbers first next) k p ≡ first + k = get_or-range_with_len first (next - first) k p low in
    let same : first + k ≡ p = sym there ∙ is in
    (omega (arith, same), omega (arith, same, low))

module _ (edges : List Edge) (at : List ℕ) (first next : ℕ) (roots : List ℕ) (list : List NodeEntry) (each_once : IsPermutation roots (numbers first next)) (over : HavePutOver edges at first roots list) where
  pub root_within : (p : ℕ) → Contains roots p → (first ≤ p) × (p < next)
  root_within p there = bounds first next p (Contains-permutation roots (numbers first next) p each_once there)

  -- what trees of all these roots put joins the rows of the nodes
  pub JoinsRow-new : (v : ℕ) → IsNode (length at) v → JoinsRow edges at first next v (entries_of_node list v)
  JoinsRow-new v node =
      let put = over.put v node in
      let entries = entries_of_node list v in
      record {
        fit = put.fit;
        from = All-weaker (λ (e : Entry). Contains roots e.pos) (λ e. first ≤ e.pos) (λ e there. (root_within e.pos there).0) entries put.of_roots;
        below = All-weaker (λ (e : Entry). Contains roots e.pos) (λ e. e.pos < next) (λ e there. (root_within e.pos there).1) entries put.of_roots;
        once = put.once;
        hubs = λ e hub from low. put.hubs e hub (Contains-permutation (numbers first next) roots e.pos (IsPermutation-sym roots (numbers first next) each_once) (among first next e.pos from low));
        apart = apart_from entries put.of_roots (over.apart v node);
      }
    where
      apart_from : (entries : List Entry) → All (λ (e : Entry). Contains roots e.pos) entries → All (λ e. first ≤ e.pos → ¬ IsCoveredBelow edges at first v e) entries → All (λ e. ¬ IsCoveredBelow edges at first v e) entries
      apart_from entries of_roots apart k d within = apart k d within (root_within (get_or entries k d).pos (of_roots k d within)).0
