-- The rows that all workers leave together.
use Rattle.std.proofs.Common.{◌≡◌, ℕ, ◌+◌, ◌-◌, ◌<◌, ◌≤◌, eqb, List, [], All, Contains, length, get_or, map, subst, ◌∙◌, arith}
use Rattle.std.specs.Prelude.{IsOk}
use Rattle.std.specs.List.Sorted.{IsPermutation}
use Rattle.std.proofs.lemmas.List.Elements.{All-weaker}
use Rattle.std.proofs.lemmas.List.FromFn.{length-range_with_len, get_or-range_with_len}
use Rattle.std.proofs.lemmas.List.Sorted.{IsPermutation-map, IsPermutation-sym, Contains-permutation}
use Rattle.std.proofs.lemmas.Map.Keys.{IsDistinct-IsPermutation}
use Rattle.walk_laws.specs.declared.graph.Edge.{Edge}
use Rattle.walk_laws.specs.declared.entry.Entry.{Entry}
use Rattle.walk_laws.specs.Graph.{IsGraph}
use Rattle.walk_laws.specs.Joined.{Joined}
use Rattle.walk_laws.specs.Ranking.{IsRanking}
use Rattle.walk_laws.specs.Labelling.{EntryFits, label_row}
use Rattle.walk_laws.proofs.JoinedEdges.{weights_of_edges}
use Rattle.walk_laws.proofs.Positions.{position-lt}
use Rattle.hub_index.specs.Views.{IsNode}
use Rattle.table_seats.specs.Numbers.{numbers}
use Rattle.label_rows.specs.Visits.{puts_of}
use Rattle.label_clean.specs.Below.{HoldsBelow}
use Rattle.label_clean.proofs.RowFacts.{eqb_flips}
use Rattle.lcc_build.specs.declared.share.Share.{Share}
use Rattle.lcc_build.specs.Shares.{IsDone}
use Rattle.pruned_tree.proofs.GrownPuts.{pos_of}

-- each number below n is among those from 0 up to it
below_n : (n p : ℕ) → p < n → Contains (numbers 0 n) p
below_n n p low =
    let within : p < length (numbers 0 n) = let size : length (numbers 0 n) ≡ n - 0 = length-range_with_len 0 (n - 0) in omega (arith, low, size) in
    let there : get_or (numbers 0 n) p p ≡ 0 + p = get_or-range_with_len 0 (n - 0) p p (omega arith) in
    let same : 0 + p ≡ p = omega arith in
    (p, within, there ∙ same)

module _ (n : ℕ) (edges : List Edge) (at : List ℕ) (graph : IsGraph n edges) (ranking : IsRanking at) (share : Share) (done : IsDone edges at share) (ok : IsOk share.memory) (all_got : IsPermutation share.claims.got (numbers 0 (length at))) (rows : List (List Entry))
    (puts : (v : ℕ) → IsNode (length at) v → IsPermutation (puts_of share.rows.visits v) (label_row rows v)) (fit : (v : ℕ) → IsNode (length at) v → All (EntryFits (Joined edges) at v) (label_row rows v)) where
  node : (v : ℕ) → 1 ≤ v → v ≤ length at → IsNode (length at) v
  node v from_one up_to_n = record { from_one = from_one; up_to_n = up_to_n }

  -- they may be cleaned: each root was claimed once, and each canonical entry was put
  pub HoldsBelow-shared : HoldsBelow edges at (length at) [] rows
  HoldsBelow-shared = record {
    weights = weights_of_edges n edges graph.edge;
    fit = λ v from_one up_to_n. fit v (node v from_one up_to_n);
    below = λ v from_one up_to_n.
        All-weaker (EntryFits (Joined edges) at v) (λ (e : Entry). e.pos < length at) (λ e fits. omega (arith, fits.ranked, position-lt at v ranking from_one up_to_n)) (label_row rows v) (fit v (node v from_one up_to_n));
    once = λ v from_one up_to_n.
        let grown = done.grown v (node v from_one up_to_n) in
        let moved : IsPermutation grown.puts (label_row rows v) = subst (λ xs. IsPermutation xs (label_row rows v)) grown.joined (puts v (node v from_one up_to_n)) in
        IsDistinct-IsPermutation eqb eqb_flips (map pos_of grown.puts) (map pos_of (label_row rows v)) (IsPermutation-map pos_of grown.puts (label_row rows v) moved) grown.once;
    hubs = λ v from_one up_to_n e hub below.
        let grown = done.grown v (node v from_one up_to_n) in
        let moved : IsPermutation grown.puts (label_row rows v) = subst (λ xs. IsPermutation xs (label_row rows v)) grown.joined (puts v (node v from_one up_to_n)) in
        let got : Contains share.claims.got e.pos = Contains-permutation (numbers 0 (length at)) share.claims.got e.pos (IsPermutation-sym share.claims.got (numbers 0 (length at)) all_got) (below_n (length at) e.pos below) in
        Contains-permutation grown.puts (label_row rows v) e moved (grown.hubs ok e hub got);
  }
