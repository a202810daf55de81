-- A table in shards, each of which is the labelling up to a position.
use Rattle.std.proofs.Common.{◌≡◌, ℕ, ◌<◌, ◌≤◌, List, length, sym, ap, subst, ◌∙◌, arith}
use Rattle.walk_laws.specs.declared.graph.Edge.{Edge}
use Rattle.walk_laws.specs.declared.entry.Entry.{Entry}
use Rattle.walk_laws.specs.Joined.{Joined}
use Rattle.walk_laws.specs.Labelling.{EntryFits, label_row}
use Rattle.walk_laws.specs.Ranking.{IsRanking}
use Rattle.hub_index.specs.PlainRows.{IsGathered}
use Rattle.hub_index.specs.Shards.{AreShards, node_at, shard_at, shard_count, shard_number, shard_of, shard_place, shard_size, sharded_row, sharded_rows}
use Rattle.hub_index.specs.Views.{IsNode}
use Rattle.hub_index.proofs.DealtNodes.{IsNode-dealt, node_at_place, number_below, place_within}
use Rattle.hub_index.proofs.RowsInShards.{length-shard_of, length-sharded_rows, shard_of-at, sharded_rows-at}
use Rattle.std.proofs.lemmas.List.Elements.{All-contains_itself, All-weaker}
use Rattle.std.proofs.Common.{Contains}
use Rattle.label_clean.specs.Below.{IsChlBelow, IsRowBelow}
use Rattle.label_clean.proofs.JoinedRows.{EntryFits-from_hub}
use Rattle.gll_table.specs.Tables.{AreShardsBelow, IsShardBelow}

-- its rows are
pub IsChlBelow-sharded : (edges : List Edge) (at : List ℕ) (shift c n : ℕ) (shards : List (List (List Entry))) → n ≡ length at → AreShardsBelow edges at shift c shards → IsChlBelow edges at c (sharded_rows shift n shards)
IsChlBelow-sharded edges at shift c n shards n_is are = record {
  size = length-sharded_rows shift n shards ∙ n_is;
  row = λ v from_one up_to_n.
      let node : IsNode n v = record { from_one = from_one; up_to_n = omega (arith, up_to_n, n_is) } in
      let of_at : IsNode (length at) v = record { from_one = from_one; up_to_n = up_to_n } in
      let number = shard_number shift v in
      let one = are.below number (number_below shift (length at) v of_at) in
      let place : IsNode (length (shard_at shards (shard_number shift v))) (shard_place shift v) = subst (λ m. IsNode m (shard_place shift v)) (sym one.size) ((IsNode-dealt shift (length at) v from_one).0 of_at) in
      subst (IsRowBelow edges at c v) (sym (sharded_rows-at shift n shards v node))
      (subst (λ u. IsRowBelow edges at c u (sharded_row shift shards v)) (node_at_place shift v from_one) (one.each (shard_place shift v) place));
}

-- the entries of a labelling up to a position may stand in their rows
pub IsGathered-below : (edges : List Edge) (at : List ℕ) (c : ℕ) (rows : List (List Entry)) → IsRanking at → IsChlBelow edges at c rows → IsGathered edges at rows
IsGathered-below edges at c rows ranking chl = record {
  size = chl.size;
  fit = λ v from_one up_to_n. All-weaker (Contains (label_row rows v)) (EntryFits (Joined edges) at v) (λ e there. EntryFits-from_hub edges at ranking v e (((chl.row v from_one up_to_n).each e).0 there).0) (label_row rows v) (All-contains_itself (label_row rows v));
}

-- shards of a table
pub AreShardsBelow-of_table : (edges : List Edge) (at : List ℕ) (shift c : ℕ) (rows : List (List Entry)) (shards : List (List (List Entry))) → IsChlBelow edges at c rows → c ≤ length at → shift ≤ 30 → length shards ≡ shard_count shift (length at)
    → ((number : ℕ) → number < shard_count shift (length at) → shard_at shards number ≡ shard_of shift number rows) → AreShardsBelow edges at shift c shards
AreShardsBelow-of_table edges at shift c rows shards chl within shift_is count each = record { within = within; are = are; below = below }
  where
    size : (number : ℕ) → number < shard_count shift (length at) → length (shard_at shards number) ≡ shard_size shift (length at) number
    size number there = ap length (each number there) ∙ length-shard_of shift number rows ∙ ap (λ n. shard_size shift n number) chl.size

    are : AreShards shift (length at) shards
    are = record { shift_is = shift_is; count = count; sizes = size }

    below : (number : ℕ) → number < shard_count shift (length at) → IsShardBelow edges at shift c number (shard_at shards number)
    below number there = record {
      there = there;
      size = size number there;
      each = λ place node.
          let in_shard : IsNode (shard_size shift (length at) number) place = subst (λ m. IsNode m place) (size number there) node in
          let is_node = place_within shift (length at) number place in_shard in
          let row_is : label_row (shard_at shards number) place ≡ label_row rows (node_at shift number place) =
          ap (λ shard. label_row shard place) (each number there) ∙ shard_of-at shift number rows place (subst (λ n. IsNode (shard_size shift n number) place) (sym chl.size) in_shard) in
          subst (IsRowBelow edges at c (node_at shift number place)) (sym row_is) (chl.row (node_at shift number place) is_node.from_one is_node.up_to_n);
    }
