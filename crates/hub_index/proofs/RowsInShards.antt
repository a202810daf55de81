-- Rows that lie in shards, as one table.
use Rattle.std.proofs.Common.{◌≡◌, ℕ, ◌+◌, ◌-◌, ◌<◌, ◌≤◌, List, [], length, get_or, refl, sym, ap, ◌∙◌, arith}
use Rattle.std.proofs.lemmas.List.{get_or_default, same_lists}
use Rattle.std.proofs.lemmas.List.FromFn.{get_or-map-range_with_len, length-map-range_with_len}
use Rattle.walk_laws.specs.declared.entry.Entry.{Entry}
use Rattle.walk_laws.specs.Labelling.{label_row}
use Rattle.hub_index.specs.Shards.{AreShards, node_at, shard_at, shard_count, shard_number, shard_of, shard_place, shard_size, sharded_row, sharded_rows}
use Rattle.hub_index.specs.Views.{IsNode}
use Rattle.hub_index.proofs.DealtNodes.{IsNode-dealt, node_at_place, number_below}

pub length-sharded_rows : (shift n : ℕ) (shards : List (List (List Entry))) → length (sharded_rows shift n shards) ≡ n
length-sharded_rows shift n shards = length-map-range_with_len (sharded_row shift shards) 1 n

-- the row of a node is that at its place in its shard
pub sharded_rows-at : (shift n : ℕ) (shards : List (List (List Entry))) (v : ℕ) → IsNode n v → label_row (sharded_rows shift n shards) v ≡ sharded_row shift shards v
sharded_rows-at shift n shards v node =
    let lt : v - 1 < n = omega (arith, node.from_one, node.up_to_n) in
    get_or-map-range_with_len (sharded_row shift shards) 1 n (v - 1) v [] lt (omega (arith, node.from_one))

-- rows that have this at each node are the table
pub sharded_rows-same : (shift n : ℕ) (shards : List (List (List Entry))) (rows : List (List Entry)) → length rows ≡ n → ((v : ℕ) → IsNode n v → label_row rows v ≡ sharded_row shift shards v) → rows ≡ sharded_rows shift n shards
sharded_rows-same shift n shards rows size each =
    same_lists rows (sharded_rows shift n shards) (size ∙ sym (length-sharded_rows shift n shards)) (λ k d lt.
    let node : IsNode n (k + 1) = record { from_one = omega arith; up_to_n = omega (arith, lt, size) } in
    let back : k + 1 - 1 ≡ k = omega arith in
    let at : get_or rows k [] ≡ sharded_row shift shards (k + 1) = ap (λ i. get_or rows i []) (sym back) ∙ each (k + 1) node in
    get_or_default rows k d [] lt
    ∙ at
    ∙ sym (get_or-map-range_with_len (sharded_row shift shards) 1 n k (k + 1) d (omega (arith, lt, size)) (omega arith))
    )

-- a node that has a row is one of 1..n
pub node_sharded : (shift n : ℕ) (shards : List (List (List Entry))) (rows : List (List Entry)) (v : ℕ) → sharded_rows shift n shards ≡ rows → 1 ≤ v → v ≤ length rows → IsNode n v
node_sharded shift n shards rows v is from_one within = record { from_one = from_one; up_to_n = omega (arith, ap length is, length-sharded_rows shift n shards, within) }

-- it lies in one of the shards
pub number_sharded : (shift n : ℕ) (shards : List (List (List Entry))) (rows : List (List Entry)) (v number : ℕ) → AreShards shift n shards → sharded_rows shift n shards ≡ rows → 1 ≤ v → v ≤ length rows → number ≡ shard_number shift v → number < length shards
number_sharded shift n shards rows v number are is from_one within number_is = omega (arith, are.count, number_is, number_below shift n v (node_sharded shift n shards rows v is from_one within))

-- what is read at the place of a node that has a row: its shard has that place, and there stands the row
module _ (shift n : ℕ) (shards : List (List (List Entry))) (rows : List (List Entry)) (v number place : ℕ) (d : List (List Entry)) (are : AreShards shift n shards) (is : sharded_rows shift n shards ≡ rows) (from_one : 1 ≤ v) (within : v ≤ length rows) (number_is : number ≡ shard_number shift v) (place_is : place ≡ shard_place shift v) where
  node : IsNode n v
  node = node_sharded shift n shards rows v is from_one within

  read : get_or shards number d ≡ shard_at shards (shard_number shift v)
  read = ap (λ k. get_or shards k d) number_is ∙ get_or_default shards (shard_number shift v) d [] (omega (arith, are.count, number_below shift n v node))

  pub place_sharded : place ≤ length (get_or shards number d)
  place_sharded =
      let at = ((IsNode-dealt shift n v from_one).0 node).up_to_n in
      omega (arith, place_is, at, ap length read, are.sizes (shard_number shift v) (number_below shift n v node))

  pub row_sharded : label_row (get_or shards number d) place ≡ label_row rows v
  row_sharded =
      ap (λ shard. label_row shard place) read
      ∙ ap (label_row (shard_at shards (shard_number shift v))) place_is
      ∙ sym (sharded_rows-at shift n shards v node)
      ∙ ap (λ rs. label_row rs v) is

-- the rows of one shard of a table
pub length-shard_of : (shift number : ℕ) (rows : List (List Entry)) → length (shard_of shift number rows) ≡ shard_size shift (length rows) number
length-shard_of shift number rows = length-map-range_with_len (λ place. label_row rows (node_at shift number place)) 1 (shard_size shift (length rows) number)

pub shard_of-at : (shift number : ℕ) (rows : List (List Entry)) (place : ℕ) → IsNode (shard_size shift (length rows) number) place → label_row (shard_of shift number rows) place ≡ label_row rows (node_at shift number place)
shard_of-at shift number rows place node =
    get_or-map-range_with_len (λ place. label_row rows (node_at shift number place)) 1 (shard_size shift (length rows) number) (place - 1) place [] (omega (arith, node.from_one, node.up_to_n)) (omega (arith, node.from_one))

-- shards of a table are shards, and have its rows
pub AreShards-of_table : (shift : ℕ) (rows : List (List Entry)) (shards : List (List (List Entry))) → shift ≤ 30 → length shards ≡ shard_count shift (length rows) → ((number : ℕ) → number < shard_count shift (length rows) → shard_at shards number ≡ shard_of shift number rows) → AreShards shift (length rows) shards
AreShards-of_table shift rows shards few count each = record {
  shift_is = few;
  count = count;
  sizes = λ number below. ap length (each number below) ∙ length-shard_of shift number rows;
}

pub sharded_rows-of_table : (shift : ℕ) (rows : List (List Entry)) (shards : List (List (List Entry))) → ((number : ℕ) → number < shard_count shift (length rows) → shard_at shards number ≡ shard_of shift number rows) → sharded_rows shift (length rows) shards ≡ rows
sharded_rows-of_table shift rows shards each =
    sym (sharded_rows-same shift (length rows) shards rows refl (λ v node.
    let number = shard_number shift v in
    let place = shard_place shift v in
    ap (label_row rows) (sym (node_at_place shift v node.from_one))
    ∙ sym (shard_of-at shift number rows place ((IsNode-dealt shift (length rows) v node.from_one).0 node))
    ∙ ap (λ shard. label_row shard place) (sym (each number (number_below shift (length rows) v node)))
    ))
