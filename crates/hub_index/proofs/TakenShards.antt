-- A table takes the rows of a shard, one after another.
use Rattle.std.proofs.Common.{◌≡◌, ◌≢◌, inl, inr, ℕ, ◌+◌, ◌-◌, ◌<◌, ◌≤◌, List, [], ◌∷◌, ◌++◌, length, get_or, set, take, drop, sym, ap, subst, ◌∙◌, arith}
use Rattle.std.proofs.lemmas.Bool.{cases_eq}
use Rattle.std.proofs.lemmas.List.{drop_more, get_or-set_other, get_or-set_same, length-drop, length_push, same_from_push, take_more}
use Rattle.walk_laws.specs.declared.entry.Entry.{Entry}
use Rattle.walk_laws.specs.Labelling.{label_row}
use Rattle.hub_index.specs.Shards.{AreShards, node_at, shard_at, shard_number, shard_place, shard_size, sharded_row}
use Rattle.hub_index.specs.Views.{IsNode}
use Rattle.hub_index.proofs.DealtNodes.{IsNode-dealt, node_at_place, node_at_rises, number_below, number_of_node, place_in_shard, place_within}

-- the first of the rows that are to come is that at the next place
pub next_row : (shard : List (List Entry)) (k : ℕ) (row : List Entry) (rest : List (List Entry)) → row ∷ rest ≡ drop k shard → (k < length shard) × (label_row shard (k + 1) ≡ row) × (rest ≡ drop (k + 1) shard)
next_row shard k row rest is =
    let lt : k < length shard = omega (arith, ap length is, length-drop k shard) in
    let same : row ∷ rest ≡ get_or shard k [] ∷ drop (k + 1) shard = is ∙ drop_more shard k [] lt in
    let at : k + 1 - 1 ≡ k = omega arith in
    (lt, ap (λ i. get_or shard i []) at ∙ cc, cc)

module _ (shift number : ℕ) (shard before rows more : List (List Entry)) (size : length shard ≡ shard_size shift (length before) number) (k : ℕ) (lt : k < length shard) (row : List Entry) (row_is : label_row shard (k + 1) ≡ row) (same : length rows ≡ length before) (more_is : more ≡ set rows (node_at shift number (k + 1) - 1) row) where
  next_place : IsNode (shard_size shift (length before) number) (k + 1)
  next_place = record { from_one = omega arith; up_to_n = omega (arith, lt, size) }

  -- its node is one of the table
  next_node : IsNode (length before) (node_at shift number (k + 1))
  next_node = place_within shift (length before) number (k + 1) next_place

  abbrev node : ℕ
  node = node_at shift number (k + 1)

  -- a node that is another one keeps its row
  stays : (v : ℕ) → 1 ≤ v → v ≢ node → label_row more v ≡ label_row rows v
  stays v from_one other = ap (λ rs. label_row rs v) more_is ∙ get_or-set_other rows (node - 1) (v - 1) row [] (λ is. other (omega (arith, is, from_one)))

  pub taken_next : ((place : ℕ) → 1 ≤ place → place ≤ k → label_row rows (node_at shift number place) ≡ label_row shard place) → (place : ℕ) → 1 ≤ place → place ≤ k + 1 → label_row more (node_at shift number place) ≡ label_row shard place
  taken_next taken place from_one up_to = elim (cases_eq place (k + 1)) [
    | inl here ↦
        let now : label_row more node ≡ row = ap (λ rs. label_row rs node) more_is ∙ get_or-set_same rows (node - 1) row [] (omega (arith, next_node.up_to_n, same)) in
        ap (λ p. label_row more (node_at shift number p)) here ∙ now ∙ sym row_is ∙ ap (label_row shard) (sym here)
    | inr other ↦
        let earlier : place < k + 1 = omega (arith, up_to, other) in
        let lower = node_at_rises shift number place (k + 1) earlier in
        stays (node_at shift number place) (omega (arith, from_one)) (λ is. omega (arith, lower, is)) ∙ taken place from_one (omega (arith, earlier))
  ]

  pub others_next : ((v : ℕ) → 1 ≤ v → shard_number shift v ≢ number → label_row rows v ≡ label_row before v) → (v : ℕ) → 1 ≤ v → shard_number shift v ≢ number → label_row more v ≡ label_row before v
  others_next others v from_one other = stays v from_one (λ is. other (ap (shard_number shift) is ∙ number_of_node shift number (k + 1) (place_in_shard shift (length before) number (k + 1) next_place))) ∙ others v from_one other

-- the last of the shards that are left
pub last_left : (shards olds left : List (List (List Entry))) (shard : List (List Entry)) → olds ≡ left ++ shard ∷ [] → olds ≡ take (length olds) shards → length olds ≤ length shards → (left ≡ take (length left) shards) × (shard ≡ shard_at shards (length left)) × (length left < length shards)
last_left shards olds left shard is are few =
    let k = length left in
    let one_more : length olds ≡ k + 1 = ap length is ∙ length_push left shard in
    let lt : k < length shards = omega (arith, one_more, few) in
    let cut : left ++ shard ∷ [] ≡ take k shards ++ get_or shards k [] ∷ [] = sym is ∙ are ∙ ap (λ n. take n shards) one_more ∙ take_more shards k [] lt in
    let both = same_from_push left (take k shards) shard (get_or shards k []) cut in
    (both.0, both.1, lt)

-- its rows are taken, after those of the later shards
pub shard_taken : (shift n : ℕ) (shards : List (List (List Entry))) (k : ℕ) (rows more : List (List Entry)) → AreShards shift n shards → k < length shards → ((place : ℕ) → IsNode (length (shard_at shards k)) place → label_row more (node_at shift k place) ≡ label_row (shard_at shards k) place) → ((v : ℕ) → 1 ≤ v → shard_number shift v ≢ k → label_row more v ≡ label_row rows v) → ((v : ℕ) → IsNode n v → k + 1 ≤ shard_number shift v → label_row rows v ≡ sharded_row shift shards v) → (v : ℕ) → IsNode n v → k ≤ shard_number shift v → label_row more v ≡ sharded_row shift shards v
shard_taken shift n shards k rows more are lt now others later v node from_k = elim (cases_eq k (shard_number shift v)) [
  | inl here ↦
      let place = shard_place shift v in
      let at : node_at shift k place ≡ v = ap (λ number. node_at shift number place) here ∙ node_at_place shift v node.from_one in
      let size : length (shard_at shards k) ≡ shard_size shift n (shard_number shift v) = ap (λ number. length (shard_at shards number)) here ∙ are.sizes (shard_number shift v) (number_below shift n v node) in
      let within = (IsNode-dealt shift n v node.from_one).0 node in
      let there : IsNode (length (shard_at shards k)) place = subst (λ m. IsNode m place) (sym size) within in
      ap (label_row more) (sym at) ∙ now place there ∙ ap (λ number. label_row (shard_at shards number) place) here
  | inr other ↦ others v node.from_one (λ is. other (sym is)) ∙ later v node (above k (shard_number shift v) from_k other)
]
  where
    above : (k number : ℕ) → k ≤ number → k ≢ number → k + 1 ≤ number
    above k number from_k other = omega (arith, from_k, other)
