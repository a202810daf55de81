-- Where the nodes 1..n lie in shards: each node has one place in one shard, and each place of a shard one node.
use Rattle.std.proofs.Common.{◌≡◌, ◌↔◌, ℕ, ◌+◌, ◌-◌, ◌*◌, ◌/◌, ◌%◌, ◌^◌, ◌<◌, ◌≤◌, sym, ap, subst, ◌∙◌, arith}
use Rattle.std.proofs.lemmas.Nat.{pow_pos, mod_below, div-add-mod', div-mul-add, mod-mul-add, le-div}
use Rattle.std.proofs.Math.Nat.{div-mul-le_self, le-min, min-le_left, min-le_right}
use Rattle.hub_index.specs.Shards.{shard_count, shard_number, shard_place, node_at, shard_size}
use Rattle.hub_index.specs.Views.{IsNode}

-- a node lies in one of the shards
pub number_below : (shift n v : ℕ) → IsNode n v → shard_number shift v < shard_count shift n
number_below shift n v node =
    let w = 2 ^ shift in
    let whole = div-mul-le_self (v - 1) w in
    let up : (shard_number shift v + 1) * 2 ^ shift ≤ n + 2 ^ shift - 1 = omega (arith, whole, node.from_one, node.up_to_n) in
    omega (arith, le-div (shard_number shift v + 1) (n + w - 1) w (pow_pos shift) up)

-- at one of its places
pub place_below : (shift v : ℕ) → IsNode (2 ^ shift) (shard_place shift v)
place_below shift v = record { from_one = omega arith; up_to_n = omega (arith, mod_below (v - 1) (2 ^ shift) (pow_pos shift)) }

-- at its own place a node lies
pub node_at_place : (shift v : ℕ) → 1 ≤ v → node_at shift (shard_number shift v) (shard_place shift v) ≡ v
node_at_place shift v from_one = omega (arith, div-add-mod' (v - 1) (2 ^ shift), from_one)

-- and the node at a place lies there
pub number_of_node : (shift number place : ℕ) → IsNode (2 ^ shift) place → shard_number shift (node_at shift number place) ≡ number
number_of_node shift number place within =
    let before : node_at shift number place - 1 ≡ number * 2 ^ shift + (place - 1) = omega (arith, within.from_one) in
    ap (λ k. k / 2 ^ shift) before ∙ div-mul-add number (2 ^ shift) (place - 1) (omega (arith, within.from_one, within.up_to_n))

pub place_of_node : (shift number place : ℕ) → IsNode (2 ^ shift) place → shard_place shift (node_at shift number place) ≡ place
place_of_node shift number place within =
    let before : node_at shift number place - 1 ≡ number * 2 ^ shift + (place - 1) = omega (arith, within.from_one) in
    let rest = ap (λ k. k % 2 ^ shift) before ∙ mod-mul-add number (2 ^ shift) (place - 1) (omega (arith, within.from_one, within.up_to_n)) in
    omega (arith, within.from_one, rest)

-- a later place has a greater node
pub node_at_rises : (shift number place later : ℕ) → place < later → node_at shift number place < node_at shift number later
node_at_rises shift number place later lt = omega (arith, lt)

-- a place of a shard is one of its nodes
pub place_in_shard : (shift n number place : ℕ) → IsNode (shard_size shift n number) place → IsNode (2 ^ shift) place
place_in_shard shift n number place is = record { from_one = is.from_one; up_to_n = omega (arith, is.up_to_n, min-le_right (n - number * 2 ^ shift) (2 ^ shift)) }

-- a shard has a place just where the node of that place is one of 1..n
pub place_within : (shift n number place : ℕ) → IsNode (shard_size shift n number) place → IsNode n (node_at shift number place)
place_within shift n number place is =
    let rest : place ≤ n - number * 2 ^ shift = omega (arith, is.up_to_n, min-le_left (n - number * 2 ^ shift) (2 ^ shift)) in
    record { from_one = omega (arith, is.from_one); up_to_n = omega (arith, is.from_one, rest) }

pub node_within : (shift n number place : ℕ) → IsNode (2 ^ shift) place → IsNode n (node_at shift number place) → IsNode (shard_size shift n number) place
node_within shift n number place within is =
    let rest : place ≤ n - number * 2 ^ shift = omega (arith, is.up_to_n, within.from_one) in
    record { from_one = within.from_one; up_to_n = le-min rest within.up_to_n }

-- a node is one of 1..n just where its place is one of its shard
pub IsNode-dealt : (shift n v : ℕ) → 1 ≤ v → IsNode n v ↔ IsNode (shard_size shift n (shard_number shift v)) (shard_place shift v)
IsNode-dealt shift n v from_one =
    let number = shard_number shift v in
    let place = shard_place shift v in
    let at : node_at shift (shard_number shift v) (shard_place shift v) ≡ v = node_at_place shift v from_one in (
      λ is. node_within shift n number place (place_below shift v) (subst (IsNode n) (sym at) is),
      λ is. subst (IsNode n) at (place_within shift n number place is),
    )
