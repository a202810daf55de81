use Rattle.std.proofs.Common.{◌≡◌, ◌≢◌, ℕ, ◌<◌, ◌≤◌, None, All, Contains, length, map, take}
use Rattle.hub_index.specs.RootDistances.{root_distance}
use Rattle.hub_index.specs.Touched.{clamped_of}
use Rattle.hub_index.proofs.root_table.RootTable.clear.Given as goal

-- each position that still has a distance is to come
abbrev pub invariant-loop-self : goal.invariant-loop-self
invariant-loop-self l = record {
  size : length l.self-inside.dists.items ≡ length l.initial.self-inside.dists.items;
  room : length l.self-inside.touched.items ≡ length l.self-inside.dists.items;
  few : l.self-inside.count ≤ length l.self-inside.touched.items;
  within : All (λ x. x < length l.self-inside.dists.items) (take l.self-inside.count l.self-inside.touched.items);
  tested : l.self-inside.clamped.items ≡ map clamped_of l.self-inside.dists.items;
  held : (p : ℕ) → root_distance l.self-inside.dists.items p ≢ None → Contains (take l.self-inside.count l.self-inside.touched.items) p;
}

abbrev pub decreases-loop-self : goal.decreases-loop-self
decreases-loop-self l = l.self-inside.count
