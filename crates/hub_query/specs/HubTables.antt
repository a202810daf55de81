-- A row laid out by position, so that the sums with another row are met in one walk of the other (pruned landmark labelling, SIGMOD 2013).
use Rattle.std.specs.Prelude.{◌≡◌, ◌⊎◌, ℕ, ◌^◌, ◌<◌, ◌≤◌, List, All, Contains, length, slice_index_or}
use Rattle.walk_laws.specs.declared.entry.Entry.{Entry}
use Rattle.walk_laws.specs.Labelling.{label_row}
use Rattle.hub_index.specs.HubIndex.{HubIndex}

-- each distance of the index is short, so that a sum of two takes no more than 63 bits
abbrev pub AreShort : HubIndex → Type 0
AreShort index = (v : ℕ) → 1 ≤ v → v ≤ length index.order → All (λ e. e.dist < 2 ^ 62) (label_row index.rows v)

-- what stands where a row has no entry: more than each sum of two short distances
abbrev pub far : ℕ
far = 2 ^ 63

-- the distance at a position of the table
abbrev pub distance_at : List ℕ → ℕ → ℕ
distance_at table p = slice_index_or table p far

-- the table has the distance of each entry of the row at its position, and no other
pub record HoldsRow (row : List Entry) (table : List ℕ) : Type 0 where
  pub held : (e : Entry) → Contains row e → distance_at table e.pos ≡ e.dist
  pub others : (p : ℕ) → (distance_at table p ≡ far) ⊎ Contains row (record { pos = p; dist = distance_at table p })

-- the pairs with their places, from 0, in any order
pub record ArePlaces (pairs : List (ℕ × ℕ)) (places : List ((ℕ × ℕ) × ℕ)) : Type 0 where
  pub within : All (λ x. x.1 < length pairs) places
  pub same : All (λ x. slice_index_or pairs x.1 (0, 0) ≡ x.0) places
  pub each : (k : ℕ) → k < length pairs → Contains places (slice_index_or pairs k (0, 0), k)
