-- What becomes of an entry that a row is offered.
use Rattle.std.specs.Prelude.{◌≡◌, ◌≢◌, ◌⊎◌, ◌↔◌, ℕ, ◌<◌, ◌≤◌, List, Option, Some, All, Contains, drop, length, map, slice_get, take}
use Rattle.std.specs.List.Sorted.{IsStrictlyIncreasing}
use Rattle.walk_laws.specs.declared.entry.Entry.{Entry}
use Rattle.hub_index.specs.RootDistances.{IsCover}
use Rattle.resumed_tree.specs.declared.taking.Stand.{Stand}
use Rattle.resumed_tree.specs.declared.taking.Stand.TheVariants.{Nowhere, Instead, Before}

-- the row has an entry of the same hub that is no longer
pub record HasNoLonger (row : List Entry) (e : Entry) : Type 0 where
  pub dist : ℕ
  pub there : Contains row (record { pos = e.pos; dist = dist })
  pub short : dist ≤ e.dist

-- an entry of the row covers it, by way of a hub in the table
pub record HasCover (table : List (Option ℕ)) (row : List Entry) (e : Entry) : Type 0 where
  pub cover : Entry
  pub there : Contains row cover
  pub covers : IsCover table e.pos e.dist cover

-- no entry of the row does
abbrev pub IsUncovered : List (Option ℕ) → List Entry → Entry → Type 0
IsUncovered table row e = (c : Entry) → Contains row c → ¬ IsCover table e.pos e.dist c

-- at this place the row has a longer entry of the same hub
pub record IsLonger (row : List Entry) (place : ℕ) (e : Entry) : Type 0 where
  pub entry : Entry
  pub there : slice_get row place ≡ Some entry
  pub hub : entry.pos ≡ e.pos
  pub long : e.dist < entry.dist

-- at this place, which may be the row's end, the row parts: what stands before has lesser positions than the entry, and what stands from there on greater ones
pub record PartsAt (row : List Entry) (place : ℕ) (e : Entry) : Type 0 where
  pub within : place ≤ length row
  pub lesser : All (λ f. f.pos < e.pos) (take place row)
  pub greater : All (λ f. e.pos < f.pos) (drop place row)

-- where an entry that is offered to the row is to stand there: nowhere, where it is needless; else in place of a longer entry of its hub, or where the row parts if it has none of its hub
abbrev pub IsStand : List (Option ℕ) → List Entry → Entry → Stand → Type 0
IsStand table row e Nowhere = HasNoLonger row e ⊎ HasCover table row e
IsStand table row e (Instead place) = IsUncovered table row e × IsLonger row place e
IsStand table row e (Before place) = IsUncovered table row e × PartsAt row place e

-- the row took the entry, as the only one of its hub: none was there, or a longer one; its positions rise
pub record IsTaken (before after : List Entry) (e : Entry) : Type 0 where
  pub there : Contains after e
  pub alone : (d : ℕ) → Contains after (record { pos = e.pos; dist = d }) → d ≡ e.dist
  pub longer : (d : ℕ) → Contains before (record { pos = e.pos; dist = d }) → e.dist < d
  pub others : (q d : ℕ) → q ≢ e.pos → Contains after (record { pos = q; dist = d }) ↔ Contains before (record { pos = q; dist = d })
  pub rising : IsStrictlyIncreasing (map (λ f. f.pos) after)
