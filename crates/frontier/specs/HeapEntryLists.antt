-- The heap entries of a search, of which some stand as numbers.
use Rattle.std.specs.Prelude.{◌≡◌, ◌⊎◌, ℕ, ◌+◌, ◌^◌, ◌<◌, ◌≤◌, List, ◌++◌, All, Contains, length, map}
use Rattle.std.specs.declared.cmp.Reverse.{Reverse}
use Rattle.std.specs.Ordering.{nat_cmp}
use Rattle.std.specs.BinaryHeap.{IsHeap}
use Rattle.frontier.specs.declared.heap_entry.HeapEntry.{HeapEntry}
use Rattle.frontier.specs.HeapEntryOf.{heap_entry_at}

-- the heap entries that are short, and those that are far
abbrev pub heap_entries_of : List (Reverse ℕ) → List HeapEntry → List HeapEntry
heap_entries_of short far = map (λ key. heap_entry_at key.0) short ++ far

-- two heaps, of which the numbers are of heap entries below the distance 2^32, and the other has those from there on
pub record AreApart (short : List (Reverse ℕ)) (far : List HeapEntry) : Type 0 where
  pub short_heap : IsHeap (λ a b. nat_cmp b.0 a.0) short
  pub far_heap : IsHeap (λ a b. nat_cmp b.dist.0 a.dist.0) far
  pub short_by : All (λ key. key.0 < 2 ^ 64) short
  pub far_off : All (λ t. 2 ^ 32 ≤ t.dist.0) far

-- the new list has what the old one has and x, and nothing else
pub record Gains {X : Type 0} (old new : List X) (x : X) : Type 0 where
  pub there : Contains new x
  pub still : All (Contains new) old
  pub only : All (λ y. (y ≡ x) ⊎ Contains old y) new

-- this one of the old heap entries is nearest, and the new ones are the others
pub record Loses (old new : List HeapEntry) (t : HeapEntry) : Type 0 where
  pub others : Gains new old t
  pub nearest : All (λ s. t.dist.0 ≤ s.dist.0) old
  pub fewer : length old ≡ length new + 1
