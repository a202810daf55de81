-- What a frontier keeps of its nodes.
use Rattle.std.specs.Prelude.{◌≡◌, ◌≢◌, ℕ, ◌<◌, List, All, Contains, length}
use Rattle.frontier.specs.declared.reach.Found.{Found}
use Rattle.frontier.specs.declared.reach.Reach.{Reach}
use Rattle.frontier.specs.declared.reach.Reach.TheVariants.{Unreached, Queued}
use Rattle.frontier.specs.declared.heap_entry.HeapEntry.{HeapEntry}
use Rattle.frontier.specs.Reaches.{reach_at}
use Rattle.frontier.specs.HeapEntryOf.{heap_entry_of}

-- each queued node has a heap entry at its distance, and each node that is reached was touched
pub record HasHeapEntries {C : Type 0} (reaches : List (Reach C)) (heap_entries : List HeapEntry) (touched : List ℕ) : Type 0 where
  pub heap_entry : (x : ℕ) (g : Found C) → reach_at reaches x ≡ Queued g → Contains heap_entries (heap_entry_of x g.dist)
  pub of_nodes : All (λ t. t.node < length reaches) heap_entries
  pub reached : (x : ℕ) → reach_at reaches x ≢ Unreached → Contains touched x
  pub nodes : All (λ x. x < length reaches) touched
