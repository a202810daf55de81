-- A node's heap entry, at the distance of an offer.
use Rattle.std.specs.Prelude.{ℕ, ◌+◌, ◌*◌, ◌/◌, ◌%◌, ◌^◌}
use Rattle.frontier.specs.declared.heap_entry.HeapEntry.{HeapEntry}

abbrev pub heap_entry_of : ℕ → ℕ → HeapEntry
heap_entry_of node dist = record { dist = record { 0 = dist }; node = node }

-- the number of a short heap entry: the distance before the node
abbrev pub key_of : ℕ → ℕ → ℕ
key_of node dist = dist * 2 ^ 32 + node

-- the heap entry that a number stands for
abbrev pub heap_entry_at : ℕ → HeapEntry
heap_entry_at key = heap_entry_of (key % 2 ^ 32) (key / 2 ^ 32)
