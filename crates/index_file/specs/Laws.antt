-- The laws of the format. `laws` has a public function for each.
use Rattle.std.specs.Prelude.{◌≡◌, ◌↔◌, ℕ, ◌+◌, ◌*◌, ◌<◌, List, length, All, Ok}
use Rattle.walk_laws.specs.declared.entry.Entry.{Entry}
use Rattle.entry_vias.specs.RowVias.{HaveVias}
use Rattle.index_file.specs.Layout.{index_bytes, via_bytes, entry_count}
use Rattle.index_file.specs.Judging.{index_of}
use Rattle.index_file.specs.Stored.{IsStored, file_bytes}
use Rattle.index_file.specs.declared.stored_index.StoredIndex.{StoredIndex}

-- bytes without fault are the layout of exactly one well formed index, with vias or without
abbrev pub BytesAreOfOneIndex : Type 0
BytesAreOfOneIndex = (bytes : List ℕ) (stored : StoredIndex) → All (λ b. b < 256) bytes → (index_of bytes ≡ Ok stored) ↔ (IsStored stored × (bytes ≡ file_bytes stored))

-- what any numbers stand for is well formed, and its vias may stand beside its rows
abbrev pub WhatIsReadIsAnIndex : Type 0
WhatIsReadIsAnIndex = (bytes : List ℕ) (stored : StoredIndex) → index_of bytes ≡ Ok stored → IsStored stored

-- the layout of n nodes with e entries has 12 + 8 n + 12 e bytes
abbrev pub IndexesHaveTheirSize : Type 0
IndexesHaveTheirSize = (at : List ℕ) (rows : List (List Entry)) → length rows ≡ length at → length (index_bytes at rows) ≡ 12 + 8 * length at + 12 * entry_count rows

-- and 12 + 8 n + 16 e with a via for each entry
abbrev pub TracedIndexesHaveTheirSize : Type 0
TracedIndexesHaveTheirSize = (at : List ℕ) (rows : List (List Entry)) (vias : List (List ℕ)) → length rows ≡ length at → HaveVias rows vias → length (via_bytes at rows vias) ≡ 12 + 8 * length at + 16 * entry_count rows
