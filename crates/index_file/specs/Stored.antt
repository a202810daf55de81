-- An index as a file has it, with vias or without.
use Rattle.std.specs.Prelude.{ℕ, List, Option, Some, None}
use Rattle.walk_laws.specs.declared.entry.Entry.{Entry}
use Rattle.hub_index.specs.HubIndex.{HubIndex}
use Rattle.hub_index.specs.WellFormed.{IsWellFormed}
use Rattle.entry_vias.specs.RowVias.{HaveVias}
use Rattle.index_file.specs.Layout.{index_bytes, via_bytes}
use Rattle.index_file.specs.declared.stored_index.StoredIndex.{StoredIndex}
use Rattle.index_file.specs.declared.stored_index.StoredIndex.TheVariants.{Plain, Traced}

-- the index, without its vias
abbrev pub without_vias : StoredIndex → HubIndex
without_vias (Plain i) = i
without_vias (Traced t) = record { order = t.order; rows = t.rows }

-- the index of this order and these rows, with these vias or without
abbrev pub stored_index : List ℕ → List (List Entry) → Option (List (List ℕ)) → StoredIndex
stored_index order rows None = Plain (record { order = order; rows = rows })
stored_index order rows (Some vias) = Traced (record { order = order; rows = rows; vias = vias })

-- it is well formed, and what vias it has may stand beside its rows
abbrev pub IsStored : StoredIndex → Type 0
IsStored (Plain i) = IsWellFormed i.order i.rows
IsStored (Traced t) = IsWellFormed t.order t.rows × HaveVias t.rows t.vias

-- its bytes: of version 1 without vias, of version 2 with them
abbrev pub file_bytes : StoredIndex → List ℕ
file_bytes (Plain i) = index_bytes i.order i.rows
file_bytes (Traced t) = via_bytes t.order t.rows t.vias
