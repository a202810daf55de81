-- The vias that may stand beside the entries of an index.
use Rattle.std.specs.Prelude.{◌≡◌, ℕ, ◌<◌, ◌≤◌, ⊤, List, Option, Some, None, length, slice_get}
use Rattle.walk_laws.specs.declared.entry.Entry.{Entry}
use Rattle.entry_vias.specs.RowVias.{HaveVias, via_row}

-- the vias, where there are any, may stand beside these rows
abbrev pub MayStand : List (List Entry) → Option (List (List ℕ)) → Type 0
MayStand rows None = ⊤
MayStand rows (Some vias) = HaveVias rows vias

-- the row of v has an entry at the place k, as far as vias tell
abbrev pub HasPlace : Option (List (List ℕ)) → ℕ → ℕ → Type 0
HasPlace None v k = ⊤
HasPlace (Some vias) v k = (1 ≤ v) × (v ≤ length vias) × (k < length (via_row vias v))

-- the entry at the place k of the row of v goes by y, where there are vias
abbrev pub GoesBy : Option (List (List ℕ)) → ℕ → ℕ → ℕ → Type 0
GoesBy None v k y = ⊤
GoesBy (Some vias) v k y = slice_get (via_row vias v) k ≡ Some y
