-- The table of files that a map of texts holds.
use Rattle.std.specs.Prelude.{ℕ, List, map, String, Vec}
use Rattle.std.specs.FinMap.{from_entries}
use Rattle.std.specs.String.{string_bytes}
use Rattle.desk_io.specs.Contents.{Files}

-- each name with its bytes
abbrev pub files_of : {Y Z : Type 0} → List (String Y × Vec ℕ Z) → Files
files_of entries = from_entries (map (λ e. (string_bytes e.0, e.1.items)) entries)
