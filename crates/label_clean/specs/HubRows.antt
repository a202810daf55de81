-- Entries of hubs, in any order, and the rows that are gathered of them.
use Rattle.std.specs.Prelude.{◌≡◌, ◌↔◌, ℕ, ◌-◌, ◌<◌, ◌≤◌, ◌==◌, List, [], Vec, Contains, filter, flat_map, get_or, length, map}
use Rattle.std.specs.List.Sorted.{IsStrictlyIncreasing}
use Rattle.std.specs.declared.alloc.Global.{Global}
use Rattle.walk_laws.specs.declared.entry.Entry.{Entry}
use Rattle.label_clean.specs.declared.hub_rows.HubEntry.{HubEntry}
use Rattle.label_clean.specs.RawRows.{HasEachOnce}

-- a row for each of the hubs at the positions from a first one on
pub record RowsFrom : Type 0 where
  pub first : ℕ
  pub rows : List (List Entry)

-- the entries of all lists, one list after another
abbrev pub all_hub_entries : List (Vec HubEntry Global) → List HubEntry
all_hub_entries lists = flat_map (λ list. list.items) lists

-- the entries of the hub at the position q among those of several
abbrev pub entries_of_hub : List HubEntry → ℕ → List Entry
entries_of_hub entries q = map (λ e. e.entry) (filter (λ e. e.of == q) entries)

-- there is a row for each position from the first one on and below the next, which has the entries of the hub there, and where these have each position once, they stand by rising position
pub record AreGathered (first next : ℕ) (entries : List HubEntry) (hubs : RowsFrom) : Type 0 where
  pub first_is : hubs.first ≡ first
  pub size : length hubs.rows ≡ next - first
  pub each : (q : ℕ) → first ≤ q → q < next → (e : Entry) → Contains (get_or hubs.rows (q - first) []) e ↔ Contains entries (record { of = q; entry = e })
  pub rising : (q : ℕ) → first ≤ q → q < next → HasEachOnce (entries_of_hub entries q) → IsStrictlyIncreasing (map (λ e. e.pos) (get_or hubs.rows (q - first) []))
