-- What holds of all that bytes lead to.
use Rattle.std.specs.Prelude.{◌≡◌, ◌≢◌, ℕ, ◌^◌, ◌<◌, ◌≤◌, ◌∷◌, ◌++◌, [], nat_eq, Bool, true, is_some, if◌then◌else◌, List, length, take, map, flat_map, All, Option, Some, None}
use Rattle.std.specs.List.{IsDistinct}
use Rattle.std.specs.List.Sorted.{IsStrictlyIncreasing}
use Rattle.walk_laws.specs.Ranking.{IsRanking}
use Rattle.walk_laws.specs.Labelling.{label_row}
use Rattle.walk_laws.specs.declared.entry.Entry.{Entry}
use Rattle.hub_index.specs.WellFormed.{IsWellFormedRow}
use Rattle.entry_vias.specs.RowVias.{via_row, IsViaRow}
use Rattle.index_file.specs.declared.next.Next.{Next}
use Rattle.index_file.specs.declared.next.Next.TheVariants.{Letter, Version, Size, Node, Count, Position, Distance, Via, End}
use Rattle.index_file.specs.Layout.{letters, word, entry_bytes, entries_bytes, head_bytes, stored_bytes}
use Rattle.index_file.specs.Parts.{Names, ReadRows, Part, least_after, next_node, next_own, is_next_position, is_next_distance}
use Rattle.index_file.specs.Judging.{Reached, width}

-- distinct nodes of 1..n, and at most 2^30 of them
pub record AreNames (names : Names) : Type 0 where
  pub small : names.n ≤ 2 ^ 30
  pub node : All (λ v. (1 ≤ v) × (v ≤ names.n)) names.order
  pub once : IsDistinct nat_eq names.order
  pub size : length names.order ≤ names.n

-- vias that the rows of the first nodes may have beside them in an index of n nodes
pub record HaveViasOf (n : ℕ) (rows : List (List Entry)) (vias : List (List ℕ)) : Type 0 where
  pub size : length vias ≡ length rows
  pub row : (v : ℕ) → 1 ≤ v → v ≤ length rows → IsViaRow n v (label_row rows v) (via_row vias v)

-- such, where the index has vias
abbrev pub HaveTheirVias : ℕ → List (List Entry) → Option (List (List ℕ)) → Type 0
HaveTheirVias n rows None = Unit {0}
HaveTheirVias n rows (Some vias) = HaveViasOf n rows vias

-- a ranking, and well formed rows of its first nodes
pub record AreRows (done : ReadRows) : Type 0 where
  pub ranking : IsRanking done.order
  pub small : length done.order ≤ 2 ^ 30
  pub size : length done.rows ≤ length done.order
  pub row : (v : ℕ) → 1 ≤ v → v ≤ length done.rows → IsWellFormedRow done.order v (label_row done.rows v)
  pub vias : HaveTheirVias (length done.order) done.rows done.vias

-- entries that may stand before the last one of a row, which has the position `own`
pub record IsPart (own : ℕ) (part : Part) : Type 0 where
  pub rising : IsStrictlyIncreasing (map (λ e. e.pos) part.entries)
  pub below : least_after part.entries ≤ own
  pub far : All (λ e. (1 ≤ e.dist) × (e.dist < 2 ^ 64)) part.entries
  pub more : length part.entries < part.count

-- vias that may stand before the last one of the row of v in an index of n nodes, one for each entry
pub record ArePartVias (n v : ℕ) (part : Part) : Type 0 where
  pub size : length part.vias ≡ length part.entries
  pub node : All (λ y. (1 ≤ y) × (y ≤ n) × (y ≢ v)) part.vias

-- such, where the index has vias
abbrev pub HasPartVias : Option (List (List ℕ)) → ℕ → ℕ → Part → Type 0
HasPartVias None n v part = Unit {0}
HasPartVias (Some vias) n v part = ArePartVias n v part

-- rows of which one is being read
pub record AreReading (done : ReadRows) (part : Part) : Type 0 where
  pub rows : AreRows done
  pub more : length done.rows < length done.order
  pub entries : IsPart (next_own done) part
  pub vias : HasPartVias done.vias (length done.order) (next_node done) part

-- the fields so far are as the layout has them
abbrev pub IsSoundNext : ℕ → Next → Type 0
IsSoundNext at Letter = at < 7
IsSoundNext at Version = Unit {0}
IsSoundNext at (Size traced) = Unit {0}
IsSoundNext at (Node names) = AreNames names × (length names.order < names.n)
IsSoundNext at (Count done) = AreRows done × (length done.rows < length done.order)
IsSoundNext at (Position done part) = AreReading done part
IsSoundNext at (Distance done part pos) = AreReading done part × (is_next_position (next_own done) part pos ≡ true)
IsSoundNext at (Via done part e) = AreReading done part × (is_next_position (next_own done) part e.pos ≡ true) × (is_next_distance part e.dist ≡ true) × (is_some done.vias ≡ true)
IsSoundNext at (End done) = AreRows done × (length done.rows ≡ length done.order)

-- the version of an index with vias, or without
abbrev pub version_for : Bool → ℕ
version_for traced = if traced then 2 else 1

-- the bytes of the rows that are done, and of those of a row
abbrev pub done_bytes : ReadRows → List ℕ
done_bytes done = stored_bytes done.order done.rows done.vias

abbrev pub part_bytes : ReadRows → Part → List ℕ
part_bytes done part = entries_bytes done.vias part.entries part.vias

-- and these are their bytes
abbrev pub bytes_before : ℕ → Next → List ℕ
bytes_before at Letter = take at letters
bytes_before at Version = letters
bytes_before at (Size traced) = letters ++ version_for traced ∷ []
bytes_before at (Node names) = head_bytes (version_for names.traced) names.n ++ flat_map word names.order
bytes_before at (Count done) = done_bytes done
bytes_before at (Position done part) = done_bytes done ++ (word part.count ++ part_bytes done part)
bytes_before at (Distance done part pos) = done_bytes done ++ (word part.count ++ (part_bytes done part ++ word pos))
bytes_before at (Via done part e) = done_bytes done ++ (word part.count ++ (part_bytes done part ++ entry_bytes e))
bytes_before at (End done) = done_bytes done

-- the fields are sound, the next one isn't whole, and it begins where they end
pub record IsSound (p : Reached) : Type 0 where
  pub fields : IsSoundNext p.at p.next
  pub held : length p.held < width p.next
  pub fits : All (λ b. b < 256) p.held
  pub offset : p.at ≡ length (bytes_before p.at p.next)
