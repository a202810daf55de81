-- The judgement of any list of bytes: a fold over bytes, which judges each field as soon as it is whole.
use Rattle.std.specs.Prelude.{ℕ, ◌+◌, ◌^◌, ◌==◌, nat_le, List, [], ◌∷◌, ◌++◌, length, slice_index, true, false, is_some, if◌then◌else◌, Option, Some, None, Result, Ok, Err}
use Rattle.byteorder.specs.Endian.{big_number}
use Rattle.walk_laws.specs.declared.entry.Entry.{Entry}
use Rattle.index_file.specs.declared.fault.IndexFault.{IndexFault}
use Rattle.index_file.specs.declared.fault.IndexFault.TheVariants as fault
use Rattle.index_file.specs.declared.next.Next.{Next}
use Rattle.index_file.specs.declared.next.Next.TheVariants.{Letter, Version, Size, Node, Count, Position, Distance, Via, End}
use Rattle.index_file.specs.Layout.{letters}
use Rattle.index_file.specs.declared.stored_index.StoredIndex.{StoredIndex}
use Rattle.index_file.specs.Parts.{Names, ReadRows, Part, with_node, is_new_node, no_rows, with_row, next_node, next_own, no_entries, with_entry, with_via, is_next_position, is_next_distance, is_next_via}
use Rattle.index_file.specs.Stored.{stored_index}

-- where nothing has failed, what comes next
infixl 10 ◌>>=◌
abbrev pub ◌>>=◌ : {A B : Type 0} → Result A IndexFault → (A → Result B IndexFault) → Result B IndexFault
(Ok x) >>= f = f x
(Err e) >>= f = Err e

-- ---- which field follows

-- after a row there is the next row, or the end
abbrev pub after_row : ReadRows → Next
after_row done = if length done.rows == length done.order then End done else Count done

-- after an entry there is the next entry, or the row is done
abbrev pub after_entry : ReadRows → Part → Next
after_entry done part =
    if length part.entries == part.count
    then after_row (with_row done part.entries part.vias)
    else Position done part

-- after the distance of an entry there is its via, where the index has such
abbrev pub after_distance : ReadRows → Part → Entry → Next
after_distance done part e = if is_some done.vias then Via done part e else after_entry done (with_entry part e)

-- after a node of the order there is the next one, or the first row
abbrev pub after_node : Names → Next
after_node names =
    if length names.order == names.n
    then after_row (no_rows names)
    else Node names

-- ---- one field

-- how many bytes the next field has; after the end each byte is one field too many
abbrev pub width : Next → ℕ
width Letter = 1
width Version = 1
width (Size traced) = 4
width (Node names) = 4
width (Count done) = 4
width (Position done part) = 4
width (Distance done part pos) = 8
width (Via done part e) = 4
width (End done) = 1

-- what the whole field x, which begins at the offset `at`, makes of the fields before it
abbrev pub after_field : ℕ → Next → ℕ → Result Next IndexFault
after_field at Letter x = if x == slice_index letters at then Ok (if at == 6 then Version else Letter) else Err (fault.Magic at)
after_field at Version x = if x == 1 then Ok (Size false) else (if x == 2 then Ok (Size true) else Err (fault.Version x))
after_field at (Size traced) x = if nat_le x (2 ^ 30) then Ok (after_node (record { n = x; order = []; traced = traced })) else Err (fault.Size x)
after_field at (Node names) x =
    if is_new_node names x
    then Ok (after_node (with_node names x))
    else Err (fault.Order (length names.order))
after_field at (Count done) x =
    if x == 0
    then Err (fault.Row (next_node done) 0)
    else Ok (Position done (no_entries x))
after_field at (Position done part) x =
    if is_next_position (next_own done) part x
    then Ok (Distance done part x)
    else Err (fault.Row (next_node done) (length part.entries))
after_field at (Distance done part pos) x =
    if is_next_distance part x
    then Ok (after_distance done part (record { pos = pos; dist = x }))
    else Err (fault.Distance (next_node done) (length part.entries))
after_field at (Via done part e) x =
    if is_next_via (length done.order) (next_node done) part x
    then Ok (after_entry done (with_via (with_entry part e) x))
    else Err (fault.Via (next_node done) (length part.entries))
after_field at (End done) x = Err (fault.Long at)

-- ---- any bytes

-- what the whole fields came to, the bytes of the field that isn't whole, and the offset at which that field begins
pub record Reached : Type 0 where
  pub next : Next
  pub held : List ℕ
  pub at : ℕ

-- before any byte
abbrev pub start : Reached
start = record { next = Letter; held = []; at = 0 }

-- after a whole field
abbrev pub after_whole : Reached → List ℕ → Result Reached IndexFault
after_whole p field = after_field p.at p.next (big_number (length field) field) >>= λ next. Ok (record { next = next; held = []; at = p.at + length field })

-- after one byte more, which may make a field whole
abbrev pub after_byte : Reached → ℕ → Result Reached IndexFault
after_byte p b =
    if length p.held + 1 == width p.next
    then after_whole p (p.held ++ b ∷ [])
    else Ok (record { next = p.next; held = p.held ++ b ∷ []; at = p.at })

-- after all these bytes more
abbrev pub fed : Result Reached IndexFault → List ℕ → Result Reached IndexFault
fed reached [] = reached
fed reached (b ∷ bytes) = fed (reached >>= λ p. after_byte p b) bytes

-- the fault so far
abbrev pub fault_of : Result Reached IndexFault → Option IndexFault
fault_of (Ok p) = None
fault_of (Err e) = Some e

-- the index where the bytes end here; they are short anywhere but at the end
abbrev pub end_of_fields : ℕ → Next → Result StoredIndex IndexFault
end_of_fields size (End done) = Ok (stored_index done.order done.rows done.vias)
end_of_fields size _ = Err (fault.Short size)

abbrev pub end_of : Result Reached IndexFault → Result StoredIndex IndexFault
end_of reached = reached >>= λ p. end_of_fields (p.at + length p.held) p.next

-- the first fault among the fields that are whole by the end of bytes that follow
abbrev pub fault_after : Result Reached IndexFault → List ℕ → Option IndexFault
fault_after reached bytes = fault_of (fed reached bytes)

-- the index that is whole with bytes that follow, or else the first fault
abbrev pub index_after : Result Reached IndexFault → List ℕ → Result StoredIndex IndexFault
index_after reached bytes = end_of (fed reached bytes)

-- the first fault among the fields that are whole by the end of the bytes
abbrev pub fault_within : List ℕ → Option IndexFault
fault_within bytes = fault_after (Ok start) bytes

-- the index that the bytes stand for, or else their first fault
abbrev pub index_of : List ℕ → Result StoredIndex IndexFault
index_of bytes = index_after (Ok start) bytes
