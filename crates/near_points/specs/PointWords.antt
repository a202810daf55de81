-- The entries of the rows of points as numbers, in lists by position (pruned landmark labelling, SIGMOD 2013).
use Rattle.std.specs.Prelude.{◌≡◌, ℕ, ◌+◌, ◌*◌, ◌/◌, ◌%◌, ◌^◌, ◌<◌, ◌≤◌, List, All, Contains, length, slice_index_or}
use Rattle.std.specs.List.Sorted.{IsNonDecreasing}
use Rattle.walk_laws.specs.declared.entry.Entry.{Entry}
use Rattle.walk_laws.specs.Labelling.{label_row}
use Rattle.hub_index.specs.HubIndex.{HubIndex}

-- an entry of a point's row as a word: it rises with the position, then the distance, then the point
abbrev pub word_of : ℕ → ℕ → ℕ → ℕ
word_of pos dist node = (pos * 2 ^ 64 + dist) * 2 ^ 32 + node

-- what a word says
abbrev pub word_pos : ℕ → ℕ
word_pos word = word / 2 ^ 32 / 2 ^ 64

abbrev pub word_dist : ℕ → ℕ
word_dist word = word / 2 ^ 32 % 2 ^ 64

abbrev pub word_node : ℕ → ℕ
word_node word = word % 2 ^ 32

-- the word at a place; 0 past the end
abbrev pub word_at : List ℕ → ℕ → ℕ
word_at words i = slice_index_or words i 0

-- the word of an entry of a point's row
pub record IsPointWord (rows : List (List Entry)) (nodes : List ℕ) (word : ℕ) : Type 0 where
  pub node : ℕ
  pub entry : Entry
  pub point : Contains nodes node
  pub held : Contains (label_row rows node) entry
  pub is : word ≡ word_of entry.pos entry.dist node

-- the words of the rows of the points, all of them and no others
pub record AreWordsOf (rows : List (List Entry)) (nodes : List ℕ) (words : List ℕ) : Type 0 where
  pub each : All (IsPointWord rows nodes) words
  pub all : (v : ℕ) (e : Entry) → Contains nodes v → Contains (label_row rows v) e → Contains words (word_of e.pos e.dist v)

-- the words of lesser positions stand before the place, and all others don't
pub record IsStart (words : List ℕ) (pos place : ℕ) : Type 0 where
  pub within : place ≤ length words
  pub before : (i : ℕ) → i < place → word_pos (word_at words i) < pos
  pub after : (i : ℕ) → place ≤ i → i < length words → pos ≤ word_pos (word_at words i)

-- where the words of each position start, and where those of the last one end
abbrev pub AreStarts : List ℕ → List ℕ → Type 0
AreStarts words starts = (p : ℕ) → p < length starts → IsStart words p (slice_index_or starts p 0)

-- the rows of the points by position: the words in their order, and where those of each position start
pub record IsInverted (index : HubIndex) (nodes words starts : List ℕ) : Type 0 where
  pub within : All (λ v. (1 ≤ v) × (v ≤ length index.order)) nodes
  pub are : AreWordsOf index.rows nodes words
  pub rising : IsNonDecreasing words
  pub size : length starts ≡ length index.order + 1
  pub starts_are : AreStarts words starts
