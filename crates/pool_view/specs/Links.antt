-- A chain of links through a list of entries: what it has from a link on.
use Rattle.std.specs.Prelude.{◌≡◌, ℕ, zero, suc, ◌-◌, ◌<◌, ◌≤◌, List, [], ◌∷◌, get_or, length}
use Rattle.walk_laws.specs.declared.entry.Entry.{Entry}
use Rattle.hub_index.specs.declared.node_entry.NodeEntry.{NodeEntry}
use Rattle.hub_index.specs.NodeEntries.{entry_of}

-- the link leads to this entry of the list, and that one's own link to one before it
pub record IsLink (entries : List NodeEntry) (nexts : List ℕ) (link : ℕ) (e : Entry) : Type 0 where
  pub from_one : 1 ≤ link
  pub within : link ≤ length nexts
  pub back : get_or nexts (link - 1) 0 < link
  pub entry_is : (d : NodeEntry) → entry_of (get_or entries (link - 1) d) ≡ e

-- the chain from a link on has these entries
abbrev pub IsChain : List NodeEntry → List ℕ → ℕ → List Entry → Type 0
IsChain entries nexts link [] = link ≡ 0
IsChain entries nexts link (e ∷ es) = IsLink entries nexts link e × IsChain entries nexts (get_or nexts (link - 1) 0) es

-- the entries of the chain from a link on, which has at most so many
abbrev pub chain_from : List NodeEntry → List ℕ → ℕ → ℕ → List Entry
chain_from entries nexts link zero = []
chain_from entries nexts zero (suc many) = []
chain_from entries nexts (suc place) (suc many) = entry_of (get_or entries place (record { node = 0; pos = 0; dist = 0 })) ∷ chain_from entries nexts (get_or nexts place 0) many
