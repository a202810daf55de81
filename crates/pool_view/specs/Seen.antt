-- What a worker saw of the chain of a node, by what its seat found and put there.
use Rattle.std.specs.Prelude.{◌≡◌, ℕ, ◌≤◌, List, [], ◌∷◌, ◌++◌, All, length, reverse, nat_eq, nat_lt, if◌then◌else◌}
use Rattle.walk_laws.specs.declared.entry.Entry.{Entry}
use Rattle.hub_index.specs.Views.{StandsIn}
use Rattle.label_pool.specs.declared.rule.Linked.{Linked}
use Rattle.label_pool.specs.declared.rule.Look.{Look}
use Rattle.label_pool.specs.Chains.{IsTailOf, entries_of, seen_of}

-- the chain that the last visit of v found, of visits in this order
abbrev pub last_found : List Look → ℕ → List Linked
last_found looks v = seen_of (reverse looks) v

-- the entry of the first cell, before these
abbrev pub first_entry : List Linked → List Entry → List Entry
first_entry [] es = es
first_entry (l ∷ ls) es = l.entry ∷ es

-- what was put at v since its chain had n cells, newest first: the first entries of the longer marks
abbrev pub put_since : List Look → ℕ → ℕ → List Entry
put_since [] v n = []
put_since (m ∷ ms) v n = if nat_eq m.node v then (if nat_lt n (length m.found) then first_entry m.found (put_since ms v n) else put_since ms v n) else put_since ms v n

-- what was seen of the chain of v, newest first: what the worker put there since its last visit, and what that visit found
abbrev pub seen_chain : List Look → List Look → ℕ → List Entry
seen_chain looks marks v = put_since marks v (length (last_found looks v)) ++ entries_of (last_found looks v)

-- what was seen of v is right: the newest mark there is the longest, the chain of the last visit is its end, what was seen stands in it, and each entry that was seen keeps the fact
pub record IsSeen (fact : Entry → Type 0) (looks marks : List Look) (v : ℕ) : Type 0 where
  pub longest : All (λ m. m.node ≡ v → length m.found ≤ length (seen_of marks v)) marks
  pub tail : IsTailOf (last_found looks v) (seen_of marks v)
  pub stands : StandsIn (seen_chain looks marks v) (entries_of (seen_of marks v))
  pub met : All fact (seen_chain looks marks v)
