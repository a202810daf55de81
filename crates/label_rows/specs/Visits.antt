-- What seats did at the nodes of rows, and what they saw and put there by it.
use Rattle.std.specs.Prelude.{ℕ, Option, Some, None, List, [], ◌∷◌, ◌++◌, map, filter, flat_map, length, nat_eq, nat_lt, if◌then◌else◌}
use Rattle.walk_laws.specs.declared.entry.Entry.{Entry}
use Rattle.hub_index.specs.declared.row_view.Offer.{Offer}
use Rattle.hub_index.specs.declared.row_view.Offer.TheVariants.{Put, Covered, NoMemory}
use Rattle.label_rows.specs.declared.rule.Visit.{Visit}

-- the entry that was put, if there is one, as a list
abbrev pub put_list : Option Entry → List Entry
put_list None = []
put_list (Some e) = e ∷ []

-- the entry that was put where an offer of it got this answer
abbrev pub put_by : Entry → Offer → Option Entry
put_by e Put = Some e
put_by e (Covered pos dist) = None
put_by e NoMemory = None

-- a visit of the node v
abbrev pub visit_of : ℕ → List Entry → Option Entry → Visit
visit_of v found put = record { node = v; found = found; put = put }

-- the row as the visit left it: the row that it found, with the entry that it put after it
abbrev pub left_by : Visit → List Entry
left_by x = x.found ++ put_list x.put

-- the visits of the node v
abbrev pub visits_of : List Visit → ℕ → List Visit
visits_of visits v = filter (λ x. nat_eq x.node v) visits

-- the entries that were put in the row of v, in the order of the visits
abbrev pub puts_of : List Visit → ℕ → List Entry
puts_of visits v = flat_map (λ x. put_list x.put) (visits_of visits v)

abbrev pub longer : List Entry → List Entry → List Entry
longer a b = if nat_lt (length b) (length a) then a else b

abbrev pub longest : List (List Entry) → List Entry
longest [] = []
longest (x ∷ xs) = longer x (longest xs)

-- the longest row that a visit of v left, and none without a visit
abbrev pub seen_of : List Visit → ℕ → List Entry
seen_of visits v = longest (map left_by (visits_of visits v))

-- where an entry was put: after so many entries
abbrev pub place_of : Option Entry → ℕ → List ℕ
place_of None n = []
place_of (Some e) n = n ∷ []

-- the places, from 0, of the entries that were put in the row of v
abbrev pub places_of : List Visit → ℕ → List ℕ
places_of visits v = flat_map (λ x. place_of x.put (length x.found)) (visits_of visits v)
