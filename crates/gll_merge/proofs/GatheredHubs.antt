-- The late rows of the roots of a superstep, gathered of what all workers put.
use Rattle.std.proofs.Common.{◌≡◌, ℕ, eqb, ◌-◌, ◌<◌, ◌≤◌, List, [], ◌∷◌, Contains, get_or, length, map, refl, sym, subst, arith}
use Rattle.std.specs.Prelude.{Some, nat_lt, slice_get}
use Rattle.std.specs.List.Sorted.{IsPermutation}
use Rattle.std.proofs.Common.{inl, inr, false, lt-ltb}
use Rattle.std.proofs.lemmas.Bool.{cases_lt, le-ltb, ne_eqb}
use Rattle.std.proofs.lemmas.Map.Keys.{IsDistinct-cons, IsDistinct-tail}
use Rattle.std.proofs.lemmas.List.Elements.{All-contains, All-contains_itself, All-map, All-weaker, recursion_from_All}
use Rattle.walk_laws.specs.declared.graph.Edge.{Edge}
use Rattle.walk_laws.specs.declared.entry.Entry.{Entry}
use Rattle.walk_laws.specs.Joined.{Joined}
use Rattle.walk_laws.specs.Labelling.{EntryFits}
use Rattle.walk_laws.specs.Laws.{WeighAtLeastOne}
use Rattle.walk_laws.specs.Ranking.{IsRanking}
use Rattle.walk_laws.proofs.Filters.{Contains-filter, Contains-from_filter}
use Rattle.hub_index.specs.declared.node_entry.NodeEntry.{NodeEntry}
use Rattle.hub_index.specs.NodeEntries.{entries_of_node}
use Rattle.hub_index.specs.Views.{IsNode}
use Rattle.table_seats.specs.Numbers.{numbers}
use Rattle.label_clean.specs.declared.hub_rows.HubEntry.{HubEntry}
use Rattle.label_clean.specs.HubRows.{AreGathered, RowsFrom, entries_of_hub}
use Rattle.label_clean.specs.Joining.{IsHubRow, JoinsUnder}
use Rattle.label_clean.specs.RawRows.{HasEachOnce}
use Rattle.label_clean.proofs.Cleaned.{hub_node}
use Rattle.label_clean.proofs.Covering.{pos_of}
use Rattle.label_clean.proofs.RowFacts.{first_apart}
use Rattle.label_clean.proofs.GatheredHubs.{of_hub, to_hub}
use Rattle.gll_table.specs.Outputs.{HavePutOver}
use Rattle.gll_merge.proofs.NewRoots.{JoinsRow-new}
use Rattle.gll_table.specs.Partition.{entries_below}

-- a part of a row has each position once, too
once_below : (q : ℕ) (es : List Entry) → HasEachOnce es → HasEachOnce (entries_below q es)
once_below q [] once = once
once_below q (x ∷ es) once =
    let rest = once_below q es (IsDistinct-tail eqb x.pos (map pos_of es) once) in
    elim (cases_lt x.pos q) [
      | inr high ↦ subst HasEachOnce (sym (skipped high)) rest
      | inl low ↦
          subst HasEachOnce (sym (kept low))
          (IsDistinct-cons eqb x.pos (map pos_of (entries_below q es))
          (recursion_from_All (λ p. eqb x.pos p ≡ false) (map pos_of (entries_below q es))
          (All-map (λ p. eqb x.pos p ≡ false) pos_of (entries_below q es)
          (All-weaker (Contains (entries_below q es)) (λ (e : Entry). eqb x.pos e.pos ≡ false) (λ e has. ne_eqb x.pos e.pos (first_apart x e es once (Contains-from_filter (λ (e : Entry). nat_lt e.pos q) es e has))) (entries_below q es) (All-contains_itself (entries_below q es)))))
          rest)
    ]
  where
    kept : x.pos < q → entries_below q (x ∷ es) ≡ x ∷ entries_below q es
    kept low = rw (lt-ltb x.pos q low) refl

    skipped : q ≤ x.pos → entries_below q (x ∷ es) ≡ entries_below q es
    skipped high = rw (le-ltb x.pos q high) refl

module _ (edges : List Edge) (at : List ℕ) (weights : WeighAtLeastOne edges) (ranking : IsRanking at) (first next : ℕ) (up : first ≤ next) (roots : List ℕ) (list : List NodeEntry) (each_once : IsPermutation roots (numbers first next)) (over : HavePutOver edges at first roots list) (hubs : List HubEntry)
    (listed : (q h : ℕ) → first ≤ q → q < next → slice_get at q ≡ Some h → entries_of_hub hubs q ≡ entries_below q (entries_of_node list h)) (rows : RowsFrom) (gathered : AreGathered first next hubs rows) where
  module _ (q h : ℕ) (from : first ≤ q) (low : q < next) (is : slice_get at q ≡ Some h) where
    node : IsNode (length at) h
    node = let known = hub_node at ranking q h is in record { from_one = known.0; up_to_n = known.1 }

    abbrev row : List Entry
    row = get_or rows.rows (q - first) []

    -- the row has what was put at the hub with lower positions
    there : (e : Entry) → Contains (get_or rows.rows (q - first) []) e → Contains (entries_of_node list h) e
    there e has =
        let here : Contains (entries_of_hub hubs q) e = to_hub hubs q e ((gathered.each q from low e).0 has) in
        Contains-from_filter (λ (e : Entry). nat_lt e.pos q) (entries_of_node list h) e (subst (λ es. Contains es e) (listed q h from low is) here)

    back : (e : Entry) → Contains (entries_of_node list h) e → e.pos < q → Contains (get_or rows.rows (q - first) []) e
    back e has lower =
        let here : Contains (entries_below q (entries_of_node list h)) e = Contains-filter (λ (e : Entry). nat_lt e.pos q) (entries_of_node list h) e (lt-ltb e.pos q lower) has in
        (gathered.each q from low e).1 (of_hub hubs q e (subst (λ es. Contains es e) (sym (listed q h from low is)) here))

    IsHubRow-gathered : IsHubRow edges at first q h (get_or rows.rows (q - first) [])
    IsHubRow-gathered =
        let joins = JoinsRow-new edges at first next roots list each_once over h node in
        record {
          rising = gathered.rising q from low (subst HasEachOnce (sym (listed q h from low is)) (once_below q (entries_of_node list h) joins.once));
          fit = All-weaker (Contains (get_or rows.rows (q - first) [])) (EntryFits (Joined edges) at h) (λ e has. All-contains (EntryFits (Joined edges) at h) (entries_of_node list h) e joins.fit (there e has)) (get_or rows.rows (q - first) []) (All-contains_itself (get_or rows.rows (q - first) []));
          from = All-weaker (Contains (get_or rows.rows (q - first) [])) (λ (e : Entry). first ≤ e.pos) (λ e has. All-contains (λ (e : Entry). first ≤ e.pos) (entries_of_node list h) e joins.from (there e has)) (get_or rows.rows (q - first) []) (All-contains_itself (get_or rows.rows (q - first) []));
          hubs = λ e hub late lower. back e (joins.hubs e hub late (omega (arith, lower, low))) lower;
        }

  pub JoinsUnder-gathered : (v : ℕ) → IsNode (length at) v → JoinsUnder edges at first next rows.rows v
  JoinsUnder-gathered v is_node = record {
    weights = weights;
    ranking = ranking;
    node = is_node;
    up = up;
    size = gathered.size;
    each = λ q h from low is. IsHubRow-gathered q h from low is;
  }
