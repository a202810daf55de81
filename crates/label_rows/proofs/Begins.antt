-- New rows keep the rule.
use Rattle.std.proofs.Common.{◌≡◌, ℕ, ◌+◌, ◌-◌, ◌<◌, ◌≤◌, inl, List, [], length, replicate, refl, sym, ap, ◌∙◌, arith}
use Rattle.std.specs.Prelude.{map, slice_index}
use Rattle.std.proofs.lemmas.List.{get_or-replicate, length-replicate, length-map}
use Rattle.std.proofs.lemmas.List.Elements.{All-nil}
use Rattle.std.proofs.lemmas.List.Sorted.{IsPermutation-refl}
use mathlib.Core.Option.{some}
use lib.ListN.{get_elem?}
use Rattle.atomic_table.specs.Table.{opening}
use Rattle.atomic_table.proofs.Lists.{at_index, at_map}
use Rattle.walk_laws.specs.declared.entry.Entry.{Entry}
use Rattle.walk_laws.specs.Joined.{Joined}
use Rattle.walk_laws.specs.Labelling.{EntryFits}
use Rattle.hub_index.specs.Views.{GoesOnFrom}
use Rattle.label_rows.specs.declared.rule.About.{About}
use Rattle.label_rows.specs.Visits.{left_by}
use Rattle.label_rows.specs.Lawful.{Table, Holds, IsRowOf, IsSeated, IsLawful, first_view, first_known, nothing}
use Rattle.table_seats.proofs.Seating as seating
use Rattle.table_seats.proofs.EachSeat.{Each-one}
use Rattle.label_rows.proofs.Lock.{no_lock}

no_entries : List Entry
no_entries = []

module _ (about : About) (n : ℕ) (size : length about.ranking.value ≡ n) (some_seat : 1 ≤ about.seats) (few : about.seats ≤ 64) where
  abbrev Opened : Table
  Opened = opening (replicate (n + 1) 0) (replicate n []) (first_view about)

  word_of : (v : ℕ) → v ≤ n → slice_index (replicate (n + 1) 0) v ≡ 0
  word_of v within = get_or-replicate (n + 1) v 0 0 (omega (arith, within))

  home_of : (v : ℕ) → 1 ≤ v → v ≤ n → get_elem? (map some (replicate n no_entries)) (v - 1) ≡ some (some no_entries)
  home_of v from_one within =
      let inside : v - 1 < length (replicate n no_entries) = let l = length-replicate n no_entries in omega (arith, from_one, within) in
      at_map some (replicate n no_entries) (v - 1) no_entries (at_index (replicate n no_entries) (v - 1) no_entries inside (sym (get_or-replicate n (v - 1) no_entries no_entries (omega (arith, from_one, within)))))

  row_of : (v : ℕ) → 1 ≤ v → v ≤ n → IsRowOf about Opened v []
  unfolding no_entries
  row_of v from_one within = record {
    place = inl (record {
      word = word_of v within;
      at_home = home_of v from_one within;
      by_none = Each-one (λ seat. (found : List Entry) → ¬ Holds seat v found) (first_view about) (λ found. no_lock (first_view about) v found refl);
    });
    fit = All-nil (EntryFits (Joined about.graph.value.edges) about.ranking.value v);
    visited = Each-one _ (first_view about) (All-nil (λ x. GoesOnFrom (left_by x) []));
    each_once = IsPermutation-refl [];
  }

  pub begins : IsLawful about (opening (replicate (n + 1) 0) (replicate n []) (first_view about))
  unfolding no_entries
  begins = record {
    seating = seating.begins about.seats (IsSeated about) nothing (first_known about) some_seat few (record { edges = refl; order = refl; all = refl });
    words = length-replicate (n + 1) 0 ∙ ap (λ k. k + 1) (sym size);
    zero = word_of 0 (omega arith);
    slots = length-map (replicate n no_entries) some ∙ length-replicate n no_entries ∙ sym size;
    rows = λ v node. ([], row_of v node.from_one (omega (arith, node.up_to_n, size)));
  }
