-- What the last seat gets where the rows are closed.
use Rattle.std.proofs.Common.{◌≡◌, ◌≢◌, ⊎_elim, ℕ, ◌-◌, ◌≤◌, List, All, IsPermutation, length, sym, ap, ◌∙◌, subst}
use Rattle.std.specs.Prelude.{None}
use mathlib.Core.Option.{some, some-injective}
use native.Mathlib.Decide.{ℕ_discrete}
use mathlib.Core.Logic.{dite}
use lib.ListN.{get_elem?}
use Rattle.atomic_table.specs.Table.{Final, Seen}
use Rattle.walk_laws.specs.declared.entry.Entry.{Entry}
use Rattle.walk_laws.specs.Joined.{Joined}
use Rattle.walk_laws.specs.Labelling.{EntryFits, label_row}
use Rattle.hub_index.specs.Views.{IsNode, GoesOnFrom}
use Rattle.table_seats.specs.Numbers.{numbers}
use Rattle.table_seats.proofs.Counting.{times, times-flat_map, times-permutation, permutation-times}
use Rattle.label_rows.specs.declared.rule.About.{About}
use Rattle.table_seats.specs.declared.seat_view.SeatView.{SeatView}
use Rattle.label_rows.specs.declared.rule.View.{View}
use Rattle.label_rows.specs.Visits.{left_by, visits_of, puts_of, seen_of, places_of}
use Rattle.label_rows.specs.Lawful.{Table, IsFree, IsTaken, IsRowOf, IsSeated, IsLawful, nothing}
use Rattle.table_seats.proofs.EachSeat.{at_or, one_of}
use Rattle.table_seats.proofs.Seating.{others_empty}
use Rattle.label_rows.proofs.PutRows.{puts-row, row_seen}
use Rattle.label_rows.proofs.Steps.{places_at}
use Rattle.label_rows.proofs.Lock.{no_lock}

-- what comes out where the last seat closes the rows
pub record IsClosed (about : About) (me : SeatView View) (rows : List (List Entry)) : Type 0 where
  pub size : length rows ≡ length about.ranking.value
  pub puts : (v : ℕ) → IsNode (length about.ranking.value) v → IsPermutation (puts_of me.knows.visits v) (label_row rows v)
  pub seen : (v : ℕ) → IsNode (length about.ranking.value) v → label_row rows v ≡ seen_of me.knows.visits v
  pub visited : (v : ℕ) → IsNode (length about.ranking.value) v → All (λ x. GoesOnFrom (left_by x) (label_row rows v)) (visits_of me.knows.visits v)
  pub fit : (v : ℕ) → IsNode (length about.ranking.value) v → All (EntryFits (Joined about.graph.value.edges) about.ranking.value v) (label_row rows v)

module _ (about : About) (s : Table) (id : ℕ) (me : SeatView View) (at : get_elem? s.views id ≡ some me) (lawful : IsLawful about s) (live : 1 ≤ me.seats) (last : me.seats ≡ about.seats) (empty : me.knows.hold ≡ None) where
  others_none : (j : ℕ) (seat : SeatView View) → j ≢ id → get_elem? s.views j ≡ some seat → seat.knows ≡ nothing
  others_none = others_empty about.seats (IsSeated about) nothing s.views id me lawful.seating at last

  module _ (v : ℕ) (node : IsNode (length about.ranking.value) v) where
    -- the row is at home
    free_at_last : (row : List Entry) → IsRowOf about s v row → IsFree s v row
    free_at_last row old = ⊎_elim (λ (free : IsFree s v row). free) (λ (taken : IsTaken s v row). absurd (by_nobody taken)) old.place
      where
        by_nobody : IsTaken s v row → ⊥
        by_nobody taken = dite (ℕ_discrete taken.by id)
            (λ mine. no_lock me v row empty (ap (λ (x : SeatView View). x.knows.hold) (some-injective me taken.holder (sym at ∙ ap (get_elem? s.views) (sym mine) ∙ taken.there)) ∙ taken.holds))
            (λ other. no_lock taken.holder v row (ap (λ (x : View). x.hold) (others_none taken.by taken.holder other taken.there)) taken.holds)

    -- all entries were put by visits of the last seat
    own_places : (row : List Entry) → IsRowOf about s v row → IsPermutation (places_of me.knows.visits v) (numbers 0 (length row))
    own_places row old = permutation-times _ _ (λ x.
        let none : (j : ℕ) (seat : SeatView View) → j ≢ id → get_elem? s.views j ≡ some seat → times x (places_at v seat) ≡ 0 =
        λ j seat apart there. ap (λ (y : View). times x (places_of y.visits v)) (others_none j seat apart there) in
        let all = times-flat_map (places_at v) x s.views ∙ one_of (λ seat. times x (places_at v seat)) s.views id me at none in
        sym all ∙ times-permutation x _ _ old.each_once)

pub closes : (about : About) (id : ℕ) (me : SeatView View) (words : List ℕ) (rows : List (List Entry)) → 1 ≤ me.seats → me.seats ≡ about.seats → me.knows.hold ≡ None
    → Final (Seen (IsLawful about) id me) words rows → IsClosed about me rows
closes about id me words rows live last empty final =
    let s = final.0 in
    let lawful = final.1.0 in
    let at = final.1.1 in
    let row_is : (v : ℕ) (node : IsNode (length about.ranking.value) v) → label_row rows v ≡ (lawful.rows v node).0 =
    λ v node. at_or rows (v - 1) (lawful.rows v node).0 (final.4 (v - 1) (lawful.rows v node).0 (free_at_last about s id me at lawful live last empty v node (lawful.rows v node).0 (lawful.rows v node).1).at_home) in
    record {
      size = sym final.3 ∙ lawful.slots;
      puts = λ v node. subst (IsPermutation (puts_of me.knows.visits v)) (sym (row_is v node))
          (puts-row (lawful.rows v node).0 (visits_of me.knows.visits v) ((lawful.rows v node).1.visited id me at) (own_places about s id me at lawful live last empty v node (lawful.rows v node).0 (lawful.rows v node).1));
      seen = λ v node. row_is v node ∙ row_seen (lawful.rows v node).0 (visits_of me.knows.visits v) ((lawful.rows v node).1.visited id me at) (own_places about s id me at lawful live last empty v node (lawful.rows v node).0 (lawful.rows v node).1);
      visited = λ v node. subst (λ row. All (λ x. GoesOnFrom (left_by x) row) (visits_of me.knows.visits v)) (sym (row_is v node)) ((lawful.rows v node).1.visited id me at);
      fit = λ v node. subst (All (EntryFits (Joined about.graph.value.edges) about.ranking.value v)) (sym (row_is v node)) (lawful.rows v node).1.fit;
    }
