-- A split keeps the rule.
use Rattle.std.proofs.Common.{◌≡◌, inl, inr, ⊎_elim, ℕ, ◌+◌, ◌<◌, List, [], ◌∷◌, ◌++◌, All, length, set, refl, sym, ap, ◌∙◌, subst, arith}
use Rattle.std.specs.Prelude.{None, flat_map, IsPermutation}
use Rattle.std.proofs.lemmas.Grind.{flat_map-append}
use Rattle.std.proofs.lemmas.List.{append-nil}
use Rattle.std.proofs.lemmas.List.Elements.{All-nil}
use mathlib.Core.Option.{some}
use lib.ListN.{get_elem?}
use Rattle.atomic_table.proofs.Lists.{at_snoc, at_longer}
use Rattle.walk_laws.specs.declared.entry.Entry.{Entry}
use Rattle.hub_index.specs.Views.{GoesOnFrom}
use Rattle.table_seats.specs.Numbers.{numbers}
use Rattle.label_rows.specs.declared.rule.About.{About}
use Rattle.table_seats.specs.declared.seat_view.SeatView.{SeatView}
use Rattle.label_rows.specs.declared.rule.View.{View}
use Rattle.label_rows.specs.Visits.{left_by, visits_of, places_of}
use Rattle.label_rows.specs.Lawful.{Table, Holds, IsFree, IsTaken, IsRowOf, IsSeated, IsLawful, fresh, nothing}
use Rattle.table_seats.specs.Seats.{kept_of, given_of}
use Rattle.table_seats.proofs.Seating as seating
use Rattle.table_seats.proofs.EachSeat.{Each-push}
use Rattle.label_rows.proofs.Steps.{StillIn, places_at, row_still, seated_here}
use Rattle.label_rows.proofs.Lock.{no_lock}

-- a seat that has no lock and no visit comes to the table
row_with : (about : About) (s : Table) (seat : SeatView View) (v : ℕ) (row : List Entry) → seat.knows.hold ≡ None → seat.knows.visits ≡ [] → IsRowOf about s v row → IsRowOf about (record { words = s.words; homes = s.homes; views = s.views ++ seat ∷ [] }) v row
row_with about s seat v row empty new old = record {
  place = ⊎_elim
      (λ (free : IsFree s v row). inl (record {
        word = free.word;
        at_home = free.at_home;
        by_none = Each-push (λ x. (found : List Entry) → ¬ Holds x v found) s.views seat free.by_none (λ found. no_lock seat v found empty);
      }))
      (λ (taken : IsTaken s v row). inr (record {
        word = taken.word;
        by = taken.by;
        holder = taken.holder;
        there = at_longer s.views (seat ∷ []) taken.by taken.holder taken.there;
        holds = taken.holds;
        by_one = λ j x found there has. ⊎_elim
            (λ before. taken.by_one j x found before has)
            (λ last. absurd (no_lock seat v found empty (ap (λ (y : SeatView View). y.knows.hold) last ∙ has)))
            (at_snoc s.views seat x j there);
      }))
      old.place;
  fit = old.fit;
  visited = Each-push (StillIn v row) s.views seat old.visited (subst (λ visits. All (λ x. GoesOnFrom (left_by x) row) (visits_of visits v)) (sym new) (All-nil (λ x. GoesOnFrom (left_by x) row)));
  each_once =
      let none : places_at v seat ≡ [] = ap (λ visits. places_of visits v) new in
      let same = flat_map-append (places_at v) s.views (seat ∷ []) ∙ ap (λ ns. flat_map (places_at v) s.views ++ (ns ++ [])) none ∙ append-nil (flat_map (places_at v) s.views) in
      subst (λ ns. IsPermutation ns (numbers 0 (length row))) (sym same) old.each_once;
}

module _ (about : About) (s : Table) (id : ℕ) (me : SeatView View) (at : get_elem? s.views id ≡ some me) (lawful : IsLawful about s) (give : ℕ) (enough : give + 1 < me.seats) where
  -- another seat is split from it
  pub splits : IsLawful about (record { words = s.words; homes = s.homes; views = set s.views id (kept_of give me) ++ given_of fresh give me ∷ [] })
  splits =
      let kept = kept_of give me in
      let given = given_of fresh give me in
      let here = seated_here about s id me at lawful (omega (arith, enough)) in
      record {
        seating =
            let same : IsSeated about (fresh me.knows) = record { edges = here.edges; order = here.order; all = here.all } in
            seating.splits about.seats (IsSeated about) nothing s.views id me lawful.seating at fresh give enough here same;
        words = lawful.words;
        zero = lawful.zero;
        slots = lawful.slots;
        rows = λ v node.
            let old = lawful.rows v node in
            let kept_row = row_still about s id me at s.words s.homes kept v old.0 refl refl (record { on = λ found holds. holds; back = λ found holds. holds; visits = refl }) old.1 in
            (old.0, row_with about (record { words = s.words; homes = s.homes; views = set s.views id kept }) given v old.0 refl refl kept_row);
      }
