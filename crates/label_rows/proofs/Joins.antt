-- A join keeps the rule.
use Rattle.std.proofs.Common.{◌≡◌, ◌≢◌, inl, inr, ⊎_elim, ℕ, ◌≤◌, List, ◌++◌, All, length, set, refl, sym, ap, ◌∙◌, subst, arith}
use Rattle.std.specs.Prelude.{None, flat_map, nat_eq}
use Rattle.std.proofs.lemmas.Grind.{flat_map-append}
use Rattle.std.proofs.lemmas.List.Elements.{All-nil, All-append, filter-append}
use mathlib.Core.Option.{some, some-injective}
use lib.ListN.{get_elem?}
use Rattle.atomic_table.proofs.Lists.{at_set, set_else}
use Rattle.walk_laws.specs.declared.entry.Entry.{Entry}
use Rattle.hub_index.specs.Views.{GoesOnFrom}
use Rattle.table_seats.proofs.Counting.{times, times-append, times-permutation, permutation-times}
use Rattle.label_rows.specs.declared.rule.About.{About}
use Rattle.label_rows.specs.declared.rule.Visit.{Visit}
use Rattle.table_seats.specs.declared.seat_view.SeatView.{SeatView}
use Rattle.label_rows.specs.declared.rule.View.{View}
use Rattle.label_rows.specs.Visits.{left_by, visits_of, place_of, places_of}
use Rattle.label_rows.specs.Lawful.{Table, Holds, IsFree, IsTaken, IsRowOf, IsSeated, IsLawful, both, nothing}
use Rattle.table_seats.specs.Seats.{Each, joined, spent}
use Rattle.table_seats.proofs.Seating as seating
use Rattle.table_seats.proofs.EachSeat.{Each-set, times-changed}
use Rattle.label_rows.proofs.Steps.{StillIn, places_at, seated_here}
use Rattle.label_rows.proofs.Lock.{no_lock}

visits-joined : (xs ys : List Visit) (v : ℕ) → visits_of (xs ++ ys) v ≡ visits_of xs v ++ visits_of ys v
visits-joined xs ys v = filter-append (λ x. nat_eq x.node v) xs ys

places-joined : (xs ys : List Visit) (v : ℕ) → places_of (xs ++ ys) v ≡ places_of xs v ++ places_of ys v
places-joined xs ys v =
    ap (flat_map (λ y. place_of y.put (length y.found))) (visits-joined xs ys v)
    ∙ flat_map-append (λ y. place_of y.put (length y.found)) (visits_of xs v) (visits_of ys v)

module _ (about : About) (s : Table) (id : ℕ) (me : SeatView View) (at : get_elem? s.views id ≡ some me) (other : ℕ) (u : SeatView View) (apart : other ≢ id) (there : get_elem? s.views other ≡ some u) (empty : me.knows.hold ≡ None) (empty_too : u.knows.hold ≡ None) where
  abbrev First : List (SeatView View)
  First = set s.views id (joined both me u)

  abbrev After : Table
  After = record { words = s.words; homes = s.homes; views = set First other (spent nothing) }

  still_there : get_elem? First other ≡ some u
  still_there = set_else s.views id other (joined both me u) apart ∙ there

  -- a fact of each seat before, of the joined one and of the spent one is a fact of each seat after
  each_after : (P : SeatView View → Type 0) → Each P s.views → P (joined both me u) → P (spent nothing) → Each P (set First other (spent nothing))
  each_after P before here none = Each-set P First other (spent nothing) (Each-set P s.views id (joined both me u) before here) none

  row_joined : (v : ℕ) (row : List Entry) → IsRowOf about s v row → IsRowOf about After v row
  row_joined v row old = record {
    place = ⊎_elim
        (λ (free : IsFree s v row). inl (record {
          word = free.word;
          at_home = free.at_home;
          by_none = each_after (λ x. (found : List Entry) → ¬ Holds x v found) free.by_none (λ found. no_lock (joined both me u) v found empty) (λ found. no_lock (spent nothing) v found refl);
        }))
        (λ (taken : IsTaken s v row).
        let not_me : taken.by ≢ id = λ is. no_lock me v row empty (ap (λ (x : SeatView View). x.knows.hold) (some-injective me taken.holder (sym at ∙ ap (get_elem? s.views) (sym is) ∙ taken.there)) ∙ taken.holds) in
        let not_other : taken.by ≢ other = λ is. no_lock u v row empty_too (ap (λ (x : SeatView View). x.knows.hold) (some-injective u taken.holder (sym there ∙ ap (get_elem? s.views) (sym is) ∙ taken.there)) ∙ taken.holds) in
        inr (record {
          word = taken.word;
          by = taken.by;
          holder = taken.holder;
          there = set_else First other taken.by (spent nothing) not_other ∙ set_else s.views id taken.by (joined both me u) not_me ∙ taken.there;
          holds = taken.holds;
          by_one = λ j x found here has. ⊎_elim
              (λ (t : (j ≡ other) × (spent nothing ≡ x)). absurd (no_lock (spent nothing) v found refl (ap (λ (y : SeatView View). y.knows.hold) t.1 ∙ has)))
              (λ (t : (j ≢ other) × (get_elem? First j ≡ some x)). ⊎_elim
              (λ (b : (j ≡ id) × (joined both me u ≡ x)). absurd (no_lock (joined both me u) v found empty (ap (λ (y : SeatView View). y.knows.hold) b.1 ∙ has)))
              (λ (b : (j ≢ id) × (get_elem? s.views j ≡ some x)). taken.by_one j x found b.1 has)
              (at_set s.views id j (joined both me u) x t.1))
              (at_set First other j (spent nothing) x here);
        }))
        old.place;
    fit = old.fit;
    visited = each_after (StillIn v row) old.visited
        (subst (All (λ x. GoesOnFrom (left_by x) row)) (sym (visits-joined me.knows.visits u.knows.visits v)) (All-append (λ x. GoesOnFrom (left_by x) row) (visits_of me.knows.visits v) (visits_of u.knows.visits v) (old.visited id me at) (old.visited other u there)))
        (All-nil (λ x. GoesOnFrom (left_by x) row));
    each_once = permutation-times _ _ (λ x.
        let a = times-changed (places_at v) x s.views id me (joined both me u) at in
        let b = times-changed (places_at v) x First other u (spent nothing) still_there in
        let p = ap (times x) (places-joined me.knows.visits u.knows.visits v) ∙ times-append x (places_of me.knows.visits v) (places_of u.knows.visits v) in
        let none : times x (places_at v (spent nothing)) ≡ 0 = refl in
        let e = times-permutation x _ _ old.each_once in
        omega arith);
  }

  -- another seat is joined into it
  pub joins : IsLawful about s → 1 ≤ me.seats → IsLawful about After
  joins lawful live =
      let here = seated_here about s id me at lawful live in
      record {
        seating = seating.joins about.seats (IsSeated about) nothing s.views id me lawful.seating at both other u apart there live (record { edges = here.edges; order = here.order; all = here.all });
        words = lawful.words;
        zero = lawful.zero;
        slots = lawful.slots;
        rows = λ v node. let old = lawful.rows v node in (old.0, row_joined v old.0 old.1);
      }
