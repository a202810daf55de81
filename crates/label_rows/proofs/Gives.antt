-- A give keeps the rule.
use Rattle.std.proofs.Common.{◌≡◌, ◌≢◌, inl, ⊎_elim, ℕ, ◌+◌, ◌-◌, ◌≤◌, List, [], ◌∷◌, ◌++◌, All, length, set, refl, sym, ap, ◌∙◌, subst, arith}
use Rattle.std.specs.Prelude.{Option, Some, None, slice_get}
use Rattle.std.proofs.lemmas.List.{get_or-set_same, append-nil, length-append}
use Rattle.std.proofs.lemmas.List.Elements.{All-append, All-push, All-weaker}
use mathlib.Core.Option.{some, some-injective}
use lib.ListN.{get_elem?}
use Rattle.atomic_table.proofs.Lists.{at_set, set_here}
use Rattle.walk_laws.specs.declared.entry.Entry.{Entry}
use Rattle.walk_laws.specs.Joined.{Joined}
use Rattle.walk_laws.specs.Labelling.{EntryFits}
use Rattle.hub_index.specs.Views.{IsNode, GoesOnFrom}
use Rattle.table_seats.specs.Numbers.{numbers}
use Rattle.table_seats.proofs.Counting.{times, times-append, times-permutation, permutation-times, numbers-push}
use Rattle.label_rows.specs.declared.rule.About.{About}
use Rattle.label_rows.specs.declared.rule.Visit.{Visit}
use Rattle.table_seats.specs.declared.seat_view.SeatView.{SeatView}
use Rattle.label_rows.specs.declared.rule.View.{View}
use Rattle.label_rows.specs.Visits.{put_list, left_by, visits_of, place_of, places_of}
use Rattle.label_rows.specs.Lawful.{Table, Holds, IsFree, IsTaken, IsRowOf, IsLawful, gave, visits_by}
use Rattle.table_seats.specs.Seats.{knowing}
use Rattle.table_seats.proofs.EachSeat.{Each-set, times-changed}
use Rattle.label_rows.proofs.SeenRows.{goes_on-self, goes_on-further, visits-here, visits-else, places-here}
use Rattle.label_rows.proofs.Steps.{StillIn, places_at, next_lawful}
use Rattle.label_rows.proofs.Lock.{no_lock, one_lock, one_row}

-- the seat that gave the lock of v back, with an entry put after the row or none
abbrev pub went : SeatView View → ℕ → List Entry → Option Entry → SeatView View
went me v found put = knowing me (record me.knows { hold = None; visits = me.knows.visits ++ record { node = v; found = found; put = put } ∷ [] })

after : (found : List Entry) (put : Option Entry) → slice_get (found ++ put_list put) (length found) ≡ put
after [] None = refl
after [] (Some e) = refl
after (x ∷ xs) put = after xs put

pub gave-is : (me : SeatView View) (v : ℕ) (found : List Entry) (put : Option Entry) → Holds me v found → gave me (found ++ put_list put) ≡ went me v found put
gave-is me v found put holds =
    ap (λ held. knowing me (record me.knows { hold = None; visits = me.knows.visits ++ visits_by held (found ++ put_list put) })) holds
    ∙ ap (went me v found) (after found put)

-- the numbers below the length of a row, after which an entry is put
numbers-put : (row : List Entry) (put : Option Entry) (x : ℕ) → times x (numbers 0 (length (row ++ put_list put))) ≡ times x (numbers 0 (length row)) + times x (place_of put (length row))
numbers-put row None x = let a = ap (λ es. times x (numbers 0 (length es))) (append-nil row) in let none : times x [] ≡ 0 = refl in omega arith
numbers-put row (Some e) x =
    ap (λ n. times x (numbers 0 n)) (length-append row (e ∷ []))
    ∙ ap (times x) (numbers-push 0 (length row) (omega arith))
    ∙ times-append x (numbers 0 (length row)) (length row ∷ [])

module _ (about : About) (s : Table) (id : ℕ) (me : SeatView View) (at : get_elem? s.views id ≡ some me) (lawful : IsLawful about s) (live : 1 ≤ me.seats) (v : ℕ) (node : IsNode (length about.ranking.value) v) where
  module _ (row : List Entry) (old : IsRowOf about s v row) (taken : IsTaken s v row) (holds : Holds me v row) (put : Option Entry) (fits : All (EntryFits (Joined about.graph.value.edges) about.ranking.value v) (put_list put)) where
    abbrev Grown : List Entry
    Grown = row ++ put_list put

    abbrev Made : Visit
    Made = record { node = v; found = row; put = put }

    abbrev After : Table
    After = record { words = set s.words v 0; homes = set s.homes (v - 1) (some Grown); views = set s.views id (went me v row put) }

    free_again : IsFree After v Grown
    free_again = record {
      word = get_or-set_same s.words v 0 0 (omega (arith, lawful.words, node.up_to_n));
      at_home = set_here s.homes (v - 1) (some Grown) (omega (arith, lawful.slots, node.up_to_n, node.from_one));
      by_none = λ j seat there found has. ⊎_elim
          (λ (t : (j ≡ id) × (went me v row put ≡ seat)). no_lock (went me v row put) v found refl (ap (λ (x : SeatView View). x.knows.hold) t.1 ∙ has))
          (λ (t : (j ≢ id) × (get_elem? s.views j ≡ some seat)). t.0 (taken.by_one j seat found t.1 has ∙ sym (taken.by_one id me row at holds)))
          (at_set s.views id j (went me v row put) seat there);
    }

    grown : IsRowOf about After v Grown
    grown = record {
      place = inl free_again;
      fit = All-append (EntryFits (Joined about.graph.value.edges) about.ranking.value v) row (put_list put) old.fit fits;
      visited =
          let further : (seat : SeatView View) → StillIn v row seat → StillIn v Grown seat =
          λ seat still. All-weaker (λ x. GoesOnFrom (left_by x) row) (λ x. GoesOnFrom (left_by x) Grown) (λ x g. goes_on-further (left_by x) row (put_list put) g) (visits_of seat.knows.visits v) still in
          Each-set (StillIn v Grown) s.views id (went me v row put) (λ j seat there. further seat (old.visited j seat there))
          (subst (All (λ x. GoesOnFrom (left_by x) Grown)) (sym (visits-here me.knows.visits Made v refl)) (All-push (λ x. GoesOnFrom (left_by x) Grown) (visits_of me.knows.visits v) Made (further me (old.visited id me at)) (goes_on-self Grown)));
      each_once = permutation-times _ _ (λ x.
          let c = times-changed (places_at v) x s.views id me (went me v row put) at in
          let p = ap (times x) (places-here me.knows.visits Made v refl) ∙ times-append x (places_of me.knows.visits v) (place_of put (length row)) in
          let n = numbers-put row put x in
          let e = times-permutation x _ _ old.each_once in
          omega arith);
    }

    goes : IsLawful about After
    goes = next_lawful about s id me at lawful live v 0 (some Grown) (went me v row put).knows node (λ seated. record { edges = seated.edges; order = seated.order; all = seated.all }) (Grown, grown) (λ u other. record {
      on = λ found has. absurd (other (one_lock me v u row found holds has));
      back = λ found has. absurd (no_lock (went me v row put) u found refl has);
      visits = visits-else me.knows.visits Made u (λ is. other (sym is));
    })

  -- a lock is given back, with the row that was found, or with that and one entry after it
  pub gives : (found : List Entry) (put : Option Entry) → Holds me v found → All (EntryFits (Joined about.graph.value.edges) about.ranking.value v) (put_list put)
      → IsLawful about (record { words = set s.words v 0; homes = set s.homes (v - 1) (some (found ++ put_list put)); views = set s.views id (gave me (found ++ put_list put)) })
  gives found put holds fits =
      let old = lawful.rows v node in
      subst (λ w. IsLawful about (record { words = set s.words v 0; homes = set s.homes (v - 1) (some (found ++ put_list put)); views = set s.views id w })) (sym (gave-is me v found put holds))
      (⊎_elim
      (λ (free : IsFree s v old.0). absurd (free.by_none id me at found holds))
      (λ (taken : IsTaken s v old.0).
      let same = taken.by_one id me found at holds in
      let is : me ≡ taken.holder = some-injective me taken.holder (sym at ∙ ap (get_elem? s.views) same ∙ taken.there) in
      let here : Holds me v old.0 = ap (λ (x : SeatView View). x.knows.hold) is ∙ taken.holds in
      let row_is : found ≡ old.0 = one_row me v v old.0 found here holds in
      subst (λ row. IsLawful about (record { words = set s.words v 0; homes = set s.homes (v - 1) (some (row ++ put_list put)); views = set s.views id (went me v row put) })) (sym row_is)
      (goes old.0 old.1 taken here put fits))
      old.1.place)
