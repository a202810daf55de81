-- Each call's step is allowed: whatever the table is at that moment, it keeps the rule and tells what it should.
use Rattle.std.proofs.Common.{◌≡◌, ◌≢◌, ⊎_elim, ℕ, ◌+◌, ◌-◌, ◌<◌, ◌≤◌, List, [], ◌∷◌, All, length, set, refl, sym, ap, ◌∙◌, subst, arith}
use Rattle.std.specs.Prelude.{None, slice_index}
use Rattle.std.proofs.lemmas.List.{set-get_or}
use mathlib.Core.Option.{none, some}
use lib.ListN.{get_elem?}
use Rattle.atomic_table.specs.Table.{Act, keeps, takes, gives, step, Valid, stepped, Allows, Splits, Joins, carried_after}
use Rattle.atomic_table.proofs.Lists.{at_set, set_again}
use Rattle.walk_laws.specs.declared.entry.Entry.{Entry}
use Rattle.walk_laws.specs.declared.graph.Edge.{Edge}
use Rattle.walk_laws.specs.Joined.{Joined}
use Rattle.walk_laws.specs.Labelling.{EntryFits}
use Rattle.hub_index.specs.Views.{IsNode}
use Rattle.label_rows.specs.declared.rule.About.{About}
use Rattle.table_seats.specs.declared.seat_view.SeatView.{SeatView}
use Rattle.label_rows.specs.declared.rule.View.{View}
use Rattle.label_rows.specs.Visits.{put_list}
use Rattle.label_rows.specs.Lawful.{Table, Sitter, IsFree, IsTaken, IsRowOf, IsLawful, IsSeated, Took, Gave, SeesNothing, MayGive, took, gave, fresh, both, nothing}
use Rattle.table_seats.specs.Seats.{kept_of, given_of, joined, spent, looked}
use Rattle.table_seats.proofs.Seating.{is_one}
use Rattle.label_rows.proofs.Steps.{seated_here}
use Rattle.label_rows.proofs.Takes.{seen_still}
use Rattle.label_rows.proofs.Takes as taking
use Rattle.label_rows.proofs.Gives as giving
use Rattle.label_rows.proofs.Splits as splitting
use Rattle.label_rows.proofs.Joins as joining

module _ (about : About) (slots id : ℕ) where
  module _ (me : Sitter) (live : 1 ≤ me.0.seats) where
    -- a look changes nothing
    pub looks : Allows (IsLawful about) slots id me 0 (λ n. n) (looked SeesNothing (step slots 0 0 0 none) me)
    looks s lawful _ at _ =
        let same_words = set-get_or s.words 0 0 in
        let same_views = set_again s.views id me.0 at in
        (me.0, keeps, tt, subst (λ (t : List ℕ × List (SeatView View)). IsLawful about (record { words = t.0; homes = s.homes; views = t.1 })) (λ k. (sym same_words k, sym same_views k)) lawful, (refl, is_one about.seats (IsSeated about) nothing s.views id me.0 lawful.seating at, tt))

    module _ (v : ℕ) (empty : me.0.knows.hold ≡ None) (node : IsNode (length me.0.knows.order) v) where
      -- a lock is taken where it is free
      pub takes_one : Allows (IsLawful about) slots id me v (λ _. 1) (Took (step slots v 1 0 none) me)
      takes_one s lawful _ at _ =
          let seated = seated_here about s id me.0 at lawful live in
          let here : IsNode (length about.ranking.value) v = subst (λ order. IsNode (length order) v) seated.order node in
          let row = lawful.rows v here in
          ⊎_elim (λ (free : IsFree s v row.0). free_one s lawful at here row.0 row.1 free seated) (λ (taken : IsTaken s v row.0). taken_one s lawful at row.0 taken) row.1.place
        where
          free_one : (s : Table) → IsLawful about s → (at : get_elem? s.views id ≡ some me.0) → IsNode (length about.ranking.value) v → (row : List Entry) → IsRowOf about s v row → IsFree s v row → IsSeated about me.0.knows
              → (w : SeatView View) × (a : Act (List Entry)) × Valid s.homes me.1 a × IsLawful about (stepped s v 1 id me.1 w a) × Took (step slots v 1 0 none) me (slice_index s.words v) (w, carried_after me.1 a)
          free_one s lawful at here row old free seated = (
            took me.0 v row,
            takes (v - 1) row,
            free.at_home,
            taking.takes about s id me.0 at lawful live v here row old empty free,
            (
              λ _. record {
                row = row;
                view = refl;
                slot = refl;
                fit = subst (λ (t : List Edge × List ℕ). All (EntryFits (Joined t.0) t.1 v) row) (λ k. (sym seated.edges k, sym seated.order k)) old.fit;
                goes_on = seen_still about s id me.0 at v row old;
              },
              λ no. absurd (no free.word),
            ),
          )

          taken_one : (s : Table) → IsLawful about s → (at : get_elem? s.views id ≡ some me.0) → (row : List Entry) → IsTaken s v row
              → (w : SeatView View) × (a : Act (List Entry)) × Valid s.homes me.1 a × IsLawful about (stepped s v 1 id me.1 w a) × Took (step slots v 1 0 none) me (slice_index s.words v) (w, carried_after me.1 a)
          taken_one s lawful at row taken =
              let same_words : set s.words v 1 ≡ s.words = ap (set s.words v) (sym taken.word) ∙ set-get_or s.words v 0 in
              let same_views = set_again s.views id me.0 at in
              (me.0, keeps, tt, subst (λ (t : List ℕ × List (SeatView View)). IsLawful about (record { words = t.0; homes = s.homes; views = t.1 })) (λ k. (sym same_words k, sym same_views k)) lawful, (λ zero. absurd (omega (arith, zero, taken.word)), λ _. refl))

  -- a lock is given back
  pub gives_one : (view : SeatView View) (v : ℕ) (row : List Entry) → 1 ≤ view.seats → IsNode (length view.knows.order) v → MayGive view v row
      → Allows (IsLawful about) slots id (view, (v - 1, row) ∷ []) v (λ _. 0) (λ _. Gave (step slots v 0 0 none) (view, (v - 1, row) ∷ []) 0)
  gives_one view v row live node may s lawful _ at _ =
      let seated = seated_here about s id view at lawful live in
      let here : IsNode (length about.ranking.value) v = subst (λ order. IsNode (length order) v) seated.order node in
      let fits = subst (λ (t : List Edge × List ℕ). All (EntryFits (Joined t.0) t.1 v) (put_list may.put)) (λ k. (seated.edges k, seated.order k)) may.fits in
      let next = giving.gives about s id view at lawful live v here may.found may.put may.holds fits in
      (gave view row, gives, tt, subst (λ r. IsLawful about (record { words = set s.words v 0; homes = set s.homes (v - 1) (some r); views = set s.views id (gave view r) })) (sym may.grown) next, (refl, refl))

module _ (about : About) (id : ℕ) (v : SeatView View) where
  pub splits_off : (give : ℕ) → give + 1 < v.seats → Splits (IsLawful about) id v (kept_of give v) (given_of fresh give v)
  splits_off give enough s lawful at = splitting.splits about s id v at lawful give enough

  pub joins_in : (other : ℕ) (u : SeatView View) → 1 ≤ v.seats → v.knows.hold ≡ None → u.knows.hold ≡ None → Joins (IsLawful about) id v other u (joined both v u) (spent nothing)
  joins_in other u live empty empty_too s lawful at apart there =
      let before : get_elem? s.views other ≡ some u = ⊎_elim (λ (t : (other ≡ id) × (joined both v u ≡ u)). absurd (apart t.0)) (λ (t : (other ≢ id) × (get_elem? s.views other ≡ some u)). t.1) (at_set s.views id other (joined both v u) u there) in
      joining.joins about s id v at other u apart before empty empty_too lawful live
