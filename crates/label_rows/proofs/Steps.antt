-- Each step keeps the rule.
use Rattle.std.proofs.Common.{◌≡◌, ◌≢◌, inl, inr, ⊎_elim, ℕ, ◌-◌, ◌<◌, ◌≤◌, List, All, length, set, get_or-set_other, sym, ap, ◌∙◌, subst, arith}
use Rattle.std.specs.Prelude.{slice_index, flat_map}
use Rattle.std.proofs.Math.ListN.{length-set}
use mathlib.Core.Logic.{dite}
use mathlib.Core.Option.{Option, some, some-injective}
use native.Mathlib.Decide.{ℕ_discrete}
use lib.ListN.{get_elem?}
use Rattle.atomic_table.proofs.Lists.{at_set, set_here, set_else}
use Rattle.walk_laws.specs.declared.entry.Entry.{Entry}
use Rattle.hub_index.specs.Views.{IsNode, GoesOnFrom}
use Rattle.table_seats.proofs.Counting.{times, times-permutation, permutation-times}
use Rattle.label_rows.specs.declared.rule.About.{About}
use Rattle.table_seats.specs.declared.seat_view.SeatView.{SeatView}
use Rattle.label_rows.specs.declared.rule.View.{View}
use Rattle.label_rows.specs.Visits.{left_by, visits_of, place_of, places_of}
use Rattle.label_rows.specs.Lawful.{Table, Holds, IsFree, IsTaken, IsRowOf, IsSeated, IsLawful, nothing}
use Rattle.table_seats.specs.Seats.{knowing}
use Rattle.table_seats.proofs.EachSeat.{within, Each-set, times-changed}
use Rattle.table_seats.proofs.Seating.{learns}

-- a row with the entries that each visit left still in it
abbrev pub StillIn : ℕ → List Entry → SeatView View → Type 0
StillIn v row seat = All (λ x. GoesOnFrom (left_by x) row) (visits_of seat.knows.visits v)

abbrev pub places_at : ℕ → SeatView View → List ℕ
places_at v seat = places_of seat.knows.visits v

-- two views that know the same of the node v
pub record IsSameAt (v : ℕ) (a b : SeatView View) : Type 0 where
  pub on : (found : List Entry) → Holds a v found → Holds b v found
  pub back : (found : List Entry) → Holds b v found → Holds a v found
  pub visits : visits_of b.knows.visits v ≡ visits_of a.knows.visits v

module _ (about : About) (s : Table) (id : ℕ) (me : SeatView View) (at : get_elem? s.views id ≡ some me) where
  abbrev Next : List ℕ → List (Option (List Entry)) → SeatView View → Table
  Next words homes w = record { words = words; homes = homes; views = set s.views id w }

  here_within : id < length s.views
  here_within = within s.views id me at

  -- the seat that has the lock of v, where nothing that concerns v changes
  taken_still : (words : List ℕ) (homes : List (Option (List Entry))) (w : SeatView View) (v : ℕ) (row : List Entry) → slice_index words v ≡ slice_index s.words v → IsSameAt v me w → IsTaken s v row → IsTaken (Next words homes w) v row
  taken_still words homes w v row word same taken =
      dite (ℕ_discrete taken.by id)
      (λ mine.
      let is : taken.holder ≡ me = some-injective taken.holder me (sym taken.there ∙ ap (get_elem? s.views) mine ∙ at) in
      record {
        word = word ∙ taken.word;
        by = id;
        holder = w;
        there = set_here s.views id w here_within;
        holds = same.on row (ap (λ (seat : SeatView View). seat.knows.hold) (sym is) ∙ taken.holds);
        by_one = λ j seat found there holds. one_still j seat found there holds ∙ mine;
      })
      (λ other. record {
        word = word ∙ taken.word;
        by = taken.by;
        holder = taken.holder;
        there = set_else s.views id taken.by w other ∙ taken.there;
        holds = taken.holds;
        by_one = one_still;
      })
    where
      one_still : (j : ℕ) (seat : SeatView View) (found : List Entry) → get_elem? (set s.views id w) j ≡ some seat → Holds seat v found → j ≡ taken.by
      one_still j seat found there holds = ⊎_elim
          (λ (t : (j ≡ id) × (w ≡ seat)). t.0 ∙ taken.by_one id me found at (same.back found (ap (λ (x : SeatView View). x.knows.hold) t.1 ∙ holds)))
          (λ (t : (j ≢ id) × (get_elem? s.views j ≡ some seat)). taken.by_one j seat found t.1 holds)
          (at_set s.views id j w seat there)

  -- nothing that concerns v changes
  pub row_still : (words : List ℕ) (homes : List (Option (List Entry))) (w : SeatView View) (v : ℕ) (row : List Entry) → slice_index words v ≡ slice_index s.words v → get_elem? homes (v - 1) ≡ get_elem? s.homes (v - 1) → IsSameAt v me w → IsRowOf about s v row → IsRowOf about (Next words homes w) v row
  row_still words homes w v row word home same old = record {
    place = ⊎_elim
        (λ (free : IsFree s v row). inl (record {
          word = word ∙ free.word;
          at_home = home ∙ free.at_home;
          by_none = Each-set (λ seat. (found : List Entry) → ¬ Holds seat v found) s.views id w free.by_none (λ found holds. free.by_none id me at found (same.back found holds));
        }))
        (λ (taken : IsTaken s v row). inr (taken_still words homes w v row word same taken))
        old.place;
    fit = old.fit;
    visited = Each-set (StillIn v row) s.views id w old.visited (subst (All (λ x. GoesOnFrom (left_by x) row)) (sym same.visits) (old.visited id me at));
    each_once = permutation-times _ _ (λ x.
        let c = times-changed (places_at v) x s.views id me w at in
        let p = ap (λ xs. times x (flat_map (λ y. place_of y.put (length y.found)) xs)) same.visits in
        let e = times-permutation x _ _ old.each_once in
        omega arith);
  }

  module _ (lawful : IsLawful about s) (live : 1 ≤ me.seats) where
    pub seated_here : IsSeated about me.knows
    seated_here = lawful.seating.fixed id me at live

    -- a step at the node v changes its word and its home, and what the seat knows of v alone
    pub next_lawful : (v : ℕ) (k : ℕ) (home : Option (List Entry)) (w : View) → IsNode (length about.ranking.value) v → (IsSeated about me.knows → IsSeated about w)
        → ((row : List Entry) × IsRowOf about (Next (set s.words v k) (set s.homes (v - 1) home) (knowing me w)) v row) → ((u : ℕ) → u ≢ v → IsSameAt u me (knowing me w))
        → IsLawful about (Next (set s.words v k) (set s.homes (v - 1) home) (knowing me w))
    next_lawful v k home w node seated row same = record {
      seating = learns about.seats (IsSeated about) nothing s.views id me lawful.seating at w live (seated seated_here);
      words = length-set s.words v k ∙ lawful.words;
      zero = get_or-set_other s.words v 0 k 0 (λ is. omega (arith, node.from_one, is)) ∙ lawful.zero;
      slots = length-set s.homes (v - 1) home ∙ lawful.slots;
      rows = λ u node_u. dite (ℕ_discrete u v)
          (λ is. (row.0, subst (λ x. IsRowOf about (Next (set s.words v k) (set s.homes (v - 1) home) (knowing me w)) x row.0) (sym is) row.1))
          (λ other.
          let old = lawful.rows u node_u in
          let apart : u - 1 ≢ v - 1 = λ is. other (omega (arith, is, node.from_one, node_u.from_one)) in
          (old.0, row_still (set s.words v k) (set s.homes (v - 1) home) (knowing me w) u old.0 (get_or-set_other s.words v u k 0 other) (set_else s.homes (v - 1) (u - 1) home apart) (same u other) old.1));
    }
