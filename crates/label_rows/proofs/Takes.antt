-- A take keeps the rule.
use Rattle.std.proofs.Common.{◌≡◌, ◌≢◌, inr, ⊎_elim, ℕ, ◌-◌, ◌≤◌, List, length, set, refl, arith}
use Rattle.std.specs.Prelude.{None}
use Rattle.std.proofs.lemmas.List.{get_or-set_same}
use Rattle.std.proofs.lemmas.List.Elements.{All-map}
use mathlib.Core.Option.{some, none}
use lib.ListN.{get_elem?}
use Rattle.atomic_table.proofs.Lists.{at_set, set_here}
use Rattle.walk_laws.specs.declared.entry.Entry.{Entry}
use Rattle.hub_index.specs.Views.{IsNode, GoesOnFrom}
use Rattle.table_seats.proofs.Counting.{times-permutation, permutation-times}
use Rattle.label_rows.specs.declared.rule.About.{About}
use Rattle.table_seats.specs.declared.seat_view.SeatView.{SeatView}
use Rattle.label_rows.specs.declared.rule.View.{View}
use Rattle.label_rows.specs.Visits.{left_by, visits_of, seen_of}
use Rattle.label_rows.specs.Lawful.{Table, IsFree, IsRowOf, IsLawful, took}
use Rattle.table_seats.proofs.EachSeat.{within, Each-set, times-changed}
use Rattle.label_rows.proofs.SeenRows.{longest-still}
use Rattle.label_rows.proofs.Steps.{StillIn, places_at, next_lawful}
use Rattle.label_rows.proofs.Lock.{no_lock, one_lock}

module _ (about : About) (s : Table) (id : ℕ) (me : SeatView View) (at : get_elem? s.views id ≡ some me) where
  -- what was seen of a row still stands in it
  pub seen_still : (v : ℕ) (row : List Entry) → IsRowOf about s v row → GoesOnFrom (seen_of me.knows.visits v) row
  seen_still v row old = longest-still row _ (All-map (λ x. GoesOnFrom x row) left_by (visits_of me.knows.visits v) (old.visited id me at))

  module _ (lawful : IsLawful about s) (live : 1 ≤ me.seats) (v : ℕ) (node : IsNode (length about.ranking.value) v) (row : List Entry) (old : IsRowOf about s v row) (empty : me.knows.hold ≡ None) (free : IsFree s v row) where
    after : Table
    after = record { words = set s.words v 1; homes = set s.homes (v - 1) none; views = set s.views id (took me v row) }

    taken : IsRowOf about after v row
    unfolding after
    taken = record {
      place = inr (record {
        word = get_or-set_same s.words v 1 0 (omega (arith, lawful.words, node.up_to_n));
        by = id;
        holder = took me v row;
        there = set_here s.views id (took me v row) (within s.views id me at);
        holds = refl;
        by_one = λ j seat found there holds. ⊎_elim
            (λ (t : (j ≡ id) × (took me v row ≡ seat)). t.0)
            (λ (t : (j ≢ id) × (get_elem? s.views j ≡ some seat)). absurd (free.by_none j seat t.1 found holds))
            (at_set s.views id j (took me v row) seat there);
      });
      fit = old.fit;
      visited = Each-set (StillIn v row) s.views id (took me v row) old.visited (old.visited id me at);
      each_once = permutation-times _ _ (λ x.
          let c = times-changed (places_at v) x s.views id me (took me v row) at in
          let e = times-permutation x _ _ old.each_once in
          omega arith);
    }

    -- a free lock is taken
    pub takes : IsLawful about (record { words = set s.words v 1; homes = set s.homes (v - 1) none; views = set s.views id (took me v row) })
    unfolding after
    takes = next_lawful about s id me at lawful live v 1 none (took me v row).knows node (λ seated. record { edges = seated.edges; order = seated.order; all = seated.all }) (row, taken) (λ u other. record {
      on = λ found holds. absurd (no_lock me u found empty holds);
      back = λ found holds. absurd (other (one_lock (took me v row) v u row found refl holds));
      visits = refl;
    })
