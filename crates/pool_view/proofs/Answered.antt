-- A visit of the chain of a node, and what follows of it for a view.
use Rattle.std.proofs.Common.{◌≡◌, ◌⊎◌, inl, inr, ℕ, ◌<◌, Bool, Option, List, [], ◌∷◌, ◌++◌, All, Contains, length, replicate, refl, sym, ap, subst, ◌∙◌}
use Rattle.std.specs.Prelude.{None, reverse}
use Rattle.std.proofs.lemmas.List.Elements.{All-contains}
use Rattle.walk_laws.specs.declared.entry.Entry.{Entry}
use Rattle.walk_laws.specs.Labelling.{label_row}
use Rattle.hub_index.specs.RootDistances.{noted, IsCover, HoldsRow}
use Rattle.hub_index.specs.Views.{IsNode, IsFound, IsAnswerOf, with_put}
use Rattle.hub_index.specs.declared.row_view.Offer.{Offer}
use Rattle.hub_index.specs.declared.row_view.Offer.TheVariants.{Put as IsPut, Covered, NoMemory}
use Rattle.hub_index.proofs.RowsGathered.{positions-found}
use Rattle.label_pool.specs.declared.rule.Linked.{Linked}
use Rattle.label_pool.specs.Chains.{entries_of}
use Rattle.label_pool.specs.Seats.{PoolId, Seated, HasFound}
use Rattle.pool_view.specs.Fitting.{Fitting, MayStand, edges_of, order_of}
use Rattle.pool_view.specs.Putting.{IsPooledBy, Putting, listed}
use Rattle.pool_view.specs.Viewing.{Viewing, IsViewing, IsOpen, HasVisited, HasGained, IsPast, IsAfter, IsOfferedToAll, fact_of, seen_row, whole_row}
use Rattle.pool_view.proofs.KeptViews.{viewing-looked, visited-seen, pooled-seen, stays_open, stays_pooled}
use Rattle.pool_view.proofs.NotedTables.{HoldsRow-same, HoldsRow-three}
use Rattle.pool_view.proofs.Offered.{owned-seen}
use Rattle.pool_view.proofs.WholeRows.{All-reversed, chain-stands, whole-all, whole-found, noting-whole, whole-noting}

-- the seat of the view visited v in its pool, and found this chain
pub record IsVisit (before : Viewing) (v : ℕ) (seat : Seated Fitting) (found : List Linked) : Type 0 where
  pub viewing : IsViewing before
  pub node : IsNode (length (order_of before.seat.pool.fact)) v
  pub visit : HasFound MayStand before.seat.pool before.seat v found seat

-- where the pool is told otherwise
visit-of : (pool : PoolId Fitting) (before : Viewing) (v : ℕ) (seat : Seated Fitting) (found : List Linked) → before.seat.pool ≡ pool → HasFound MayStand pool before.seat v found seat → HasFound MayStand before.seat.pool before.seat v found seat
visit-of pool before v seat found is visit = subst (λ p. HasFound MayStand p before.seat v found seat) (sym is) visit

-- a visit of v by the seat of a view, told of the view as it was
pub visit-by : (pool : PoolId Fitting) (before told : Viewing) → before ≡ told → before.seat.pool ≡ pool → IsViewing before → (v : ℕ) → IsNode (length (order_of told.seat.pool.fact)) v → (seat : Seated Fitting) (found : List Linked) → HasFound MayStand pool before.seat v found seat → IsVisit before v seat found
visit-by pool before told same of_pool viewing v node seat found visit = record {
  viewing = viewing;
  node = subst (λ (w : Viewing). IsNode (length (order_of w.seat.pool.fact)) v) (sym same) node;
  visit = visit-of pool before v seat found of_pool visit;
}

module _ (before : Viewing) (v : ℕ) (seat : Seated Fitting) (found : List Linked) (is : IsVisit before v seat found) where
  abbrev pub After : Viewing
  After = record before { seat = seat }

  pub visited : HasVisited before v found After
  visited = (is.visit, refl)

  pub row_found : IsFound (fact_of before v) (seen_row before v) (whole_row before found v)
  row_found = whole-found before found v is.viewing is.node is.visit.goes_on is.visit.met

  pub seen_now : seen_row After v ≡ whole_row before found v
  seen_now = visited-seen before After v found is.viewing visited

  pub viewing_now : IsViewing After
  viewing_now = viewing-looked before seat v found is.viewing is.visit

  -- the seat is still of the same pool, and past the cells where it was
  pub pool_kept : (pool : PoolId Fitting) → before.seat.pool ≡ pool → seat.pool ≡ pool
  pool_kept pool of_pool = ap (λ (s : Seated Fitting). s.pool) is.visit.after_is ∙ of_pool

  pub open_kept : (past : Bool) (puts : Putting) → IsOpen past before.seat puts → IsOpen past seat puts
  open_kept past puts opened = stays_open past before.seat seat puts puts (ap (λ (s : Seated Fitting). s.past) is.visit.after_is) refl opened

  pub puts_kept : (puts : Putting) → IsPooledBy before.seat puts → IsPooledBy seat puts
  puts_kept puts by = stays_pooled before.seat seat puts (ap (λ (s : Seated Fitting). s.puts) is.visit.after_is) by

  -- the chain, the own row with the newest entry first, and the global row were noted in an empty table
  pub row_held : (n : ℕ) → n ≡ length (order_of before.seat.pool.fact) → HoldsRow (noted (noted (noted (replicate n None) (entries_of found)) (reverse (label_row before.own v))) (label_row before.global v)) (whole_row before found v)
  row_held n size =
      let edges = edges_of before.seat.pool.fact in
      let order = order_of before.seat.pool.fact in
      let inside : (row : List Entry) → All (fact_of before v) row → All (λ e. e.pos < n) row = λ row stands. subst (λ k. All (λ e. e.pos < k) row) (sym size) (positions-found edges order v row stands) in
      let own = label_row before.own v in
      HoldsRow-same _ ((entries_of found ++ reverse own) ++ label_row before.global v) (whole_row before found v) (noting-whole before found v) (whole-noting before found v)
      (HoldsRow-three n (entries_of found) (reverse own) (label_row before.global v) (inside (entries_of found) (chain-stands before found v is.visit.met)) (All-reversed (λ e. e.pos < n) own (inside own (is.viewing.own.fit v is.node.from_one is.node.up_to_n))) (inside (label_row before.global v) (is.viewing.global.fit v is.node.from_one is.node.up_to_n)))

  module _ (table : List (Option ℕ)) (e : Entry) (uncovered : All (λ c. ¬ IsCover table e.pos e.dist c) (label_row before.global v)) where
    -- an entry of the row covers
    pub offered_covered : (c : Entry) → Contains (whole_row before found v) c → IsCover table e.pos e.dist c → (answer : Offer) → answer ≡ Covered c.pos c.dist → IsOfferedToAll table before v e answer After
    offered_covered c there covers answer answer_is = record {
      uncovered = uncovered;
      found = found;
      visited = After;
      visit = visited;
      row = row_found;
      answer_is = subst (IsAnswerOf table (whole_row before found v) e) (sym answer_is) (there, covers);
      after_is = subst (λ a. IsAfter After v e a After) (sym answer_is) refl;
      seen = subst (λ a. seen_row After v ≡ with_put (whole_row before found v) e a) (sym answer_is) seen_now;
    }

    module _ (in_chain : All (λ c. ¬ IsCover table e.pos e.dist c) (entries_of found)) (in_own : All (λ c. ¬ IsCover table e.pos e.dist c) (label_row before.own v)) where
      none : (c : Entry) → Contains (whole_row before found v) c → ¬ IsCover table e.pos e.dist c
      none c there = All-contains (λ x. ¬ IsCover table e.pos e.dist x) (whole_row before found v) c (whole-all before found v (λ x. ¬ IsCover table e.pos e.dist x) uncovered in_chain in_own) there

      gained : (after : Viewing) → HasGained After v e after → seen_row after v ≡ seen_row After v ++ e ∷ []
      gained after (inl put) = pooled-seen (record After { list = listed After.list v e }) after v e (viewing_now.seen v) put
      gained after (inr put) = owned-seen (record After { list = listed After.list v e }) after v e is.node.from_one put

      pub offered_put : (after : Viewing) → HasGained After v e after → IsOfferedToAll table before v e IsPut after
      offered_put after gains = record {
        uncovered = uncovered;
        found = found;
        visited = After;
        visit = visited;
        row = row_found;
        answer_is = none;
        after_is = gains;
        seen = gained after gains ∙ ap (λ es. es ++ e ∷ []) seen_now;
      }

      unchanged : (after : Viewing) → (after ≡ After) ⊎ IsPast After after → seen_row after v ≡ seen_row After v
      unchanged after (inl same) = ap (λ w. seen_row w v) same
      unchanged after (inr past) = ap (λ w. seen_row w v) past.1

      pub offered_none : (after : Viewing) → (after ≡ After) ⊎ IsPast After after → IsOfferedToAll table before v e NoMemory after
      offered_none after refused = record {
        uncovered = uncovered;
        found = found;
        visited = After;
        visit = visited;
        row = row_found;
        answer_is = none;
        after_is = refused;
        seen = unchanged after refused ∙ seen_now;
      }
