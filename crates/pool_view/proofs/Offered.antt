-- What the calls of a view change.
use Rattle.std.proofs.Common.{◌≡◌, ◌≢◌, inl, inr, ℕ, ◌≤◌, List, [], ◌∷◌, ◌++◌, sym, ap, ◌∙◌}
use Rattle.std.specs.Prelude.{reverse}
use Rattle.std.proofs.lemmas.List.{append_assoc, append-nil}
use Rattle.walk_laws.specs.declared.entry.Entry.{Entry}
use Rattle.walk_laws.specs.Labelling.{label_row}
use Rattle.hub_index.specs.declared.node_entry.NodeEntry.{NodeEntry}
use Rattle.hub_index.specs.declared.row_view.Offer.{Offer}
use Rattle.hub_index.specs.declared.row_view.Offer.TheVariants.{Put as IsPut, Covered, NoMemory}
use Rattle.hub_index.specs.NodeEntries.{entries_of_node}
use Rattle.hub_index.specs.Views.{with_put}
use Rattle.hub_index.proofs.GatheredRows.{entries_of_node-append, entries_of_node-one, entry_if-same, entry_if-other}
use Rattle.hub_index.proofs.RowsGathered.{row_gains, row_stays}
use Rattle.label_pool.specs.declared.rule.Linked.{Linked}
use Rattle.pool_view.specs.Putting.{listed}
use Rattle.pool_view.specs.Seen.{seen_chain}
use Rattle.pool_view.specs.Viewing.{Viewing, view_kept, seen_row, puts_row, HasVisited, IsInPool, IsInOwn, IsPlaced, IsAfter}
use Rattle.pool_view.proofs.SeenChains.{look_at, seen-looked_else, seen-put_else}

-- what is listed of a node, with one more entry
pub listed-here : (list : List NodeEntry) (v : ℕ) (e : Entry) → entries_of_node (listed list v e) v ≡ entries_of_node list v ++ e ∷ []
listed-here list v e =
    let x : NodeEntry = record { node = v; pos = e.pos; dist = e.dist } in
    entries_of_node-append list (x ∷ []) v ∙ ap (λ es. entries_of_node list v ++ es) (entries_of_node-one x v ∙ entry_if-same v e)

pub listed-else : (list : List NodeEntry) (v u : ℕ) (e : Entry) → v ≢ u → entries_of_node (listed list v e) u ≡ entries_of_node list u
listed-else list v u e other =
    let x : NodeEntry = record { node = v; pos = e.pos; dist = e.dist } in
    entries_of_node-append list (x ∷ []) u ∙ ap (λ es. entries_of_node list u ++ es) (entries_of_node-one x u ∙ entry_if-other v u e other) ∙ append-nil (entries_of_node list u)

-- the view after a visit
abbrev pub looked : Viewing → ℕ → List Linked → Viewing
looked before v found = record before { seat = record before.seat { looks = before.seat.looks ++ look_at v found ∷ []; marks = look_at v found ∷ before.seat.marks } }

module _ (before after : Viewing) (v : ℕ) (found : List Linked) (visit : HasVisited before v found after) where
  pub visited-is : after ≡ looked before v found
  visited-is = visit.1 ∙ ap (λ s. record before { seat = s }) visit.0.after_is

  pub visited-kept : view_kept after ≡ view_kept before
  visited-kept = ap view_kept visited-is

  pub visited-puts : (u : ℕ) → puts_row after u ≡ puts_row before u
  visited-puts u = ap (λ w. puts_row w u) visited-is

  pub visited-else : (u : ℕ) → v ≢ u → seen_row after u ≡ seen_row before u
  visited-else u other = ap (λ w. seen_row w u) visited-is ∙ ap (λ es. label_row before.global u ++ reverse es ++ label_row before.own u) (seen-looked_else before.seat.looks before.seat.marks v u other found)

-- the view after a put in the pool
abbrev pub pooled : Viewing → ℕ → List ℕ → List ℕ → ℕ → Entry → List Linked → Viewing
pooled before v blocks reserve cell e older = record before { seat = record before.seat { blocks = blocks; reserve = reserve; puts = before.seat.puts ++ record { node = v; linked = record { cell = cell; entry = e } } ∷ []; marks = look_at v (record { cell = cell; entry = e } ∷ older) ∷ before.seat.marks } }

module _ (before after : Viewing) (v : ℕ) (e : Entry) (put : IsInPool before v e after) where
  pub pooled-is : after ≡ pooled before v put.put.blocks put.put.reserve put.put.cell e put.put.older
  pooled-is = put.same ∙ ap (λ s. record before { seat = s }) put.put.after_is

  pub pooled-puts : (u : ℕ) → puts_row after u ≡ puts_row before u
  pooled-puts u = ap (λ w. puts_row w u) pooled-is

  pub pooled-else : (u : ℕ) → v ≢ u → seen_row after u ≡ seen_row before u
  pooled-else u other = ap (λ w. seen_row w u) pooled-is ∙ ap (λ es. label_row before.global u ++ reverse es ++ label_row before.own u) (seen-put_else before.seat.looks before.seat.marks v u other (record { cell = put.put.cell; entry = e } ∷ put.put.older))

-- and after a put in the own row
module _ (before after : Viewing) (v : ℕ) (e : Entry) (from_one : 1 ≤ v) (put : IsInOwn before v e after) where
  pub owned-puts : (u : ℕ) → puts_row after u ≡ puts_row before u
  owned-puts u = ap (λ w. puts_row w u) put.same

  pub owned-seen : seen_row after v ≡ seen_row before v ++ e ∷ []
  owned-seen =
      let prefix = label_row before.global v ++ reverse (seen_chain before.seat.looks before.seat.marks v) in
      ap (λ w. seen_row w v) put.same
      ∙ ap (λ es. prefix ++ es) (row_gains before.own v e from_one put.within)
      ∙ sym (append_assoc prefix (label_row before.own v) (e ∷ []))

  pub owned-else : (u : ℕ) → 1 ≤ u → v ≢ u → seen_row after u ≡ seen_row before u
  owned-else u u_from_one other =
      ap (λ w. seen_row w u) put.same
      ∙ ap (λ es. label_row before.global u ++ reverse (seen_chain before.seat.looks before.seat.marks u) ++ es) (row_stays before.own v u e from_one u_from_one (λ is. other (sym is)))

-- after a put in the one or in the other
module _ (before after : Viewing) (v : ℕ) (e : Entry) (from_one : 1 ≤ v) where
  placed-kept : IsPlaced before v e after → view_kept after ≡ view_kept before
  placed-kept (inl put) = ap view_kept (pooled-is before after v e put)
  placed-kept (inr put) = ap view_kept put.same

  placed-puts : IsPlaced before v e after → (u : ℕ) → puts_row after u ≡ puts_row before u
  placed-puts (inl put) = pooled-puts before after v e put
  placed-puts (inr put) = owned-puts before after v e from_one put

  placed-else : IsPlaced before v e after → (u : ℕ) → 1 ≤ u → v ≢ u → seen_row after u ≡ seen_row before u
  placed-else (inl put) u u_from_one other = pooled-else before after v e put u other
  placed-else (inr put) u u_from_one other = owned-else before after v e from_one put u u_from_one other

-- after a visit, whatever the answer is
module _ (before after : Viewing) (v : ℕ) (e : Entry) (from_one : 1 ≤ v) where
  abbrev Listed : Viewing
  Listed = record before { list = listed before.list v e }

  pub after-kept : (answer : Offer) → IsAfter before v e answer after → view_kept after ≡ view_kept before
  after-kept IsPut gained = placed-kept Listed after v e from_one gained
  after-kept (Covered pos dist) same = ap view_kept same
  after-kept NoMemory (inl same) = ap view_kept same
  after-kept NoMemory (inr past) = ap view_kept past.1

  pub after-puts : (answer : Offer) → IsAfter before v e answer after → puts_row after v ≡ with_put (puts_row before v) e answer
  after-puts IsPut gained = placed-puts Listed after v e from_one gained v ∙ listed-here before.list v e
  after-puts (Covered pos dist) same = ap (λ w. puts_row w v) same
  after-puts NoMemory (inl same) = ap (λ w. puts_row w v) same
  after-puts NoMemory (inr past) = ap (λ w. puts_row w v) past.1

  pub after-else : (answer : Offer) → IsAfter before v e answer after → (u : ℕ) → 1 ≤ u → v ≢ u → (seen_row after u ≡ seen_row before u) × (puts_row after u ≡ puts_row before u)
  after-else IsPut gained u u_from_one other = (placed-else Listed after v e from_one gained u u_from_one other, placed-puts Listed after v e from_one gained u ∙ listed-else before.list v u e other)
  after-else (Covered pos dist) same u u_from_one other = (ap (λ w. seen_row w u) same, ap (λ w. puts_row w u) same)
  after-else NoMemory (inl same) u u_from_one other = (ap (λ w. seen_row w u) same, ap (λ w. puts_row w u) same)
  after-else NoMemory (inr past) u u_from_one other = (ap (λ w. seen_row w u) past.1, ap (λ w. puts_row w u) past.1)
