use Rattle.std.proofs.Common.{◌≡◌, ◌<◌, ℕ, List, Option, All, length, replicate, sym, ap, subst, ◌∙◌}
use Rattle.std.specs.Prelude.{None, reverse}
use Rattle.std.proofs.lemmas.List.{length-replicate}
use Rattle.walk_laws.specs.declared.entry.Entry.{Entry}
use Rattle.walk_laws.specs.Labelling.{label_row}
use Rattle.hub_index.specs.RootDistances.{noted, HoldsRow}
use Rattle.hub_index.specs.NodeEntries.{entries_of_node}
use Rattle.hub_index.specs.Views.{IsFound}
use Rattle.hub_index.proofs.NotedRows.{length-noted}
use Rattle.hub_index.proofs.RowsGathered.{positions-found}
use Rattle.label_pool.specs.declared.rule.Linked.{Linked}
use Rattle.label_pool.specs.Chains.{entries_of}
use Rattle.pool_view.specs.Fitting.{edges_of, order_of}
use Rattle.pool_view.specs.Putting.{own_rows}
use Rattle.pool_view.specs.Viewing.{Viewing, HasVisited, fact_of, seen_row, whole_row}
use Rattle.pool_view.proofs.Answered.{IsVisit, visit-by, visited, row_found, seen_now, viewing_now, pool_kept, open_kept, puts_kept, row_held}
use Rattle.pool_view.proofs.PutViews.{is_node, own_is, view_of}
use Rattle.pool_view.proofs.view.PoolViewRowView.load_root.Given as given
use Rattle.pool_view.proofs.view.PoolViewRowView.load_root.Goals as goal
use Rattle.pool_view.proofs.view.PoolViewRowView.load_root.Goals.{After-note_chain}

-- the view as it was
abbrev viewed : (g : given.Over) → After-note_chain g → Viewing
viewed g c = view_of c.self.inside.seat c.self.inside.global c.self.inside.puts

visit_is : (g : given.Over) (c : After-note_chain g) → IsVisit (viewed g c) c.args.h c.note_chain.new.seat c.note_chain.ensures.chain.0
visit_is g c = visit-by c.self.inside.pool.now (viewed g c) _ c.self.view_is c.self.invariant.0 c.self.invariant.1 c.args.h c.requires.node c.note_chain.new.seat c.note_chain.ensures.chain.0 c.note_chain.ensures.chain.1

sized : (g : given.Over) (c : After-note_chain g) → length c.args.table.now ≡ length (order_of c.self.inside.seat.pool.fact)
sized g c = c.requires.size ∙ sym (ap (λ (w : Viewing). length (order_of w.seat.pool.fact)) c.self.view_is)

-- the table, when the chain was noted
chain_size : (g : given.Over) (c : After-note_chain g) → length c.note_chain.new.table ≡ length c.args.table.now
chain_size g c = ap length c.note_chain.ensures.chain.2 ∙ length-noted c.clear.new.self (entries_of c.note_chain.ensures.chain.0) ∙ ap length c.clear.ensures ∙ length-replicate {A = Option ℕ} (length c.args.table.now) None

inside : (g : given.Over) (c : After-note_chain g) (row : List Entry) (n : ℕ) → n ≡ length c.args.table.now → All (fact_of (viewed g c) c.args.h) row → All (λ e. e.pos < n) row
inside g c row n is stands =
    subst (λ k. All (λ e. e.pos < k) row) (sym (is ∙ sized g c)) (positions-found (edges_of c.self.inside.seat.pool.fact) (order_of c.self.inside.seat.pool.fact) c.args.h row stands)

-- the own row is what was kept at the root
own : (g : given.Over) (c : After-note_chain g) → label_row (own_rows c.self.inside.puts) c.args.h ≡ entries_of_node c.self.inside.puts.kept c.args.h
own g c = own_is c.self.inside.seat c.self.inside.global c.self.inside.puts c.self.invariant.1 c.self.invariant.4 c.args.h (visit_is g c).node

pub note-requires-clause-node : goal.note-requires-clause-node
note-requires-clause-node g c =
    let up = (goal.at.note-requires-clause-node g c).After-note_chain in
    is_node c.self.inside.seat c.self.inside.global c.self.inside.puts c.self.invariant.1 c.self.invariant.4 c.args.h (visit_is g up).node

pub note-requires-clause-positions : goal.note-requires-clause-positions
note-requires-clause-positions g c =
    let up = (goal.at.note-requires-clause-positions g c).After-note_chain in
    let is = visit_is g up in
    inside g up (entries_of_node c.self.inside.puts.kept c.args.h) (length c.note_chain.new.table) (chain_size g up) (subst (All (fact_of (viewed g up) c.args.h)) (own g up) (is.viewing.own.fit c.args.h is.node.from_one is.node.up_to_n))

-- and when what was kept was noted, too
own_size : (g : given.Over) (c : After-note_chain g) (table : List (Option ℕ)) → table ≡ noted c.note_chain.new.table (reverse (entries_of_node c.self.inside.puts.kept c.args.h)) → length table ≡ length c.args.table.now
own_size g c table is = ap length is ∙ length-noted c.note_chain.new.table (reverse (entries_of_node c.self.inside.puts.kept c.args.h)) ∙ chain_size g c

pub note-requires-2-clause-positions : goal.note-requires-2-clause-positions
note-requires-2-clause-positions g c =
    let up = (goal.at.note-requires-2-clause-positions g c).After-note_chain in
    let is = visit_is g up in
    inside g up (label_row c.self.inside.global c.args.h) (length c.note.new.table) (own_size g up c.note.new.table c.note.ensures) (is.viewing.global.fit c.args.h is.node.from_one is.node.up_to_n)

pub invariant_of-self : goal.invariant_of-self
invariant_of-self g c =
    let up = (goal.at.invariant_of-self g c).After-note_chain in
    let is = visit_is g up in
    let found = c.note_chain.ensures.chain.0 in (
      pool_kept (viewed g up) c.args.h c.note_chain.new.seat found is c.self.inside.pool.now c.self.invariant.0,
      viewing_now (viewed g up) c.args.h c.note_chain.new.seat found is,
      open_kept (viewed g up) c.args.h c.note_chain.new.seat found is c.self.inside.past c.self.inside.puts c.self.invariant.2,
      puts_kept (viewed g up) c.args.h c.note_chain.new.seat found is c.self.inside.puts c.self.invariant.3,
      c.self.invariant.4,
    )

pub returns-clause-visit : goal.returns-clause-visit
returns-clause-visit g c =
    let up = (goal.at.returns-clause-visit g c).After-note_chain in
    let is = visit_is g up in
    let found = c.note_chain.ensures.chain.0 in
    let seat = c.note_chain.new.seat in
    let h = c.args.h in
    let now : Viewing = view_of seat c.self.inside.global c.self.inside.puts in
    let none = replicate {A = Option ℕ} (length c.args.table.now) None in
    let global = label_row c.self.inside.global h in
    let kept = entries_of_node c.self.inside.puts.kept h in
    let table : c.note-2.new.table ≡ noted (noted (noted none (entries_of found)) (reverse (label_row (own_rows c.self.inside.puts) h))) global =
    c.note-2.ensures
    ∙ ap (λ t. noted t global) (c.note.ensures ∙ ap (λ t. noted t (reverse kept)) (c.note_chain.ensures.chain.2 ∙ ap (λ t. noted t (entries_of found)) c.clear.ensures))
    ∙ ap (λ row. noted (noted (noted none (entries_of found)) (reverse row)) global) (sym (own g up)) in
    let Told : Viewing → Type 0 = λ w. (found : List Linked) × HasVisited w h found now × IsFound (fact_of w h) (seen_row w h) (whole_row w found h) × HoldsRow c.note-2.new.table (whole_row w found h) × (seen_row now h ≡ whole_row w found h) in
    subst Told c.self.view_is (
      found,
      visited (viewed g up) h seat found is,
      row_found (viewed g up) h seat found is,
      subst (λ t. HoldsRow t (whole_row (viewed g up) found h)) (sym table) (row_held (viewed g up) h seat found is (length c.args.table.now) (sized g up)),
      seen_now (viewed g up) h seat found is,
    )

pub returns-clause-size : goal.returns-clause-size
returns-clause-size g c =
    let up = (goal.at.returns-clause-size g c).After-note_chain in
    ap length c.note-2.ensures ∙ length-noted c.note.new.table (label_row c.self.inside.global c.args.h) ∙ own_size g up c.note.new.table c.note.ensures
