use Rattle.std.proofs.Common.{◌≡◌, ◌≤◌, inl, inr, Contains, length, refl, sym, subst, All, List, arith}
use Rattle.std.proofs.lemmas.Option.{slice_get_within}
use Rattle.std.proofs.lemmas.List.Elements.{All-weaker, All-contains_itself}
use Rattle.walk_laws.specs.declared.entry.Entry.{Entry}
use Rattle.walk_laws.specs.Labelling.{label_row}
use Rattle.hub_index.specs.RootDistances.{IsCover}
use Rattle.hub_index.specs.NodeEntries.{entries_of_node}
use Rattle.hub_index.specs.Views.{IsNode}
use Rattle.hub_index.specs.declared.row_view.Offer.TheVariants.{Put as IsPut, NoMemory}
use Rattle.label_pool.specs.declared.rule.Linked.{Linked}
use Rattle.label_pool.specs.Chains.{entries_of}
use Rattle.label_pool.specs.Seats.{Seated, HasFound}
use Rattle.pool_view.specs.Fitting.{Fitting, MayStand, order_of}
use Rattle.pool_view.specs.Putting.{own_rows}
use Rattle.pool_view.specs.Viewing.{Viewing, IsOfferedToGlobal, IsOfferedToAll}
use Rattle.pool_view.proofs.Answered.{IsVisit, visit-by, viewing_now, pool_kept, open_kept, puts_kept, offered_covered, offered_put, offered_none}
use Rattle.pool_view.proofs.PutViews.{is_node, own_is, view_of}
use Rattle.pool_view.proofs.WholeRows.{seen-found, of_chain, of_own}
use Rattle.pool_view.proofs.view.PoolViewRowView.offer.Given as given
use Rattle.pool_view.proofs.view.PoolViewRowView.offer.Goals as goal
use Rattle.pool_view.proofs.view.PoolViewRowView.offer.Goals.{After-cover}

-- the view as it was
abbrev viewed : (g : given.Over) → After-cover g → Viewing
viewed g c = view_of c.self.inside.seat c.self.inside.global c.self.inside.puts

node_is : (g : given.Over) (c : After-cover g) → IsNode (length (order_of c.self.inside.seat.pool.fact)) c.args.v
node_is g c = subst (λ (w : Viewing). IsNode (length (order_of w.seat.pool.fact)) c.args.v) (sym c.self.view_is) c.requires.node

pub returns-in-Some : goal.returns-in-Some
returns-in-Some g c =
    let up = (goal.at.returns-in-Some g c).After-cover in
    let told : IsOfferedToGlobal c.args.table.now (viewed g up) c.args.v c.args.entry c.covered_by.result (viewed g up) = record {
      cover = c.in-Some.cover;
      there = c.in-Some.ensures.some.0;
      covers = subst (λ d. IsCover c.args.table.now c.args.entry.pos d c.in-Some.cover) c.get-dist.ensures.value c.in-Some.ensures.some.1;
      answer_is = c.covered_by.ensures;
      row = seen-found (viewed g up) c.args.v c.self.invariant.1 (node_is g up);
      same = refl;
    } in
    record { offered = inl (subst (λ w. IsOfferedToGlobal c.args.table.now w c.args.v c.args.entry c.covered_by.result w) c.self.view_is told) }

-- where none of the global row covers
uncovered : (g : given.Over) (c : After-cover g) → ((e : Entry) → Contains (label_row c.self.inside.global c.args.v) e → ¬ IsCover c.args.table.now c.args.entry.pos c.get-dist.result e) → All (λ e. ¬ IsCover c.args.table.now c.args.entry.pos c.args.entry.dist e) (label_row c.self.inside.global c.args.v)
uncovered g c none =
    let row = label_row c.self.inside.global c.args.v in
    let none_of : (e : Entry) → Contains row e → ¬ IsCover c.args.table.now c.args.entry.pos c.args.entry.dist e = λ e there cover. none e there (subst (λ d. IsCover c.args.table.now c.args.entry.pos d e) (sym c.get-dist.ensures.value) cover) in
    All-weaker (Contains row) (λ e. ¬ IsCover c.args.table.now c.args.entry.pos c.args.entry.dist e) none_of row (All-contains_itself row)

-- where none of the chain covers
in_chain : (g : given.Over) (c : After-cover g) (found : List Linked) → All (λ e. ¬ IsCover c.args.table.now c.args.entry.pos c.get-dist.result e) (entries_of found) → All (λ e. ¬ IsCover c.args.table.now c.args.entry.pos c.args.entry.dist e) (entries_of found)
in_chain g c found none = subst (λ d. All (λ e. ¬ IsCover c.args.table.now c.args.entry.pos d e) (entries_of found)) c.get-dist.ensures.value none

position : (g : given.Over) (c : After-cover g) → c.args.entry.pos ≤ length c.args.table.now
position g c = let inside = slice_get_within (order_of c.args.self.now.seat.pool.fact) c.args.entry.pos c.requires.fits.walk.0 c.requires.fits.walk.1 in omega (arith, inside, c.requires.size)

pub covered_in_chain-requires-clause-pos : goal.covered_in_chain-requires-clause-pos
covered_in_chain-requires-clause-pos g c = position g (goal.at.covered_in_chain-requires-clause-pos g c).After-cover

-- the own row is what was kept at the node
own : (g : given.Over) (c : After-cover g) → label_row (own_rows c.self.inside.puts) c.args.v ≡ entries_of_node c.self.inside.puts.kept c.args.v
own g c = own_is c.self.inside.seat c.self.inside.global c.self.inside.puts c.self.invariant.1 c.self.invariant.4 c.args.v (node_is g c)

-- where none of what was kept at the node covers
uncovered_own : (g : given.Over) (c : After-cover g) → ((e : Entry) → Contains (entries_of_node c.self.inside.puts.kept c.args.v) e → ¬ IsCover c.args.table.now c.args.entry.pos c.get-dist.result e) → All (λ e. ¬ IsCover c.args.table.now c.args.entry.pos c.args.entry.dist e) (label_row (own_rows c.self.inside.puts) c.args.v)
uncovered_own g c none =
    let row = label_row (own_rows c.self.inside.puts) c.args.v in
    let none_of : (e : Entry) → Contains row e → ¬ IsCover c.args.table.now c.args.entry.pos c.args.entry.dist e = λ e there cover. none e (subst (λ es. Contains es e) (own g c) there) (subst (λ d. IsCover c.args.table.now c.args.entry.pos d e) (sym c.get-dist.ensures.value) cover) in
    All-weaker (Contains row) (λ e. ¬ IsCover c.args.table.now c.args.entry.pos c.args.entry.dist e) none_of row (All-contains_itself row)

pub cover-requires-2-clause-node : goal.cover-requires-2-clause-node
cover-requires-2-clause-node g c = let up = (goal.at.cover-requires-2-clause-node g c).After-cover in is_node c.self.inside.seat c.self.inside.global c.self.inside.puts c.self.invariant.1 c.self.invariant.4 c.args.v (node_is g up)

pub cover-requires-2-clause-size : goal.cover-requires-2-clause-size
cover-requires-2-clause-size g c = position g (goal.at.cover-requires-2-clause-size g c).After-cover

-- a visit of the view's seat
visit_by : (g : given.Over) (c : After-cover g) (seat : Seated Fitting) (found : List Linked) → HasFound MayStand c.self.inside.pool.now c.self.inside.seat c.args.v found seat → IsVisit (viewed g c) c.args.v seat found
visit_by g c seat found visit = visit-by c.self.inside.pool.now (viewed g c) _ c.self.view_is c.self.invariant.0 c.self.invariant.1 c.args.v c.requires.node seat found visit

pub invariant_of-self : goal.invariant_of-self
invariant_of-self g c =
    let up = (goal.at.invariant_of-self g c).After-cover in
    let chain = c.in-Some-covered_in_chain.ensures.chain in
    let is = visit_by g up c.covered_in_chain.new.seat chain.0 chain.1 in
    (pool_kept (viewed g up) c.args.v c.covered_in_chain.new.seat chain.0 is c.self.inside.pool.now c.self.invariant.0, viewing_now (viewed g up) c.args.v c.covered_in_chain.new.seat chain.0 is, open_kept (viewed g up) c.args.v c.covered_in_chain.new.seat chain.0 is c.self.inside.past c.self.inside.puts c.self.invariant.2, puts_kept (viewed g up) c.args.v c.covered_in_chain.new.seat chain.0 is c.self.inside.puts c.self.invariant.3, c.self.invariant.4)

pub returns-in-Some-covered_in_chain : goal.returns-in-Some-covered_in_chain
returns-in-Some-covered_in_chain g c =
    let up = (goal.at.returns-in-Some-covered_in_chain g c).After-cover in
    let chain = c.in-Some-covered_in_chain.ensures.chain in
    let seat = c.covered_in_chain.new.seat in
    let is = visit_by g up seat chain.0 chain.1 in
    let now : Viewing = view_of seat c.self.inside.global c.self.inside.puts in
    let cover = c.in-Some-covered_in_chain.cover in
    let told = offered_covered (viewed g up) c.args.v seat chain.0 is c.args.table.now c.args.entry (uncovered g up c.in_default.ensures.none)
    cover (of_chain (viewed g up) chain.0 c.args.v cover chain.2.0) (subst (λ d. IsCover c.args.table.now c.args.entry.pos d cover) c.get-dist.ensures.value chain.2.1) c.covered_by-in-Some-covered_in_chain.result c.covered_by-in-Some-covered_in_chain.ensures in
    record { offered = inr (subst (λ w. IsOfferedToAll c.args.table.now w c.args.v c.args.entry c.covered_by-in-Some-covered_in_chain.result now) c.self.view_is told) }

pub invariant_of-self-in-Some-cover : goal.invariant_of-self-in-Some-cover
invariant_of-self-in-Some-cover g c =
    let up = (goal.at.invariant_of-self-in-Some-cover g c).After-cover in
    let chain = c.in_default-covered_in_chain.ensures.chain in
    let is = visit_by g up c.covered_in_chain.new.seat chain.0 chain.1 in
    (pool_kept (viewed g up) c.args.v c.covered_in_chain.new.seat chain.0 is c.self.inside.pool.now c.self.invariant.0, viewing_now (viewed g up) c.args.v c.covered_in_chain.new.seat chain.0 is, open_kept (viewed g up) c.args.v c.covered_in_chain.new.seat chain.0 is c.self.inside.past c.self.inside.puts c.self.invariant.2, puts_kept (viewed g up) c.args.v c.covered_in_chain.new.seat chain.0 is c.self.inside.puts c.self.invariant.3, c.self.invariant.4)

pub returns-in-Some-cover : goal.returns-in-Some-cover
returns-in-Some-cover g c =
    let up = (goal.at.returns-in-Some-cover g c).After-cover in
    let chain = c.in_default-covered_in_chain.ensures.chain in
    let seat = c.covered_in_chain.new.seat in
    let is = visit_by g up seat chain.0 chain.1 in
    let now : Viewing = view_of seat c.self.inside.global c.self.inside.puts in
    let some = c.in-Some-cover.ensures.some in
    let cover = c.in-Some-cover.cover in
    let there = subst (λ row. Contains row cover) (sym (own g up)) some.0 in
    let told = offered_covered (viewed g up) c.args.v seat chain.0 is c.args.table.now c.args.entry (uncovered g up c.in_default.ensures.none)
    cover (of_own (viewed g up) chain.0 c.args.v cover there) (subst (λ d. IsCover c.args.table.now c.args.entry.pos d cover) c.get-dist.ensures.value some.1) c.covered_by-in-Some-cover.result c.covered_by-in-Some-cover.ensures in
    record { offered = inr (subst (λ w. IsOfferedToAll c.args.table.now w c.args.v c.args.entry c.covered_by-in-Some-cover.result now) c.self.view_is told) }

pub invariant_of-self-2 : goal.invariant_of-self-2
invariant_of-self-2 g c =
    let up = (goal.at.invariant_of-self-2 g c).After-cover in
    let chain = c.in_default-covered_in_chain.ensures.chain in
    let is = visit_by g up c.covered_in_chain.new.seat chain.0 chain.1 in
    (pool_kept (viewed g up) c.args.v c.covered_in_chain.new.seat chain.0 is c.self.inside.pool.now c.self.invariant.0, viewing_now (viewed g up) c.args.v c.covered_in_chain.new.seat chain.0 is, open_kept (viewed g up) c.args.v c.covered_in_chain.new.seat chain.0 is c.self.inside.past c.self.inside.puts c.self.invariant.2, puts_kept (viewed g up) c.args.v c.covered_in_chain.new.seat chain.0 is c.self.inside.puts c.self.invariant.3, c.self.invariant.4)

pub returns-in-Ok : goal.returns-in-Ok
returns-in-Ok g c =
    let up = (goal.at.returns-in-Ok g c).After-cover in
    let chain = c.in_default-covered_in_chain.ensures.chain in
    let seat = c.covered_in_chain.new.seat in
    let is = visit_by g up seat chain.0 chain.1 in
    let told = offered_put (viewed g up) c.args.v seat chain.0 is c.args.table.now c.args.entry (uncovered g up c.in_default.ensures.none)
    (in_chain g up chain.0 chain.3) (uncovered_own g up c.in_default-cover.ensures.none) c.put.new.self c.in-Ok.ensures.ok in
    record { offered = inr (subst (λ w. IsOfferedToAll c.args.table.now w c.args.v c.args.entry IsPut c.put.new.self) c.self.view_is told) }

pub returns-in-Err : goal.returns-in-Err
returns-in-Err g c =
    let up = (goal.at.returns-in-Err g c).After-cover in
    let chain = c.in_default-covered_in_chain.ensures.chain in
    let seat = c.covered_in_chain.new.seat in
    let is = visit_by g up seat chain.0 chain.1 in
    let told = offered_none (viewed g up) c.args.v seat chain.0 is c.args.table.now c.args.entry (uncovered g up c.in_default.ensures.none)
    (in_chain g up chain.0 chain.3) (uncovered_own g up c.in_default-cover.ensures.none) c.put.new.self c.in-Err.ensures.err in
    record { offered = inr (subst (λ w. IsOfferedToAll c.args.table.now w c.args.v c.args.entry NoMemory c.put.new.self) c.self.view_is told) }
