use Rattle.std.proofs.Common.{refl, ◌≡◌, ◌≢◌, ℕ, ◌+◌, ◌*◌, ◌^◌, ◌<◌, ◌≤◌, List, [], ◌∷◌, ◌++◌, Contains, length, replicate, sym, ap, subst, ◌∙◌, arith}
use Rattle.std.specs.Prelude.{Some, slice_get}
use Rattle.std.proofs.Math.ListN.{length-set}
use Rattle.std.proofs.lemmas.List.{length-replicate}
use Rattle.std.proofs.lemmas.Result.{IfOk-from_err}
use Rattle.walk_laws.specs.declared.entry.Entry.{Entry}
use Rattle.walk_laws.specs.ArcRows.{arcs_in}
use Rattle.walk_laws.specs.Graph.{greatest_weight}
use Rattle.walk_laws.specs.Joined.{Joined}
use Rattle.walk_laws.specs.Labelling.{EntryFits}
use Rattle.frontier.specs.declared.reach.Reach.{Reach}
use Rattle.frontier.specs.declared.reach.Reach.TheVariants.{Unreached}
use Rattle.frontier.specs.Reaches.{settled}
use Rattle.hub_index.specs.declared.row_view.Offer.TheVariants.{Put}
use Rattle.hub_index.specs.RootDistances.{IsCover}
use Rattle.hub_index.specs.Views.{IsFound}
use Rattle.hub_index.proofs.FoundRows.{IsFound-weaker, with_put-still}
use Rattle.pruned_tree.specs.declared.bare.Bare.{Bare}
use Rattle.pruned_tree.specs.Relaxed.{IsRelaxed}
use Rattle.pruned_tree.proofs.ApartPuts.{AreApart, AreApart-start, AreApart-same, AreApart-put}
use Rattle.pruned_tree.proofs.CompleteTrees.{IsComplete, all_gained}
use Rattle.pruned_tree.proofs.GrownRows.{IsGrowth, IsPruned-from_growth}
use Rattle.pruned_tree.proofs.OfferedNodes.{node_inside, queued_distance}
use Rattle.walk_laws.proofs.JoinedEdges.{arcs_of_row, fits_96}
use Rattle.pruned_tree.proofs.StartedTrees.{started_at, started, only_start}
use Rattle.pruned_tree.proofs.TreeCounts.{unsettled, unsettled-le, unsettled-settled, unsettled-same, IsBounded, IsBounded-start, IsBounded-settled, IsBounded-relaxed, room_of_next, entries-put, entries-kept}
use Rattle.pruned_tree.proofs.TreeRounds.{same_at_all, weights_positive, IsGrowth-start, IsComplete-start, offer_fits, StillStand-found, fits_by, root_position, none_yet, IsGrowth-round_over, IsComplete-round_over, IsGrowth-round_put, IsGrowth-round, IsComplete-round}
use Rattle.pruned_tree.proofs.growing.grow_from.Given as given
use Rattle.pruned_tree.proofs.growing.grow_from.Goals as goal
use Rattle.pruned_tree.proofs.growing.grow_from.Goals.{In_ok-offer, In-Some, In-Put}

-- the frontier as it is at first: the root alone is queued
first_nodes : (g : given.Over) (c : In_ok-offer g) → c.offer.new.self ≡ started_at (c.args.graph.now.n + 1) c.at.result 0
first_nodes g c = started (c.args.graph.now.n + 1) c.at.result 0 c.clear.new.self c.offer.new.self (c.clear.ensures ∙ ap (λ k. replicate {A = Reach Bare} k Unreached) c.requires.nodes) c.in_ok-offer.ensures.ok

root_inside : (g : given.Over) (c : In_ok-offer g) → c.at.result < length (replicate {A = Reach Bare} (c.args.graph.now.n + 1) Unreached)
root_inside g c = omega (arith, length-replicate {A = Reach Bare} (c.args.graph.now.n + 1) Unreached, c.at.ensures.within, c.requires.ranked)

first_size : (g : given.Over) (c : In_ok-offer g) → length c.offer.new.self ≡ c.args.graph.now.n + 1
first_size g c = ap length (first_nodes g c) ∙ length-set (replicate {A = Reach Bare} (c.args.graph.now.n + 1) Unreached) c.at.result _ ∙ length-replicate {A = Reach Bare} (c.args.graph.now.n + 1) Unreached

pub loop-v-init : goal.loop-v-init
loop-v-init g c =
    let size = first_size g c in
    let same : (h : ℕ) → slice_get c.args.ranking.now c.args.p ≡ Some h → c.at.result ≡ h = λ h root. let both : Some c.at.result ≡ Some h = sym c.at.ensures.value ∙ root in cc in
    let now : (h : ℕ) → c.at.result ≡ h → c.offer.new.self ≡ started_at (c.args.graph.now.n + 1) h 0 =
    λ h is. first_nodes g c ∙ ap (λ x. started_at (c.args.graph.now.n + 1) x 0) is in
    let inside : (h : ℕ) → c.at.result ≡ h → h < length (replicate {A = Reach Bare} (c.args.graph.now.n + 1) Unreached) = λ h is. subst (λ x. x < length (replicate {A = Reach Bare} (c.args.graph.now.n + 1) Unreached)) is (root_inside g c) in
    record {
      edges = c.requires.edges;
      order = c.requires.order;
      kept = refl;
      size = size;
      bounded = IsBounded-start (greatest_weight c.args.graph.now.edges) c.args.graph.now.n _ c.offer.new.self size (λ x d there.
          let is = (only_start (c.args.graph.now.n + 1) c.at.result 0 c.offer.new.self (first_nodes g c) (root_inside g c) x d there).1 in
          omega (arith, is));
      growth = λ h root. IsGrowth-start c.args.graph.now.n c.args.graph.now.edges c.args.ranking.now h c.args.p c.requires.graph c.requires.ranked c.requires.ranking root (g.R.RowView.puts c.args.view.now) (g.R.RowView.seen c.args.view.now) c.offer.new.self (now h (same h root)) (inside h (same h root));
      complete = λ h root. IsComplete-start c.args.graph.now.n c.args.graph.now.edges c.args.ranking.now h c.args.p c.requires.graph c.requires.ranked c.requires.ranking root (g.R.RowView.puts c.args.view.now) (g.R.RowView.seen c.args.view.now) c.offer.new.self (now h (same h root)) (inside h (same h root));
      seen = λ x e from_one there. there;
      apart = λ h root. AreApart-start (Joined c.args.graph.now.edges) c.args.ranking.now h c.args.p (g.R.RowView.seen c.args.view.now) (g.R.RowView.puts c.args.view.now);
      counted = omega arith;
      few = omega (arith, unsettled-le c.offer.new.self, size);
    }

-- the node that is taken
record Taken (g : given.Over) (c : In-Some g) : Type 0 where
  pub from_one : 1 ≤ c.in-Some.v
  pub up_to_n : c.in-Some.v ≤ c.args.graph.now.n
  pub fits : EntryFits (Joined c.args.graph.now.edges) c.args.ranking.now c.in-Some.v (record { pos = c.args.p; dist = c.in-Some.found.dist })
  pub room : c.in-Some.found.dist + greatest_weight c.args.graph.now.edges < 2 ^ 96

taken : (g : given.Over) (c : In-Some g) → Taken g c
taken g c =
    let inv = c.loop-v.invariant in
    let root = c.at.ensures.value in
    let growth = inv.growth c.at.result root in
    let there = queued_distance _ c.in-Some.found c.in-Some.ensures.queued in
    let from_one = growth.from_one c.in-Some.v c.in-Some.found.dist there in
    let inside = node_inside c.loop-v.frontier c.in-Some.v c.in-Some.found.dist there in
    let up_to_n : c.in-Some.v ≤ c.args.graph.now.n = omega (arith, inside, inv.size) in
    let room = room_of_next _ _ c.loop-v.frontier c.in-Some.v c.in-Some.found c.in-Some.ensures.queued inv.bounded in
    record {
      from_one = from_one;
      up_to_n = up_to_n;
      fits = offer_fits c.args.graph.now.n c.args.graph.now.edges c.args.ranking.now c.at.result c.args.p c.requires.graph c.requires.ranked c.requires.ranking root (g.R.RowView.puts c.args.view.now) (g.R.RowView.seen c.args.view.now)
          c.loop-v.frontier (g.R.RowView.puts c.loop-v.view) (g.R.RowView.seen c.loop-v.view) c.args.table.now (c.requires.root c.at.result root) growth (inv.complete c.at.result root) inv.seen c.in-Some.v c.in-Some.found c.in-Some.ensures.queued c.in-Some.ensures.nearest;
      room = fits_96 c.args.graph.now.n c.args.graph.now.edges c.in-Some.found.dist _ c.requires.graph (omega (arith, from_one, up_to_n)) room;
    }

pub offer-requires-in-Some-clause-node : goal.offer-requires-in-Some-clause-node
offer-requires-in-Some-clause-node g c =
    let t = taken g (goal.at.offer-requires-in-Some-clause-node g c).In-Some in
    record { from_one = t.from_one; up_to_n = omega (arith, t.up_to_n, c.requires.ranked, ap length c.loop-v.invariant.order) }

pub of-requires : goal.of-requires
of-requires g c = omega (arith, (taken g (goal.at.of-requires g c).In-Some).room)

pub offer-requires-in-Some-clause-fits : goal.offer-requires-in-Some-clause-fits
offer-requires-in-Some-clause-fits g c =
    let t = taken g (goal.at.offer-requires-in-Some-clause-fits g c).In-Some in
    rw c.of.ensures ((g.met.R.RowView.fact_fits c.loop-v.view c.in-Some.v (record { pos = c.args.p; dist = c.in-Some.found.dist })).1
    (fits_by _ _ _ _ c.in-Some.v (record { pos = c.args.p; dist = c.in-Some.found.dist }) (sym c.loop-v.invariant.edges) (sym c.loop-v.invariant.order) t.fits))

pub arc_row-requires-clause-node : goal.arc_row-requires-clause-node
arc_row-requires-clause-node g c = (taken g (goal.at.arc_row-requires-clause-node g c).In-Some).from_one

pub arc_row-requires-clause-within : goal.arc_row-requires-clause-within
arc_row-requires-clause-within g c = (taken g (goal.at.arc_row-requires-clause-within g c).In-Some).up_to_n

pub relax_row-requires-clause-ends : goal.relax_row-requires-clause-ends
relax_row-requires-clause-ends g c = λ k d lt.
    let arc = arcs_of_row c.args.graph.now.n c.args.graph.now.edges c.in-Some.v (arcs_in c.arc_row.result) c.requires.graph c.arc_row.ensures k d lt in
    (arc.from_one, omega (arith, arc.up_to_n, c.requires.ranked))

pub relax_row-requires-clause-fits : goal.relax_row-requires-clause-fits
relax_row-requires-clause-fits g c = λ k d lt.
    let arc = arcs_of_row c.args.graph.now.n c.args.graph.now.edges c.in-Some.v (arcs_in c.arc_row.result) c.requires.graph c.arc_row.ensures k d lt in
    omega (arith, arc.light, (taken g (goal.at.relax_row-requires-clause-fits g c).In-Some).room)

pub loop-v-smaller-in-Covered : goal.loop-v-smaller-in-Covered
loop-v-smaller-in-Covered g c = omega (arith, ap unsettled c.in-Some.ensures.settles, unsettled-settled c.loop-v.frontier c.in-Some.v c.in-Some.found c.in-Some.ensures.queued)

pub loop-v-smaller : goal.loop-v-smaller
loop-v-smaller g c =
    let relaxed = c.in_ok-relax_row.ensures.relaxed in
    omega (arith, ap unsettled c.in-Some.ensures.settles, unsettled-settled c.loop-v.frontier c.in-Some.v c.in-Some.found c.in-Some.ensures.queued, unsettled-same c.relax_row.new.frontier c.take.new.self relaxed.size relaxed.settled)

-- a row that the view finds is one of this graph and ranking
found_here : (g : given.Over) (c : In-Some g) (row : List Entry) → IsFound (g.R.RowView.fact c.loop-v.view c.in-Some.v) (g.R.RowView.seen c.loop-v.view c.in-Some.v) row → IsFound (EntryFits (Joined c.args.graph.now.edges) c.args.ranking.now c.in-Some.v) (g.R.RowView.seen c.loop-v.view c.in-Some.v) row
found_here g c row found =
    IsFound-weaker (g.R.RowView.fact c.loop-v.view c.in-Some.v) (EntryFits (Joined c.args.graph.now.edges) c.args.ranking.now c.in-Some.v) (g.R.RowView.seen c.loop-v.view c.in-Some.v) row
    (λ e keeps. fits_by _ _ _ _ c.in-Some.v e c.loop-v.invariant.edges c.loop-v.invariant.order ((g.met.R.RowView.fact_fits c.loop-v.view c.in-Some.v e).0 keeps)) found

-- the growth where nothing is put
growth_over : (g : given.Over) (c : In-Some g) (row : List Entry) (now : ℕ → List Entry) → IsFound (EntryFits (Joined c.args.graph.now.edges) c.args.ranking.now c.in-Some.v) (g.R.RowView.seen c.loop-v.view c.in-Some.v) row → ((x : ℕ) → 1 ≤ x → now x ≡ g.R.RowView.puts c.loop-v.view x) → (h : ℕ) → slice_get c.args.ranking.now c.args.p ≡ Some h → IsGrowth (Joined c.args.graph.now.edges) c.args.ranking.now h c.args.p (g.R.RowView.puts c.args.view.now) (settled c.loop-v.frontier c.in-Some.v c.in-Some.found) now
growth_over g c row now found same h root =
    IsGrowth-round_over c.args.graph.now.n c.args.graph.now.edges c.args.ranking.now h c.args.p c.requires.graph c.requires.ranked c.requires.ranking root (g.R.RowView.puts c.args.view.now) (g.R.RowView.seen c.args.view.now)
    c.loop-v.frontier (g.R.RowView.puts c.loop-v.view) (g.R.RowView.seen c.loop-v.view) c.args.table.now (c.requires.root h root) (c.loop-v.invariant.growth h root) (c.loop-v.invariant.complete h root) c.loop-v.invariant.seen c.in-Some.v c.in-Some.found c.in-Some.ensures.queued c.in-Some.ensures.nearest
    row found now same

-- and where the entry is
growth_put : (g : given.Over) (c : In-Some g) (row : List Entry) (now : ℕ → List Entry) → IsFound (EntryFits (Joined c.args.graph.now.edges) c.args.ranking.now c.in-Some.v) (g.R.RowView.seen c.loop-v.view c.in-Some.v) row → now c.in-Some.v ≡ g.R.RowView.puts c.loop-v.view c.in-Some.v ++ record { pos = c.args.p; dist = c.in-Some.found.dist } ∷ [] → ((x : ℕ) → 1 ≤ x → x ≢ c.in-Some.v → now x ≡ g.R.RowView.puts c.loop-v.view x) → (h : ℕ) → slice_get c.args.ranking.now c.args.p ≡ Some h → IsGrowth (Joined c.args.graph.now.edges) c.args.ranking.now h c.args.p (g.R.RowView.puts c.args.view.now) (settled c.loop-v.frontier c.in-Some.v c.in-Some.found) now
growth_put g c row now found put same h root =
    IsGrowth-round_put c.args.graph.now.n c.args.graph.now.edges c.args.ranking.now h c.args.p c.requires.graph c.requires.ranked c.requires.ranking root (g.R.RowView.puts c.args.view.now) (g.R.RowView.seen c.args.view.now)
    c.loop-v.frontier (g.R.RowView.puts c.loop-v.view) (g.R.RowView.seen c.loop-v.view) c.args.table.now (c.requires.root h root) (c.loop-v.invariant.growth h root) (c.loop-v.invariant.complete h root) c.loop-v.invariant.seen c.in-Some.v c.in-Some.found c.in-Some.ensures.queued c.in-Some.ensures.nearest
    row found now put same

-- what was put is shorter than what was seen, where nothing more is put
apart_over : (g : given.Over) (c : In-Some g) (now : ℕ → List Entry) → ((x : ℕ) → 1 ≤ x → now x ≡ g.R.RowView.puts c.loop-v.view x) → (h : ℕ) → slice_get c.args.ranking.now c.args.p ≡ Some h → AreApart h c.args.p (g.R.RowView.seen c.args.view.now) (g.R.RowView.puts c.args.view.now) now
apart_over g c now same h root =
    AreApart-same (Joined c.args.graph.now.edges) c.args.ranking.now h c.args.p (g.R.RowView.seen c.args.view.now) (g.R.RowView.puts c.args.view.now) (g.R.RowView.puts c.loop-v.view) (c.loop-v.invariant.apart h root) now same

-- and where the entry is
apart_put : (g : given.Over) (c : In-Some g) (row : List Entry) (now : ℕ → List Entry) → IsFound (EntryFits (Joined c.args.graph.now.edges) c.args.ranking.now c.in-Some.v) (g.R.RowView.seen c.loop-v.view c.in-Some.v) row → ((e : Entry) → Contains row e → ¬ IsCover c.args.table.now c.args.p c.in-Some.found.dist e)
    → now c.in-Some.v ≡ g.R.RowView.puts c.loop-v.view c.in-Some.v ++ record { pos = c.args.p; dist = c.in-Some.found.dist } ∷ [] → ((x : ℕ) → 1 ≤ x → x ≢ c.in-Some.v → now x ≡ g.R.RowView.puts c.loop-v.view x)
    → (h : ℕ) → slice_get c.args.ranking.now c.args.p ≡ Some h → AreApart h c.args.p (g.R.RowView.seen c.args.view.now) (g.R.RowView.puts c.args.view.now) now
apart_put g c row now found uncovered put same h root =
    let inv = c.loop-v.invariant in
    AreApart-put (Joined c.args.graph.now.edges) c.args.ranking.now h c.args.p (g.R.RowView.seen c.args.view.now) (g.R.RowView.puts c.args.view.now) (g.R.RowView.puts c.loop-v.view) (inv.apart h root) now
    (g.R.RowView.seen c.loop-v.view) (EntryFits (Joined c.args.graph.now.edges) c.args.ranking.now c.in-Some.v) c.args.table.now (c.requires.root h root).held inv.seen c.in-Some.v c.in-Some.found.dist row found uncovered
    (none_yet c.args.graph.now.n c.args.graph.now.edges c.args.ranking.now h c.args.p c.requires.graph c.requires.ranked c.requires.ranking root (g.R.RowView.puts c.args.view.now) (g.R.RowView.seen c.args.view.now)
    c.loop-v.frontier (g.R.RowView.puts c.loop-v.view) (g.R.RowView.seen c.loop-v.view) c.args.table.now (c.requires.root h root) (inv.growth h root) (inv.complete h root) inv.seen c.in-Some.v c.in-Some.found c.in-Some.ensures.queued c.in-Some.ensures.nearest)
    put same

pub loop-v-preserved-in-Covered : goal.loop-v-preserved-in-Covered
loop-v-preserved-in-Covered g c =
    let up = (goal.at.loop-v-preserved-in-Covered g c).In-Some in
    let inv = c.loop-v.invariant in
    let offered = c.in-Covered.ensures in
    let row = rw c.of.ensures at offered.found in
    let found = found_here g up row.0 row.1 in
    let same = same_at_all (g.R.RowView.puts c.loop-v.view) (g.R.RowView.puts c.offer-in-Some.new.self) c.in-Some.v offered.puts offered.others_puts in
    let now = c.in-Some.ensures.settles in
    record {
      edges = offered.edges ∙ inv.edges;
      order = offered.order ∙ inv.order;
      kept = offered.kept ∙ inv.kept;
      size = ap length now ∙ length-set c.loop-v.frontier c.in-Some.v _ ∙ inv.size;
      bounded = subst (IsBounded (greatest_weight c.args.graph.now.edges) ((c.args.graph.now.n + 1) * greatest_weight c.args.graph.now.edges)) (sym now) (IsBounded-settled _ _ c.loop-v.frontier c.in-Some.v c.in-Some.found c.in-Some.ensures.queued inv.bounded);
      growth = λ h root. subst (λ ns. IsGrowth (Joined c.args.graph.now.edges) c.args.ranking.now h c.args.p (g.R.RowView.puts c.args.view.now) ns (g.R.RowView.puts c.offer-in-Some.new.self)) (sym now) (growth_over g up row.0 (g.R.RowView.puts c.offer-in-Some.new.self) found same h root);
      complete = λ h root. subst (λ ns. IsComplete (Joined c.args.graph.now.edges) c.args.ranking.now h c.args.p (g.R.RowView.puts c.args.view.now) (g.R.RowView.seen c.args.view.now) ns (g.R.RowView.puts c.offer-in-Some.new.self)) (sym now)
          (IsComplete-round_over c.args.graph.now.n c.args.graph.now.edges c.args.ranking.now h c.args.p c.requires.graph c.requires.ranked c.requires.ranking root (g.R.RowView.puts c.args.view.now) (g.R.RowView.seen c.args.view.now)
          c.loop-v.frontier (g.R.RowView.puts c.loop-v.view) (g.R.RowView.seen c.loop-v.view) c.args.table.now (c.requires.root h root) (inv.growth h root) (inv.complete h root) inv.seen c.in-Some.v c.in-Some.found c.in-Some.ensures.queued c.in-Some.ensures.nearest
          row.0 found (g.R.RowView.puts c.offer-in-Some.new.self) (record { pos = c.in-Covered.pos; dist = c.in-Covered.dist }) row.2.0 row.2.1 same);
      seen = StillStand-found (g.R.RowView.seen c.args.view.now) (g.R.RowView.seen c.loop-v.view) (g.R.RowView.seen c.offer-in-Some.new.self) c.in-Some.v row.0 inv.seen found.still (λ e there. subst (λ xs. Contains xs e) (sym row.3) there) offered.others_seen;
      apart = λ h root. apart_over g up (g.R.RowView.puts c.offer-in-Some.new.self) same h root;
      counted = entries-kept c.args.ranking.now (g.R.RowView.puts c.loop-v.view) (g.R.RowView.puts c.offer-in-Some.new.self) c.requires.ranking same ∙ inv.counted;
      few = omega (arith, ap unsettled now, unsettled-settled c.loop-v.frontier c.in-Some.v c.in-Some.found c.in-Some.ensures.queued, inv.few);
    }

pub loop-v-preserved : goal.loop-v-preserved
loop-v-preserved g c =
    let up = (goal.at.loop-v-preserved g c).In-Some in
    let inv = c.loop-v.invariant in
    let offered = c.in-Put.ensures in
    let row = rw c.of.ensures at offered.found in
    let puts = rw c.of.ensures at offered.puts in
    let found = found_here g up row.0 row.1 in
    let now = c.in-Some.ensures.settles in
    let t = taken g up in
    let relaxed : IsRelaxed c.args.ranking.now c.args.p c.in-Some.found.dist (length (arcs_in c.arc_row.result)) (arcs_in c.arc_row.result) (settled c.loop-v.frontier c.in-Some.v c.in-Some.found) c.relax_row.new.frontier =
    subst (λ ns. IsRelaxed c.args.ranking.now c.args.p c.in-Some.found.dist (length (arcs_in c.arc_row.result)) (arcs_in c.arc_row.result) ns c.relax_row.new.frontier) now c.in_ok-relax_row.ensures.relaxed in
    record {
      edges = offered.edges ∙ inv.edges;
      order = offered.order ∙ inv.order;
      kept = offered.kept ∙ inv.kept;
      size = relaxed.size ∙ length-set c.loop-v.frontier c.in-Some.v _ ∙ inv.size;
      bounded = IsBounded-relaxed _ _ c.args.ranking.now c.args.p c.in-Some.found.dist (length (arcs_in c.arc_row.result)) (arcs_in c.arc_row.result) (settled c.loop-v.frontier c.in-Some.v c.in-Some.found) c.relax_row.new.frontier
          (λ k d lt. (arcs_of_row c.args.graph.now.n c.args.graph.now.edges c.in-Some.v (arcs_in c.arc_row.result) c.requires.graph c.arc_row.ensures k d lt).light)
          (room_of_next _ _ c.loop-v.frontier c.in-Some.v c.in-Some.found c.in-Some.ensures.queued inv.bounded) relaxed
          (IsBounded-settled _ _ c.loop-v.frontier c.in-Some.v c.in-Some.found c.in-Some.ensures.queued inv.bounded);
      growth = λ h root.
          IsGrowth-round c.args.graph.now.n c.args.graph.now.edges c.args.ranking.now h c.args.p c.requires.graph c.requires.ranked c.requires.ranking root (g.R.RowView.puts c.args.view.now) (g.R.RowView.seen c.args.view.now)
          c.loop-v.frontier (g.R.RowView.puts c.loop-v.view) (g.R.RowView.seen c.loop-v.view) c.args.table.now (c.requires.root h root) (inv.growth h root) (inv.complete h root) inv.seen c.in-Some.v c.in-Some.found c.in-Some.ensures.queued c.in-Some.ensures.nearest
          row.0 found (g.R.RowView.puts c.offer-in-Some.new.self) puts offered.others_puts (arcs_in c.arc_row.result) c.arc_row.ensures c.relax_row.new.frontier relaxed;
      complete = λ h root.
          IsComplete-round c.args.graph.now.n c.args.graph.now.edges c.args.ranking.now h c.args.p c.requires.graph c.requires.ranked c.requires.ranking root (g.R.RowView.puts c.args.view.now) (g.R.RowView.seen c.args.view.now)
          c.loop-v.frontier (g.R.RowView.puts c.loop-v.view) (g.R.RowView.seen c.loop-v.view) c.args.table.now (c.requires.root h root) (inv.growth h root) (inv.complete h root) inv.seen c.in-Some.v c.in-Some.found c.in-Some.ensures.queued c.in-Some.ensures.nearest
          row.0 found (g.R.RowView.puts c.offer-in-Some.new.self) puts offered.others_puts (arcs_in c.arc_row.result) c.arc_row.ensures c.relax_row.new.frontier relaxed row.2;
      seen = StillStand-found (g.R.RowView.seen c.args.view.now) (g.R.RowView.seen c.loop-v.view) (g.R.RowView.seen c.offer-in-Some.new.self) c.in-Some.v row.0 inv.seen found.still
          (with_put-still row.0 (record { pos = c.args.p; dist = c.in-Some.found.dist }) Put (g.R.RowView.seen c.offer-in-Some.new.self c.in-Some.v) row.3) offered.others_seen;
      apart = λ h root. apart_put g up row.0 (g.R.RowView.puts c.offer-in-Some.new.self) found row.2 puts offered.others_puts h root;
      counted = omega (arith, inv.counted, entries-put c.args.ranking.now (g.R.RowView.puts c.loop-v.view) (g.R.RowView.puts c.offer-in-Some.new.self) c.in-Some.v (record { pos = c.args.p; dist = c.in-Some.found.dist }) c.requires.ranking t.from_one (omega (arith, t.up_to_n, c.requires.ranked)) puts offered.others_puts);
      few = omega (arith, unsettled-same c.relax_row.new.frontier (settled c.loop-v.frontier c.in-Some.v c.in-Some.found) relaxed.size relaxed.settled, unsettled-settled c.loop-v.frontier c.in-Some.v c.in-Some.found c.in-Some.ensures.queued, inv.few);
    }

pub returns-in_err-relax_row-clause-grown : goal.returns-in_err-relax_row-clause-grown
returns-in_err-relax_row-clause-grown g c =
    let up = (goal.at.returns-in_err-relax_row-clause-grown g c).In-Some in
    let offered = c.in-Put.ensures in
    let row = rw c.of.ensures at offered.found in
    let puts = rw c.of.ensures at offered.puts in
    record {
      pruned = IsPruned-from_growth (Joined c.args.graph.now.edges) c.args.ranking.now c.at.result c.args.p (g.R.RowView.puts c.args.view.now) (settled c.loop-v.frontier c.in-Some.v c.in-Some.found) (g.R.RowView.puts c.offer-in-Some.new.self)
          (growth_put g up row.0 (g.R.RowView.puts c.offer-in-Some.new.self) (found_here g up row.0 row.1) puts offered.others_puts c.at.result c.at.ensures.value) c.at.ensures.value;
      count = IfOk-from_err c.from_residual-in_err-relax_row.result _ c.from_residual-in_err-relax_row.ensures.0;
      complete = IfOk-from_err c.from_residual-in_err-relax_row.result _ c.from_residual-in_err-relax_row.ensures.0;
      exact = IfOk-from_err c.from_residual-in_err-relax_row.result _ c.from_residual-in_err-relax_row.ensures.0;
      apart = λ h v d q s root from_one gained sum above.
          apart_put g up row.0 (g.R.RowView.puts c.offer-in-Some.new.self) (found_here g up row.0 row.1) row.2 puts offered.others_puts h root v d from_one gained q s sum above;
    }

pub returns-in-NoMemory-clause-grown : goal.returns-in-NoMemory-clause-grown
returns-in-NoMemory-clause-grown g c =
    let up = (goal.at.returns-in-NoMemory-clause-grown g c).In-Some in
    let offered = c.in-NoMemory.ensures in
    let same = same_at_all (g.R.RowView.puts c.loop-v.view) (g.R.RowView.puts c.offer-in-Some.new.self) c.in-Some.v offered.puts offered.others_puts in
    record {
      pruned = IsPruned-from_growth (Joined c.args.graph.now.edges) c.args.ranking.now c.at.result c.args.p (g.R.RowView.puts c.args.view.now) (settled c.loop-v.frontier c.in-Some.v c.in-Some.found) (g.R.RowView.puts c.offer-in-Some.new.self)
          (growth_over g up offered.found.0 (g.R.RowView.puts c.offer-in-Some.new.self) (found_here g up offered.found.0 offered.found.1) same c.at.result c.at.ensures.value) c.at.ensures.value;
      count = tt;
      complete = tt;
      exact = tt;
      apart = λ h v d q s root from_one gained sum above. apart_over g up (g.R.RowView.puts c.offer-in-Some.new.self) same h root v d from_one gained q s sum above;
    }

pub returns-clause-grown : goal.returns-clause-grown
returns-clause-grown g c = record {
  pruned = IsPruned-from_growth (Joined c.args.graph.now.edges) c.args.ranking.now c.at.result c.args.p (g.R.RowView.puts c.args.view.now) c.loop-v.frontier (g.R.RowView.puts c.loop-v.view) (c.loop-v.invariant.growth c.at.result c.at.ensures.value) c.at.ensures.value;
  count = c.loop-v.invariant.counted;
  complete = λ h v d root hub.
      all_gained (Joined c.args.graph.now.edges) (weights_positive c.args.graph.now.n c.args.graph.now.edges c.requires.graph) c.args.ranking.now h c.args.p (root_position c.args.ranking.now h c.args.p c.requires.ranking root) (g.R.RowView.puts c.args.view.now) (g.R.RowView.seen c.args.view.now)
      c.loop-v.frontier (g.R.RowView.puts c.loop-v.view) (c.loop-v.invariant.complete h root) (λ x f queued. c.in_default.ensures.none x f queued) v d hub;
  exact = λ higher h v d root from_one gained. (c.loop-v.invariant.complete h root).exact v d from_one gained higher;
  apart = λ h v d q s root from_one gained sum above. c.loop-v.invariant.apart h root v d from_one gained q s sum above;
}
