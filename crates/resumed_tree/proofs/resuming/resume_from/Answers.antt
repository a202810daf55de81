use Rattle.std.proofs.Common.{◌≡◌, ◌≢◌, ℕ, ◌+◌, ◌*◌, ◌^◌, ◌<◌, ◌≤◌, All, List, length, sym, ap, subst, ◌∙◌, arith}
use Rattle.std.specs.Prelude.{Some, slice_get}
use Rattle.std.proofs.Math.ListN.{length-set}
use Rattle.std.proofs.lemmas.List.Elements.{All-contains, All-weaker}
use Rattle.std.proofs.lemmas.Option.{slice_get-get_or, slice_get_within, get_or_from_slice_get}
use Rattle.std.proofs.lemmas.Result.{IfOk-from_err}
use Rattle.walk_laws.specs.declared.entry.Entry.{Entry}
use Rattle.walk_laws.specs.declared.graph.Arc.{Arc}
use Rattle.walk_laws.specs.ArcRows.{arcs_in}
use Rattle.walk_laws.specs.Canonical.{IsCanonical}
use Rattle.walk_laws.specs.Graph.{greatest_weight}
use Rattle.walk_laws.specs.Joined.{Joined}
use Rattle.walk_laws.specs.Labelling.{EntryFits, label_row}
use Rattle.walk_laws.proofs.JoinedEdges.{IsEdge-joined, Joined-sym, arcs_of_row}
use Rattle.frontier.specs.Reaches.{settled}
use Rattle.pruned_tree.specs.Relaxed.{IsRelaxed}
use Rattle.pruned_tree.proofs.OfferedNodes.{node_inside, queued_distance}
use Rattle.pruned_tree.proofs.TreeCounts.{unsettled, unsettled-settled, unsettled-same, IsBounded, IsBounded-start, IsBounded-settled, IsBounded-relaxed, room_of_next}
use Rattle.pruned_tree.proofs.TreeRounds.{root_node, root_position}
use Rattle.resumed_tree.specs.declared.resuming.Start.{Start}
use Rattle.resumed_tree.specs.Resumed.{Has, IsStart}
use Rattle.resumed_tree.specs.Taken.{IsTaken, IsUncovered}
use Rattle.resumed_tree.proofs.KeptRows.{AreKept, AreKept-start, AreKept-taken}
use Rattle.resumed_tree.proofs.Searches.{IsSearch, IsSearch-start, IsSearch-settled, IsSearch-relaxed}
use Rattle.resumed_tree.proofs.SpreadEntries.{HasSpread, HasSpread-start, HasSpread-left, HasSpread-taken, start_has, neighbours_have, stands_already}
use Rattle.resumed_tree.proofs.Starts.{IsStart-node, fits_onward}
use Rattle.resumed_tree.proofs.WholeTrees.{IsResumed-kept}
use Rattle.resumed_tree.proofs.resuming.resume_from.Goals as goal
use Rattle.resumed_tree.proofs.resuming.resume_from.Goals.{In_ok-offer_starts, In-Some}

-- the starts are nodes
starts_are_nodes : (c : In_ok-offer_starts) → All (λ s. 1 ≤ s.node) c.args.starts.now
starts_are_nodes c =
    All-weaker (IsStart (Joined c.args.graph.now.edges) c.args.ranking.now c.args.p) (λ (s : Start). 1 ≤ s.node)
    (λ s may. (IsStart-node c.args.graph.now.n c.args.graph.now.edges c.args.ranking.now c.args.p s c.requires.graph c.requires.ranking c.requires.ranked may).0) c.args.starts.now c.requires.starts

pub offer_starts-requires : goal.offer_starts-requires
offer_starts-requires c =
    All-weaker (IsStart (Joined c.args.graph.now.edges) c.args.ranking.now c.args.p) (λ (s : Start). s.node < length c.args.frontier.now)
    (λ s may. omega (arith, (IsStart-node c.args.graph.now.n c.args.graph.now.edges c.args.ranking.now c.args.p s c.requires.graph c.requires.ranking c.requires.ranked may).1, c.requires.nodes)) c.args.starts.now c.requires.starts

pub loop-v-init : goal.loop-v-init
loop-v-init c =
    let up = (goal.at.loop-v-init c).In_ok-offer_starts in
    let n = c.args.graph.now.n in
    let k = length c.args.frontier.now in
    let starts = c.args.starts.now in
    let may = c.requires.starts in
    let has = c.in_ok-offer_starts.ensures.offered in
    let size : length c.offer_starts.new.frontier ≡ n + 1 = has.size ∙ c.requires.nodes in
    record {
      size = size;
      bounded = IsBounded-start (greatest_weight c.args.graph.now.edges) n _ c.offer_starts.new.frontier size (λ x d there.
          let s = has.came x d there in
          omega (arith, s.3, (All-contains (IsStart (Joined c.args.graph.now.edges) c.args.ranking.now c.args.p) starts s.0 may s.1).near));
      search = λ h root. IsSearch-start (Joined c.args.graph.now.edges) c.args.ranking.now h c.args.p starts k c.offer_starts.new.frontier has root may (starts_are_nodes up);
      kept = λ h root. AreKept-start (Joined c.args.graph.now.edges) c.args.ranking.now h c.args.p c.args.rows.now c.requires.walks;
      spread = λ h root. HasSpread-start (Joined c.args.graph.now.edges) c.args.ranking.now h c.args.p starts c.args.rows.now k c.offer_starts.new.frontier has;
    }

-- the node that is taken
record IsNext (c : In-Some) : Type 0 where
  pub from_one : 1 ≤ c.in-Some.v
  pub up_to_n : c.in-Some.v ≤ c.args.graph.now.n
  pub fits : EntryFits (Joined c.args.graph.now.edges) c.args.ranking.now c.in-Some.v (record { pos = c.args.p; dist = c.in-Some.found.dist })
  pub room : c.in-Some.found.dist + greatest_weight c.args.graph.now.edges < 2 ^ 96

next : (c : In-Some) → IsNext c
next c =
    let inv = c.loop-v.invariant in
    let root = slice_get-get_or c.args.ranking.now c.args.p 0 c.requires.position in
    let search = inv.search _ root in
    let there = queued_distance _ c.in-Some.found c.in-Some.ensures.queued in
    let from_one = search.from_one c.in-Some.v c.in-Some.found.dist there in
    let inside = node_inside c.loop-v.frontier c.in-Some.v c.in-Some.found.dist there in
    let up_to_n : c.in-Some.v ≤ c.args.graph.now.n = omega (arith, inside, inv.size) in
    record {
      from_one = from_one;
      up_to_n = up_to_n;
      fits = record { ranked = search.ranked c.in-Some.v c.in-Some.found.dist there; walk = (_, root, search.walk c.in-Some.v c.in-Some.found.dist there) };
      room = fits_onward c.args.graph.now.n c.args.graph.now.edges c.in-Some.found.dist _ c.requires.graph (omega (arith, from_one, up_to_n))
          (room_of_next _ _ c.loop-v.frontier c.in-Some.v c.in-Some.found c.in-Some.ensures.queued inv.bounded);
    }

pub of-requires : goal.of-requires
of-requires c = omega (arith, (next (goal.at.of-requires c).In-Some).room)

pub take-requires-in-Some-clause-node : goal.take-requires-in-Some-clause-node
take-requires-in-Some-clause-node c = (next (goal.at.take-requires-in-Some-clause-node c).In-Some).from_one

pub take-requires-in-Some-clause-within : goal.take-requires-in-Some-clause-within
take-requires-in-Some-clause-within c =
    let t = next (goal.at.take-requires-in-Some-clause-within c).In-Some in
    let root = slice_get-get_or c.args.ranking.now c.args.p 0 c.requires.position in
    omega (arith, t.up_to_n, c.requires.ranked, (c.loop-v.invariant.kept _ root).walks.size)

pub take-requires-in-Some-clause-rising : goal.take-requires-in-Some-clause-rising
take-requires-in-Some-clause-rising c =
    let up = (goal.at.take-requires-in-Some-clause-rising c).In-Some in
    let t = next up in
    let root = slice_get-get_or c.args.ranking.now c.args.p 0 c.requires.position in
    (c.loop-v.invariant.kept _ root).walks.rising c.in-Some.v t.from_one (omega (arith, t.up_to_n, c.requires.ranked))

pub returns-in_err-took-clause-resumed : goal.returns-in_err-took-clause-resumed
returns-in_err-took-clause-resumed c =
    IsResumed-kept c.args.graph.now.edges c.args.ranking.now c.args.p c.args.starts.now c.args.rows.now c.take-in-Some.new.rows c.from_residual-in_err-took.result c.requires.position
    (λ h root. subst (AreKept (Joined c.args.graph.now.edges) c.args.ranking.now h c.args.p c.args.rows.now) (sym c.in_err-took.ensures.err) (c.loop-v.invariant.kept h root))
    (IfOk-from_err c.from_residual-in_err-took.result _ c.from_residual-in_err-took.ensures.0)
    (IfOk-from_err c.from_residual-in_err-took.result _ c.from_residual-in_err-took.ensures.0)

pub arc_row-requires-clause-node : goal.arc_row-requires-clause-node
arc_row-requires-clause-node c = (next (goal.at.arc_row-requires-clause-node c).In-Some).from_one

pub relax_row-requires-clause-ends : goal.relax_row-requires-clause-ends
relax_row-requires-clause-ends c = λ k d lt.
    let arc = arcs_of_row c.args.graph.now.n c.args.graph.now.edges c.in-Some.v (arcs_in c.arc_row.result) c.requires.graph c.arc_row.ensures k d lt in
    (arc.from_one, omega (arith, arc.up_to_n, c.requires.ranked))

pub relax_row-requires-clause-fits : goal.relax_row-requires-clause-fits
relax_row-requires-clause-fits c = λ k d lt.
    let arc = arcs_of_row c.args.graph.now.n c.args.graph.now.edges c.in-Some.v (arcs_in c.arc_row.result) c.requires.graph c.arc_row.ensures k d lt in
    omega (arith, arc.light, (next (goal.at.relax_row-requires-clause-fits c).In-Some).room)

-- the rows after a row has taken the entry
kept_taken : (c : In-Some) (rows : List (List Entry)) → length rows ≡ length c.loop-v.rows → ((x : ℕ) → 1 ≤ x → x ≢ c.in-Some.v → label_row rows x ≡ label_row c.loop-v.rows x)
    → IsTaken (label_row c.loop-v.rows c.in-Some.v) (label_row rows c.in-Some.v) (record { pos = c.args.p; dist = c.in-Some.found.dist }) → IsUncovered c.args.table.now (label_row c.loop-v.rows c.in-Some.v) (record { pos = c.args.p; dist = c.in-Some.found.dist })
    → (h : ℕ) → slice_get c.args.ranking.now c.args.p ≡ Some h → AreKept (Joined c.args.graph.now.edges) c.args.ranking.now h c.args.p c.args.rows.now rows
kept_taken c rows size same taken uncovered h root =
    let t = next c in
    AreKept-taken (Joined c.args.graph.now.edges) c.args.ranking.now h c.args.p c.args.rows.now c.loop-v.rows (c.loop-v.invariant.kept h root) c.in-Some.v c.in-Some.found.dist t.from_one rows same taken size t.fits c.args.table.now (c.requires.root h root) uncovered

pub loop-v-smaller : goal.loop-v-smaller
loop-v-smaller c =
    let relaxed = c.in_ok-relax_row.ensures.relaxed in
    omega (arith, ap unsettled c.in-Some.ensures.settles, unsettled-settled c.loop-v.frontier c.in-Some.v c.in-Some.found c.in-Some.ensures.queued, unsettled-same c.relax_row.new.frontier c.take.new.self relaxed.size relaxed.settled)

ends : (c : In-Some) → (x y w : ℕ) → Joined c.args.graph.now.edges x y w → (1 ≤ x) × (1 ≤ y)
ends c x y w joined = let edge = IsEdge-joined c.args.graph.now.n c.args.graph.now.edges x y w c.requires.graph.edge joined in (edge.from_one, edge.to_one)

pub loop-v-preserved : goal.loop-v-preserved
loop-v-preserved c =
    let up = (goal.at.loop-v-preserved c).In-Some in
    let inv = c.loop-v.invariant in
    let t = next up in
    let v = c.in-Some.v in
    let f = c.in-Some.found in
    let row : List Arc = arcs_in c.arc_row.result in
    let rows : List (List Entry) = c.take-in-Some.new.rows in
    let taken = rw c.of.ensures at (c.in_ok-took.ensures.taken c.if-not-took.false) in
    let uncovered = rw c.of.ensures at (c.in_ok-took.ensures.uncovered c.if-not-took.false) in
    let relaxed : IsRelaxed c.args.ranking.now c.args.p f.dist (length row) row (settled c.loop-v.frontier v f) c.relax_row.new.frontier =
    subst (λ ns. IsRelaxed c.args.ranking.now c.args.p f.dist (length row) row ns c.relax_row.new.frontier) c.in-Some.ensures.settles c.in_ok-relax_row.ensures.relaxed in
    record {
      size = relaxed.size ∙ length-set c.loop-v.frontier v _ ∙ inv.size;
      bounded = IsBounded-relaxed _ _ c.args.ranking.now c.args.p f.dist (length row) row (settled c.loop-v.frontier v f) c.relax_row.new.frontier
          (λ k d lt. (arcs_of_row c.args.graph.now.n c.args.graph.now.edges v row c.requires.graph c.arc_row.ensures k d lt).light)
          (room_of_next _ _ c.loop-v.frontier v f c.in-Some.ensures.queued inv.bounded) relaxed
          (IsBounded-settled _ _ c.loop-v.frontier v f c.in-Some.ensures.queued inv.bounded);
      search = λ h root.
          IsSearch-relaxed (Joined c.args.graph.now.edges) c.args.ranking.now h c.args.p c.args.starts.now c.loop-v.frontier (inv.search h root) v f c.in-Some.ensures.queued c.in-Some.ensures.nearest (length row) row
          (λ k a is. (c.arc_row.ensures a.to a.w).0 (k, slice_get_within row k a is, get_or_from_slice_get row k a a is)) (ends up) c.relax_row.new.frontier relaxed;
      kept = kept_taken up rows c.in_ok-took.ensures.size c.in_ok-took.ensures.others taken uncovered;
      spread = λ h root.
          HasSpread-taken (Joined c.args.graph.now.edges) c.args.ranking.now h c.args.p c.args.starts.now c.args.rows.now c.loop-v.rows c.loop-v.frontier (inv.search h root) (inv.spread h root) v f t.from_one c.in-Some.ensures.queued c.in-Some.ensures.nearest
          rows c.in_ok-took.ensures.others taken (ends up) row (λ y w arc. (c.arc_row.ensures y w).1 arc) c.relax_row.new.frontier relaxed;
    }

pub returns-in_err-relax_row-clause-resumed : goal.returns-in_err-relax_row-clause-resumed
returns-in_err-relax_row-clause-resumed c =
    let up = (goal.at.returns-in_err-relax_row-clause-resumed c).In-Some in
    IsResumed-kept c.args.graph.now.edges c.args.ranking.now c.args.p c.args.starts.now c.args.rows.now c.take-in-Some.new.rows c.from_residual-in_err-relax_row.result c.requires.position
    (kept_taken up c.take-in-Some.new.rows c.in_ok-took.ensures.size c.in_ok-took.ensures.others (rw c.of.ensures at (c.in_ok-took.ensures.taken c.if-not-took.false)) (rw c.of.ensures at (c.in_ok-took.ensures.uncovered c.if-not-took.false)))
    (IfOk-from_err c.from_residual-in_err-relax_row.result _ c.from_residual-in_err-relax_row.ensures.0)
    (IfOk-from_err c.from_residual-in_err-relax_row.result _ c.from_residual-in_err-relax_row.ensures.0)

pub loop-v-smaller-then-not-took : goal.loop-v-smaller-then-not-took
loop-v-smaller-then-not-took c = omega (arith, ap unsettled c.in-Some.ensures.settles, unsettled-settled c.loop-v.frontier c.in-Some.v c.in-Some.found c.in-Some.ensures.queued)

pub loop-v-preserved-then-not-took : goal.loop-v-preserved-then-not-took
loop-v-preserved-then-not-took c =
    let up = (goal.at.loop-v-preserved-then-not-took c).In-Some in
    let inv = c.loop-v.invariant in
    let t = next up in
    let v = c.in-Some.v in
    let f = c.in-Some.found in
    let now = c.in-Some.ensures.settles in
    let same = c.in_ok-took.ensures.same c.if-not-took.true in
    let needless = rw c.of.ensures at (c.in_ok-took.ensures.needless c.if-not-took.true) in
    let stands : (h : ℕ) → slice_get c.args.ranking.now c.args.p ≡ Some h → IsCanonical (Joined c.args.graph.now.edges) c.args.ranking.now h v f.dist → Has c.loop-v.rows v c.args.p f.dist = λ h root hub.
    let node = root_node c.args.ranking.now h c.args.p c.requires.ranking root in
    stands_already (Joined c.args.graph.now.edges) (Joined-sym c.args.graph.now.edges) c.args.ranking.now h c.args.p c.requires.ranking root (root_position c.args.ranking.now h c.args.p c.requires.ranking root) c.args.table.now
    (label_row c.args.rows.now h) (label_row c.loop-v.rows v) (c.requires.root h root) (c.requires.walks.fit h node.0 node.1) v f.dist ((inv.kept h root).walks.fit v t.from_one (omega (arith, t.up_to_n, c.requires.ranked))) needless hub in
    record {
      size = ap length now ∙ length-set c.loop-v.frontier v _ ∙ inv.size;
      bounded = subst (IsBounded (greatest_weight c.args.graph.now.edges) (2 ^ 94 + (c.args.graph.now.n + 1) * greatest_weight c.args.graph.now.edges)) (sym now) (IsBounded-settled _ _ c.loop-v.frontier v f c.in-Some.ensures.queued inv.bounded);
      search = λ h root.
          subst (IsSearch (Joined c.args.graph.now.edges) c.args.ranking.now h c.args.p c.args.starts.now) (sym now)
          (IsSearch-settled (Joined c.args.graph.now.edges) c.args.ranking.now h c.args.p c.args.starts.now c.loop-v.frontier (inv.search h root) v f c.in-Some.ensures.queued c.in-Some.ensures.nearest);
      kept = λ h root. subst (AreKept (Joined c.args.graph.now.edges) c.args.ranking.now h c.args.p c.args.rows.now) (sym same) (inv.kept h root);
      spread = λ h root.
          subst (λ rows. HasSpread (Joined c.args.graph.now.edges) c.args.ranking.now h c.args.p c.args.rows.now rows c.take.new.self) (sym same)
          (subst (HasSpread (Joined c.args.graph.now.edges) c.args.ranking.now h c.args.p c.args.rows.now c.loop-v.rows) (sym now)
          (HasSpread-left (Joined c.args.graph.now.edges) c.args.ranking.now h c.args.p c.args.starts.now c.args.rows.now c.loop-v.rows c.loop-v.frontier (inv.search h root) (inv.spread h root) v f t.from_one c.in-Some.ensures.queued c.in-Some.ensures.nearest (stands h root)));
    }

pub returns-clause-resumed : goal.returns-clause-resumed
returns-clause-resumed c =
    let inv = c.loop-v.invariant in
    IsResumed-kept c.args.graph.now.edges c.args.ranking.now c.args.p c.args.starts.now c.args.rows.now c.loop-v.rows _ c.requires.position inv.kept
    (λ h s root there hub.
    start_has (Joined c.args.graph.now.edges) c.args.ranking.now h c.args.p c.args.starts.now c.args.rows.now c.loop-v.rows c.loop-v.frontier (inv.search h root) (inv.spread h root) (λ x f queued. c.in_default.ensures.none x f queued) s there hub)
    (λ h v d u w root _ came arc hub.
    neighbours_have (Joined c.args.graph.now.edges) c.args.ranking.now h c.args.p c.args.starts.now c.args.rows.now c.loop-v.rows c.loop-v.frontier (inv.search h root) (inv.spread h root) (λ x f queued. c.in_default.ensures.none x f queued)
    (root_position c.args.ranking.now h c.args.p c.requires.ranking root) v d u w (IsEdge-joined c.args.graph.now.n c.args.graph.now.edges v u w c.requires.graph.edge arc).from_one came arc hub)
