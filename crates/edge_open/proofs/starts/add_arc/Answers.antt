use Rattle.std.proofs.Common.{◌≡◌, ℕ, ◌+◌, ◌<◌, ◌^◌, ◌≤◌, List, [], ◌∷◌, ◌++◌, All, Contains, length, take, sym, ap, subst, ◌∙◌, inl, inr, refl}
use Rattle.std.specs.Prelude.{Some, slice_get}
use Rattle.std.proofs.lemmas.List.{take_all, take_more}
use Rattle.std.proofs.lemmas.List.Elements.{All-contains, All-push, Contains-append_left, Contains-push}
use Rattle.std.proofs.lemmas.Option.{slice_get_within}
use Rattle.walk_laws.specs.declared.entry.Entry.{Entry}
use Rattle.walk_laws.specs.Joined.{Joined}
use Rattle.walk_laws.specs.Labelling.{EntryFits, label_row}
use Rattle.walk_laws.specs.Ranking.{position_of}
use Rattle.walk_laws.specs.Walk.{HasWalk}
use Rattle.walk_laws.proofs.Walks.{HasWalk-after}
use Rattle.resumed_tree.specs.declared.resuming.Start.{Start}
use Rattle.edge_open.specs.OpenArcs.{IsHubStart, GoesOn}
use Rattle.edge_open.proofs.KeptEntries.{arc_to_node}
use Rattle.edge_open.proofs.OpenedRows.{GoesOn-push}
use Rattle.edge_open.proofs.starts.add_arc.Goals as goal
use Rattle.edge_open.proofs.starts.add_arc.Goals.{After-start_of, in-Some+in_ok-push, in_default}

-- the row of the end has the entry
there : (c : After-start_of) → Contains (label_row c.args.rows.now c.args.from) c.hub-item.result
there c = subst (λ (xs : List Entry). Contains xs c.hub-item.result) c.row-hub-items.ensures (c.loop-hub.hub-index, c.loop-hub-test.true, sym c.hub-item.is)

-- what the row holds so far, and this entry
so_far : (c : After-start_of) → take (c.loop-hub.hub-index + 1) c.row-hub-items.result.now ≡ take c.loop-hub.hub-index c.row-hub-items.result.now ++ c.hub-item.result ∷ []
so_far c = take_more c.row-hub-items.result.now c.loop-hub.hub-index c.hub-item.result c.loop-hub-test.true ∙ ap (λ x. take c.loop-hub.hub-index c.row-hub-items.result.now ++ x ∷ []) (sym c.hub-item.is)

-- a start over the arc, from an entry of the row, to a node that the hub doesn't rank below
IsHubStart-over : (c : After-start_of) → (s : Start) → s ≡ record { hub = c.hub-item.result.pos; node = c.args.to; dist = c.hub-item.result.dist + c.args.w } → s.hub ≤ position_of c.args.ranking.now c.args.to → s.dist < 2 ^ 94 → IsHubStart (Joined c.args.graph.now.edges) c.args.ranking.now s
IsHubStart-over c s is ranked near =
    let J = Joined c.args.graph.now.edges in
    let at = c.args.ranking.now in
    let hub = c.hub-item.result in
    let nodes = arc_to_node c.args.graph.now.n c.args.graph.now.edges at c.n-n.ensures.graph c.requires.nodes c.args.from c.args.to c.args.w c.requires.arc in
    let fits = All-contains (EntryFits J at c.args.from) (label_row c.args.rows.now c.args.from) hub (c.requires.walks.fit c.args.from nodes.0.from_one nodes.0.up_to_n) (there c) in
    let hub_is : s.hub ≡ hub.pos = ap (λ (t : Start). t.hub) is in
    let node_is : s.node ≡ c.args.to = ap (λ (t : Start). t.node) is in
    let dist_is : s.dist ≡ hub.dist + c.args.w = ap (λ (t : Start). t.dist) is in
    record {
      within = subst (λ p. p < length at) (sym hub_is) (slice_get_within at hub.pos fits.walk.0 fits.walk.1);
      may = record {
        hub = refl;
        fits = record {
          ranked = subst (λ v. s.hub ≤ position_of at v) (sym node_is) ranked;
          walk = (fits.walk.0, subst (λ p. slice_get at p ≡ Some fits.walk.0) (sym hub_is) fits.walk.1, subst (λ v. HasWalk J fits.walk.0 v s.dist) (sym node_is) (subst (HasWalk J fits.walk.0 c.args.to) (sym dist_is) (HasWalk-after J fits.walk.0 c.args.from c.args.to c.args.w hub.dist fits.walk.2 c.requires.arc)));
        };
        near = near;
      };
    }

pub loop-hub-preserved : goal.loop-hub-preserved
loop-hub-preserved c =
    let up = (goal.at.loop-hub-preserved c).After-start_of in
    let J = Joined c.args.graph.now.edges in
    let at = c.args.ranking.now in
    let rows = c.args.rows.now in
    let some = take c.loop-hub.hub-index c.row-hub-items.result.now in
    let hub = c.hub-item.result in
    let before = c.loop-hub.starts.items in
    let after = c.match-start_of.starts.items in
    let inv = c.loop-hub.invariant in
    let goes_on : ((s : Start) → Contains before s → Contains after s) → GoesOn after J at rows c.args.from c.args.to c.args.w hub.pos hub.dist → (p d : ℕ) → Contains (take (c.loop-hub.hub-index + 1) c.row-hub-items.result.now) (record { pos = p; dist = d }) → GoesOn after J at rows c.args.from c.args.to c.args.w p d = λ kept last.
    subst (λ (xs : List Entry). (p d : ℕ) → Contains xs (record { pos = p; dist = d }) → GoesOn after J at rows c.args.from c.args.to c.args.w p d) (sym (so_far up))
    (GoesOn-push J at rows c.args.from c.args.to c.args.w some hub before after kept inv.goes last) in
    elim c.match-start_of.branch [
      | in-Some+in_ok-push w ↦
          let start = w.in-Some.start in
          let now : after ≡ before ++ start ∷ [] = ap (λ v. v.items) w.starts-is ∙ w.in_ok-push.ensures.items in
          let kept : (s : Start) → Contains before s → Contains after s = λ s old. subst (λ (xs : List Start). Contains xs s) (sym now) (Contains-append_left before (start ∷ []) s old) in
          record {
            kept = λ s old. kept s (inv.kept s old);
            may = subst (All (IsHubStart J at)) (sym now) (All-push (IsHubStart J at) before start inv.may (IsHubStart-over up start w.in-Some.ensures.some w.in-Some.ensures.ranked w.in-Some.ensures.near));
            goes = goes_on kept (inl (subst (λ (xs : List Start). Contains xs (record { hub = hub.pos; node = c.args.to; dist = hub.dist + c.args.w })) (sym now) (subst (Contains (before ++ start ∷ [])) w.in-Some.ensures.some (Contains-push before start))));
          }
      | in_default w ↦
          let now : after ≡ before = ap (λ v. v.items) w.starts-is in
          let kept : (s : Start) → Contains before s → Contains after s = λ s old. subst (λ (xs : List Start). Contains xs s) (sym now) old in
          record {
            kept = λ s old. kept s (inv.kept s old);
            may = subst (All (IsHubStart J at)) (sym now) inv.may;
            goes = goes_on kept (inr (λ h root _ next. absurd (w.in_default.ensures.none h root next)));
          }
    ]

pub returns-clause-open : goal.returns-clause-open
returns-clause-open c = λ p d here.
    c.loop-hub.invariant.goes p d (subst (λ (xs : List Entry). Contains xs (record { pos = p; dist = d })) (sym (take_all c.loop-hub.hub-index c.row-hub-items.result.now c.loop-hub-test.false ∙ c.row-hub-items.ensures)) here)
