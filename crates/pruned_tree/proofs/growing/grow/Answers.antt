use Rattle.std.proofs.Common.{◌≡◌, ℕ, ◌≤◌, List, sym, subst, ◌∙◌}
use Rattle.std.specs.Prelude.{Some, slice_get, Result, Ok, Err, IfOk}
use Rattle.walk_laws.specs.declared.entry.Entry.{Entry}
use Rattle.walk_laws.specs.Canonical.{IsCanonical}
use Rattle.walk_laws.specs.Joined.{Joined}
use Rattle.walk_laws.specs.Labelling.{EntryFits}
use Rattle.hub_index.specs.Views.{IsFound}
use Rattle.hub_index.proofs.FoundRows.{IsFound-weaker}
use Rattle.pruned_tree.specs.Grown.{Gains, HoldsHigher, IsGrown}
use Rattle.pruned_tree.specs.Loaded.{IsRootTable}
use Rattle.pruned_tree.proofs.ApartPuts.{IsShorter-fewer}
use Rattle.pruned_tree.proofs.TreeRounds.{root_node, StillStand, StillStand-found, fits_by}
use Rattle.pruned_tree.proofs.growing.grow.Given as given
use Rattle.pruned_tree.proofs.growing.grow.Goals as goal
use Rattle.pruned_tree.proofs.growing.grow.Goals.{After-load_root}

if_ok_then : {T E : Type 0} (r : Result T E) (P Q : T → Type 0) → ((x : T) → P x → Q x) → IfOk r P → IfOk r Q
if_ok_then (Ok x) P Q then h = then x h
if_ok_then (Err e) P Q then h = tt

-- the row of the root that is found, of this graph and ranking
root_found : (g : given.Over) (c : After-load_root g) → IsFound (EntryFits (Joined c.args.graph.now.edges) c.args.ranking.now c.at.result) (g.R.RowView.seen c.args.view.now c.at.result) (g.R.RowView.seen c.load_root.new.self c.at.result)
root_found g c =
    IsFound-weaker (g.R.RowView.fact c.args.view.now c.at.result) (EntryFits (Joined c.args.graph.now.edges) c.args.ranking.now c.at.result) (g.R.RowView.seen c.args.view.now c.at.result) (g.R.RowView.seen c.load_root.new.self c.at.result)
    (λ e keeps. fits_by _ _ _ _ c.at.result e c.requires.edges c.requires.order ((g.met.R.RowView.fact_fits c.args.view.now c.at.result e).0 keeps)) c.load_root.ensures.found

-- loading the root puts nothing, and what was seen still stands
same_puts : (g : given.Over) (c : After-load_root g) → g.R.RowView.puts c.load_root.new.self ≡ g.R.RowView.puts c.args.view.now
same_puts g c = λ i x. c.load_root.ensures.puts x i

stand : (g : given.Over) (c : After-load_root g) → StillStand (g.R.RowView.seen c.args.view.now) (g.R.RowView.seen c.load_root.new.self)
stand g c =
    StillStand-found (g.R.RowView.seen c.args.view.now) (g.R.RowView.seen c.args.view.now) (g.R.RowView.seen c.load_root.new.self) c.at.result (g.R.RowView.seen c.load_root.new.self c.at.result)
    (λ x e from_one there. there) (root_found g c).still (λ e there. there) c.load_root.ensures.others

pub grow_from-requires-clause-root : goal.grow_from-requires-clause-root
grow_from-requires-clause-root g c = λ h root.
    let up = (goal.at.grow_from-requires-clause-root g c).After-load_root in
    let same : c.at.result ≡ h = let both : Some c.at.result ≡ Some h = sym c.at.ensures.value ∙ root in cc in
    let loaded : IsRootTable (Joined c.args.graph.now.edges) c.args.ranking.now c.at.result (g.R.RowView.seen c.load_root.new.self c.at.result) c.load_root.new.table = record { fit = (root_found g up).met; held = c.load_root.ensures.held } in
    subst (λ x. IsRootTable (Joined c.args.graph.now.edges) c.args.ranking.now x (g.R.RowView.seen c.load_root.new.self x) c.load_root.new.table) same loaded

pub returns-clause-grown : goal.returns-clause-grown
returns-clause-grown g c =
    let up = (goal.at.returns-clause-grown g c).After-load_root in
    let Exact : (ℕ → List Entry) → Type 0 = λ seen. HoldsHigher (Joined c.args.graph.now.edges) c.args.ranking.now c.args.p seen
    → (h v d : ℕ) → slice_get c.args.ranking.now c.args.p ≡ Some h → 1 ≤ v → Gains (g.R.RowView.puts c.args.view.now) (g.R.RowView.puts c.grow_from.new.view) c.args.p v d → IsCanonical (Joined c.args.graph.now.edges) c.args.ranking.now h v d in
    let grown = subst (λ puts. IsGrown c.args.graph.now.edges c.args.ranking.now c.args.p (g.R.RowView.seen c.load_root.new.self) puts (g.R.RowView.puts c.grow_from.new.view) c.grow_from.result) (same_puts g up) c.grow_from.ensures.grown in
    record {
      pruned = grown.pruned;
      count = grown.count;
      complete = grown.complete;
      exact = if_ok_then c.grow_from.result (λ _. Exact (g.R.RowView.seen c.load_root.new.self)) (λ _. Exact (g.R.RowView.seen c.args.view.now))
          (λ _ exact higher. exact (λ v e from_one above hub. stand g up v e from_one (higher v e from_one above hub))) grown.exact;
      apart = λ h v d q s root from_one gained sum above.
          let node = root_node c.args.ranking.now h c.args.p c.n-ranked.ensures.ranking root in
          IsShorter-fewer c.args.p (g.R.RowView.seen c.args.view.now h) (g.R.RowView.seen c.args.view.now v) (g.R.RowView.seen c.load_root.new.self h) (g.R.RowView.seen c.load_root.new.self v) d (λ e there. stand g up h e node.0 there) (λ e there. stand g up v e from_one there)
          (λ r t. grown.apart h v d r t root from_one gained) q s sum above;
    }
