use Rattle.std.proofs.Common.{◌≡◌, ◌↔◌, ℕ, ◌+◌, ◌-◌, ◌≤◌, inl, inr, List, ◌∷◌, [], ◌++◌, Contains, length, map, take, sym, ap, subst, ◌∙◌, arith}
use Rattle.std.specs.Prelude.{IsTrue}
use Rattle.std.specs.List.Sorted.{IsStrictlyIncreasing}
use Rattle.std.proofs.Math.ListN.{length-set}
use Rattle.std.proofs.lemmas.Bool.{cases_eq}
use Rattle.std.proofs.lemmas.List.{take_all}
use Rattle.walk_laws.specs.declared.graph.Edge.{Edge}
use Rattle.walk_laws.specs.declared.entry.Entry.{Entry}
use Rattle.walk_laws.specs.Labelling.{label_row}
use Rattle.hub_index.specs.declared.node_entry.NodeEntry.{NodeEntry}
use Rattle.hub_index.specs.HubIndex.{with_entry}
use Rattle.hub_index.specs.NodeEntries.{entries_of_node, entry_of}
use Rattle.hub_index.specs.Views.{IsNode}
use Rattle.label_clean.specs.RootRuns.{EndsBelow, HasHubs, JoinsNext}
use Rattle.label_clean.specs.Tested.{IsCovering}
use Rattle.label_clean.proofs.Covering.{pos_of}
use Rattle.label_clean.proofs.TakenRuns.{GoesOnFrom-more, GoesOnFrom-put, here_more, its_hub_row_rises, its_row_ends_below, its_row_grows, its_row_stays, other_same, others_stay}
use Rattle.label_clean.proofs.taking.take_run.Goals as goal
use Rattle.label_clean.proofs.taking.take_run.Goals.{After-is_covered_late}

pub loop-entry-preserved-then-not-ends_below : goal.loop-entry-preserved-then-not-ends_below
loop-entry-preserved-then-not-ends_below c = record {
  size = c.loop-entry.invariant.size;
  stays = c.loop-entry.invariant.stays;
  hubs = λ edges at c' k v before done more k_in next have.
      let run = c.args.run.now in
      let i = c.loop-entry.entry-index in
      let has = c.loop-entry.invariant.hubs edges at c' k v before done more k_in next have in
      elim (cases_eq c.entry-item.result.node k) [
        | inr other ↦ others_stay edges at c.args.first c' c.args.pos v c.args.hub_row.now before done more k run i c.entry-item.result c.entry-item.is c.loop-entry-test.true next (label_row c.loop-entry.rows k) has other
        | inl same ↦
            let ends = its_row_ends_below edges at c.args.first c' c.args.pos v c.args.hub_row.now before done more k run i c.entry-item.result c.entry-item.is c.loop-entry-test.true next (label_row c.loop-entry.rows k) has same in
            let found : IsTrue c.ends_below.result = c.ends_below.ensures.1 (subst (λ u. EndsBelow c.args.pos (label_row c.loop-entry.rows u)) (sym same) ends) in
            absurd cc
      ];
}

-- an entry of a row is found to be covered just where it is
module _ (c : After-is_covered_late) (edges : List Edge) (at : List ℕ) (c' k v : ℕ) (before done more : List Entry) (k_in : IsNode (length c.args.rows.now) k) (next : JoinsNext edges at c.args.first c' c.args.pos v c.args.hub_row.now before done (entries_of_node c.args.run.now k) more) (have : HasHubs edges at v before done (label_row c.args.rows.now k)) where
  has : HasHubs edges at v before (done ++ entries_of_node (take c.loop-entry.entry-index c.args.run.now) k) (label_row c.loop-entry.rows k)
  has = c.loop-entry.invariant.hubs edges at c' k v before done more k_in next have

  test : c.entry-item.result.node ≡ k → IsTrue c.is_covered_late.result ↔ ((e : Entry) × Contains (label_row c.loop-entry.rows k) e × (c.args.first ≤ e.pos) × IsCovering c.args.hub_row.now c.args.pos c.entry-item.result.dist e)
  test same =
      let hub_rises = its_hub_row_rises edges at c.args.first c' c.args.pos v c.args.hub_row.now before done more k c.args.run.now c.loop-entry.entry-index c.entry-item.result c.entry-item.is c.loop-entry-test.true next (label_row c.loop-entry.rows k) has same in
      subst (λ u. IsStrictlyIncreasing (map pos_of (label_row c.loop-entry.rows u)) → IsStrictlyIncreasing (map pos_of c.args.hub_row.now) → IsTrue c.is_covered_late.result ↔ ((e : Entry) × Contains (label_row c.loop-entry.rows u) e × (c.args.first ≤ e.pos) × IsCovering c.args.hub_row.now c.args.pos c.entry-item.result.dist e)) same
      (subst (λ d. IsStrictlyIncreasing (map pos_of (label_row c.loop-entry.rows c.entry-item.result.node)) → IsStrictlyIncreasing (map pos_of c.args.hub_row.now) → IsTrue c.is_covered_late.result ↔ ((e : Entry) × Contains (label_row c.loop-entry.rows c.entry-item.result.node) e × (c.args.first ≤ e.pos) × IsCovering c.args.hub_row.now c.args.pos d e)) c.get.ensures.value c.is_covered_late.ensures) has.rising hub_rises

pub loop-entry-preserved-then-is_covered_late : goal.loop-entry-preserved-then-is_covered_late
loop-entry-preserved-then-is_covered_late c = record {
  size = c.loop-entry.invariant.size;
  stays = c.loop-entry.invariant.stays;
  hubs = λ edges at c' k v before done more k_in next have.
      let a = (goal.at.loop-entry-preserved-then-is_covered_late c).After-is_covered_late in
      let run = c.args.run.now in
      let i = c.loop-entry.entry-index in
      let row = label_row c.loop-entry.rows k in
      let so_far = has a edges at c' k v before done more k_in next have in
      elim (cases_eq c.entry-item.result.node k) [
        | inr other ↦ others_stay edges at c.args.first c' c.args.pos v c.args.hub_row.now before done more k run i c.entry-item.result c.entry-item.is c.loop-entry-test.true next row so_far other
        | inl same ↦
            its_row_stays edges at c.args.first c' c.args.pos v c.args.hub_row.now before done more k run i c.entry-item.result c.entry-item.is c.loop-entry-test.true next row so_far same
            ((test a edges at c' k v before done more k_in next have same).0 c.if-is_covered_late.true)
      ];
}

pub loop-entry-preserved : goal.loop-entry-preserved
loop-entry-preserved c =
    let a = (goal.at.loop-entry-preserved c).After-is_covered_late in
    let run = c.args.run.now in
    let i = c.loop-entry.entry-index in
    let was = c.loop-entry.rows in
    let now = c.push.new.self in
    let x : NodeEntry = c.entry-item.result in
    let x_in : IsNode (length c.loop-entry.rows) x.node = subst (λ n. IsNode n x.node) (sym c.loop-entry.invariant.size) (subst (λ (y : NodeEntry). IsNode (length c.args.rows.now) y.node) (sym c.entry-item.is) (c.requires i x c.loop-entry-test.true)) in
    let put = c.in_ok-push.ensures.ok ∙ ap (with_entry was x.node) c.entry.ensures in
    record {
      size = ap length put ∙ length-set was (x.node - 1) (label_row was x.node ++ entry_of x ∷ []) ∙ c.loop-entry.invariant.size;
      stays = λ k k_in. GoesOnFrom-more (label_row c.args.rows.now k) (label_row was k) (label_row now k) (c.loop-entry.invariant.stays k k_in) (GoesOnFrom-put was now x.node k (entry_of x) x_in k_in.from_one put);
      hubs = λ edges at c' k v before done more k_in next have.
          let row = label_row was k in
          let so_far = has a edges at c' k v before done more k_in next have in
          elim (cases_eq x.node k) [
            | inr other ↦
                subst (HasHubs edges at v before (done ++ entries_of_node (take (i + 1) run) k)) (sym (other_same was now x.node k (entry_of x) x_in.from_one k_in.from_one (λ same. other (sym same)) put))
                (others_stay edges at c.args.first c' c.args.pos v c.args.hub_row.now before done more k run i c.entry-item.result c.entry-item.is c.loop-entry-test.true next row so_far other)
            | inl same ↦
                let grown : label_row c.push.new.self k ≡ label_row c.loop-entry.rows k ++ entry_of x ∷ [] = subst (λ u. label_row c.push.new.self u ≡ label_row c.loop-entry.rows u ++ entry_of x ∷ []) same (here_more was now x.node (entry_of x) x_in put) in
                subst (HasHubs edges at v before (done ++ entries_of_node (take (i + 1) run) k)) (sym grown)
                (its_row_grows edges at c.args.first c' c.args.pos v c.args.hub_row.now before done more k run i c.entry-item.result c.entry-item.is c.loop-entry-test.true next row so_far same
                (λ covered. let found : IsTrue c.is_covered_late.result = (test a edges at c' k v before done more k_in next have same).1 covered in absurd cc))
          ];
    }

pub returns-clause-hubs : goal.returns-clause-hubs
returns-clause-hubs c edges at c' k v before done more k_in next have =
    subst (λ es. HasHubs edges at v before (done ++ entries_of_node es k) (label_row c.loop-entry.rows k)) (take_all c.loop-entry.entry-index c.args.run.now (omega (arith, c.loop-entry-test.false)))
    (c.loop-entry.invariant.hubs edges at c' k v before done more k_in next have)
