use Rattle.std.proofs.Common.{◌≡◌, ℕ, ◌+◌, ◌≤◌, ◌<◌, List, nat_lt, ◌++◌, [], ◌∷◌, All, length, ap, sym, subst, ◌∙◌, arith}
use Rattle.std.specs.Prelude.{if◌then◌else◌}
use Rattle.std.proofs.lemmas.List.{with_items_is}
use Rattle.std.proofs.lemmas.List.Elements.{All-push, All-weaker}
use Rattle.walk_laws.specs.Joined.{Joined}
use Rattle.walk_laws.specs.Labelling.{IsPartChl, label_row}
use Rattle.hub_index.specs.NodeEntries.{IsGatheredRow}
use Rattle.entry_sinks.specs.Sunk.{sunk_at, all_sunk, HoldsPart}
use Rattle.plant_build.specs.Marks.{HasCome, IsMissing}
use Rattle.plant_build.proofs.HeldParts.{IsPartChl-whole, both_ok}
use Rattle.plant_build.specs.Balance.{times}
use Rattle.plant_build.specs.Rounds.{Share, put_by, IsOneRound}
use Rattle.plant_build.specs.Workers.{TookItsBatches, HasWorked, shares_of}
use Rattle.plant_build.proofs.build.plant_roots.Goals as goal
use Rattle.plant_build.proofs.build.plant_roots.Goals.{In_ok-come}

pub collect-requires-clause-round : goal.collect-requires-clause-round
collect-requires-clause-round g c =
    let kept = with_items_is c.in_ok-crew.crew.members c.work.new.crew (omega arith) in
    subst IsOneRound (sym (ap shares_of kept ∙ c.work.ensures.shares ∙ ap shares_of c.deref_mut.ensures.value)) c.in_ok-crew.ensures.round

pub collect-requires-clause-dealt : goal.collect-requires-clause-dealt
collect-requires-clause-dealt g c x =
    let kept = with_items_is c.in_ok-crew.crew.members c.work.new.crew (omega arith) in
    subst (λ (shares : List Share). put_by x shares + times x c.in_ok-crew.crew.left.items ≡ (if nat_lt x c.batches_for-batches.result then 1 else 0))
    (sym (ap shares_of kept ∙ c.work.ensures.shares ∙ ap shares_of c.deref_mut.ensures.value)) (c.in_ok-crew.ensures.dealt x)

pub collect-requires-clause-took : goal.collect-requires-clause-took
collect-requires-clause-took g c =
    let batches = c.batches_for-batches.result in
    let worked = HasWorked c.args.job.now.graph.now.edges c.args.job.now.ranking.now c.args.eta batches c.args.job.now.graph.now.n in
    subst (All (TookItsBatches batches)) (sym (with_items_is c.in_ok-crew.crew.members c.work.new.crew (omega arith))) (All-weaker worked (TookItsBatches batches) (λ w h. h.took) c.work.new.crew c.work.ensures.worked)

-- what was taken in of the workers
come_of : (g : _) (c : In_ok-come g) → HasCome c.args.job.now.graph.now.edges c.args.job.now.ranking.now c.args.eta c.args.job.now.graph.now.n c.in_ok-come.come.items c.in_ok-come.sinks.items
come_of g c =
    let edges = c.args.job.now.graph.now.edges in
    let at = c.args.job.now.ranking.now in
    let n = c.args.job.now.graph.now.n in
    let kept = with_items_is c.in_ok-crew.crew.members c.work.new.crew (omega arith) in
    c.in_ok-come.ensures.come edges at c.args.eta n (subst (λ crew. All (HasWorked edges at c.args.eta c.batches_for-batches.result n) crew) (sym kept) c.work.ensures.worked)

pub gather-requires-after_bounds : goal.gather-requires-after_bounds
gather-requires-after_bounds g c κs within =
    let come = come_of g (goal.at.gather-requires-after_bounds g c).In_ok-come in
    rw c.in_ok-push.ensures.items
    (All-push (λ s. s.n ≡ c.n-n.result) c.in_ok-come.sinks.items c.in_ok-missing.missing (λ k d lt. come.sizes k d lt ∙ sym c.n-n.ensures.value) (c.in_ok-missing.ensures.sink ∙ sym c.n-n.ensures.value))

pub returns : goal.returns
returns g c =
    let edges = c.args.job.now.graph.now.edges in
    let at = c.args.job.now.ranking.now in
    let n = c.args.job.now.graph.now.n in
    let own = c.in_ok-missing.missing in
    let come = come_of g (goal.at.returns g c).In_ok-come in
    let missing : HoldsPart edges at (IsMissing c.args.eta c.in_ok-come.come.items) (sunk_at own) = subst (λ marks. HoldsPart edges at (IsMissing c.args.eta marks) (sunk_at own)) c.deref.ensures.value c.in_ok-missing.ensures.missing in
    let sinks_are : c.push.new.self.items ≡ c.in_ok-come.sinks.items ++ own ∷ [] = c.in_ok-push.ensures.items in
    record {
      labelling = both_ok c.gather.result (λ rows. length rows ≡ c.n-n.result) (λ rows. (v : ℕ) → 1 ≤ v → v ≤ c.n-n.result → IsGatheredRow (all_sunk c.push.new.self.items v) (label_row rows v)) (IsPartChl (Joined edges) at (λ p. p < c.args.eta))
          (λ rows size each. IsPartChl-whole edges at c.args.eta n c.in_ok-come.come.items c.in_ok-come.sinks.items own rows (sym c.args.job.now.nodes) come c.in_ok-missing.ensures.sink missing (size ∙ c.n-n.ensures.value)
          (λ v low high. subst (λ sinks. IsGatheredRow (all_sunk sinks v) (label_row rows v)) sinks_are (each v low (omega (arith, high, c.n-n.ensures.value))))) c.gather.ensures.size c.gather.ensures.rows;
    }
