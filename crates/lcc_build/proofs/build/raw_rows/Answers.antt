use Rattle.std.proofs.Common.{◌≡◌, ℕ, true, All, length, sym, ap, subst, ◌∙◌}
use Rattle.std.specs.Prelude.{IsOk, is_ok, IfOk}
use Rattle.std.specs.List.Sorted.{IsPermutation}
use Rattle.walk_laws.specs.Joined.{Joined}
use Rattle.walk_laws.specs.Labelling.{EntryFits, label_row}
use Rattle.hub_index.specs.Views.{IsNode}
use Rattle.table_seats.specs.Numbers.{numbers}
use Rattle.label_rows.specs.Visits.{puts_of}
use Rattle.label_clean.proofs.Cleaned.{both_ok}
use Rattle.pruned_tree.proofs.GrownPuts.{when_ok}
use Rattle.lcc_build.proofs.SharedRows.{HoldsBelow-shared}
use Rattle.lcc_build.proofs.build.raw_rows.Goals as goal

pub returns-clause-held : goal.returns-clause-held
returns-clause-held g c =
    let edges = c.args.job.now.graph.now.edges in
    let at = c.args.job.now.ranking.now in
    let share = c.in_ok-whole.whole in
    let ok : IsOk share.memory = ap is_ok c.in_ok-whole-2.was in
    let over : share.claims.over ≡ true = when_ok share.memory (share.claims.over ≡ true) ok c.in_ok-whole.ensures.done.over in
    let first : share.claims.claims.first ≡ 0 = ap (λ d. d.first) c.in_ok-whole.ensures.share.claim_seat ∙ c.in_ok-claims.ensures.claims.0 in
    let last : c.close.result ≡ length at = c.close.ensures.over over ∙ c.in_ok-claims.ensures.claims.1 ∙ c.n-n.ensures.value ∙ sym c.args.job.now.nodes in
    let got : IsPermutation share.claims.got (numbers 0 (length at)) = subst (λ n. IsPermutation share.claims.got (numbers 0 n)) last (subst (λ p. IsPermutation share.claims.got (numbers p c.close.result)) first c.close.ensures.drawn) in
    both_ok c.close-2.result _ _ _
    (subst (λ order. IfOk c.close-2.result (λ rows. (v : ℕ) → IsNode (length order) v → IsPermutation (puts_of share.rows.visits v) (label_row rows v))) c.in_ok-rows.ensures.order c.close-2.ensures.puts)
    (subst (λ es. IfOk c.close-2.result (λ rows. (v : ℕ) → IsNode (length at) v → All (EntryFits (Joined es) at v) (label_row rows v))) c.in_ok-rows.ensures.edges
    (subst (λ order. IfOk c.close-2.result (λ rows. (v : ℕ) → IsNode (length order) v → All (EntryFits (Joined c.in_ok-rows.rows.edges) order v) (label_row rows v))) c.in_ok-rows.ensures.order c.close-2.ensures.fit))
    (λ rows puts fit. HoldsBelow-shared c.args.job.now.graph.now.n edges at c.n-n.ensures.graph c.n-ranked.ensures.ranking share c.in_ok-whole.ensures.done ok got rows puts fit)
