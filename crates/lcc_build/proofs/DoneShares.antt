-- A new share with which trees were grown.
use Rattle.std.proofs.Common.{◌≡◌, ℕ, true, List, [], ◌++◌, sym, ap, subst, ◌∙◌}
use Rattle.std.specs.Prelude.{IsOk, OnOk}
use Rattle.walk_laws.specs.declared.graph.Edge.{Edge}
use Rattle.label_rows.specs.Visits.{puts_of}
use Rattle.lcc_build.specs.declared.share.Share.{Share}
use Rattle.pruned_tree.specs.GrownBy.{IsGrownBy, HasGrown}
use Rattle.lcc_build.specs.Shares.{IsNew, IsDone}

pub IsDone-from_new : (edges : List Edge) (at : List ℕ) (before after : Share) → IsNew before → OnOk after.memory (after.claims.over ≡ true) → HasGrown edges at (IsOk after.memory) before.claims.got after.claims.got (puts_of before.rows.visits) (puts_of after.rows.visits) → IsDone edges at after
IsDone-from_new edges at before after new over grown = record {
  over = over;
  grown = λ v node.
      let roots : grown.0 ≡ after.claims.got = sym (grown.1 ∙ ap (λ got. got ++ grown.0) new.got) in
      subst (λ got. IsGrownBy edges at got (IsOk after.memory) v [] (puts_of after.rows.visits v)) roots
      (subst (λ visits. IsGrownBy edges at grown.0 (IsOk after.memory) v (puts_of visits v) (puts_of after.rows.visits v)) new.visits (grown.2 v node));
}
