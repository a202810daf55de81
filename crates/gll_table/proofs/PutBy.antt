-- What trees put at a node, in any order.
use Rattle.std.proofs.Common.{◌≡◌, true, ℕ, List, [], ◌++◌, refl, sym, subst}
use Rattle.walk_laws.specs.declared.graph.Edge.{Edge}
use Rattle.walk_laws.specs.declared.entry.Entry.{Entry}
use Rattle.pruned_tree.specs.GrownBy.{IsGrownBy}
use Rattle.pruned_tree.proofs.GrownPuts.{AreApart, IsGrownBy-then, IsGrownBy-after}
use Rattle.gll_table.specs.Outputs.{IsPutBy}

module _ (edges : List Edge) (at : List ℕ) where
  pub IsPutBy-from_grown : (roots : List ℕ) (whole : Type 0) (v : ℕ) (entries : List Entry) → whole → IsGrownBy edges at roots whole v [] entries → IsPutBy edges at roots v entries
  IsPutBy-from_grown roots whole v entries w g = subst (IsPutBy edges at roots v) (sym g.joined) (record { fit = g.fit; once = g.once; of_roots = g.of_roots; hubs = g.hubs w })

  IsGrownBy-from_put : (roots : List ℕ) (v : ℕ) (entries : List Entry) → IsPutBy edges at roots v entries → IsGrownBy edges at roots (true ≡ true) v [] entries
  IsGrownBy-from_put roots v entries p = record { puts = entries; joined = refl; fit = p.fit; once = p.once; of_roots = p.of_roots; hubs = λ _. p.hubs }

  -- by trees of some roots, and of others
  pub IsPutBy-both : (first second : List ℕ) (v : ℕ) (xs ys : List Entry) → IsPutBy edges at first v xs → IsPutBy edges at second v ys → AreApart first second → IsPutBy edges at (first ++ second) v (xs ++ ys)
  IsPutBy-both first second v xs ys a b apart =
      IsPutBy-from_grown (first ++ second) (true ≡ true) v (xs ++ ys) refl
      (IsGrownBy-then edges at first second (true ≡ true) (true ≡ true) (true ≡ true) v [] xs (xs ++ ys) (IsGrownBy-from_put first v xs a) (IsGrownBy-after edges at second (true ≡ true) v xs ys (IsGrownBy-from_put second v ys b)) apart (λ t. (t, t)))
