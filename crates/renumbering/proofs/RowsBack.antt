-- Lists that are moved one by one from under their new numbers.
use Rattle.std.specs.Prelude.{◌≡◌, ◌≢◌, ℕ, ◌+◌, ◌-◌, ◌<◌, ◌≤◌, List, [], ◌∷◌, ◌++◌, Vec, length, map, set}
use Rattle.std.proofs.Common.{◌∙◌, ap, sym, inl, inr, arith, get_or, Global}
use Rattle.std.proofs.lemmas.Bool.{cases_eq}
use Rattle.std.proofs.lemmas.List.{length-map, map-append, map-set, get_or-map, get_or_append_left, get_or_push, get_or-set_other}
use Rattle.walk_laws.specs.Ranking.{IsRanking, position_of}
use Rattle.renumbering.specs.Renumbered.{number_in, list_of}
use Rattle.renumbering.proofs.NewNumbers.{node_at, node_of_number}

module _ {X : Type 0} where
  abbrev pub items_of : List (Vec X Global) → List (List X)
  items_of lists = map (λ (list : Vec X Global). list.items) lists

  -- one list more
  pub lists_done : (bfs_order : List ℕ) (lists back : List (Vec X Global)) (list : Vec X Global) (k : ℕ) → length back ≡ k → ((v : ℕ) → 1 ≤ v → v < k + 1 → list_of back v ≡ list_of lists (number_in bfs_order v)) → list.items ≡ list_of lists (number_in bfs_order (k + 1)) → (v : ℕ) → 1 ≤ v → v < k + 1 + 1 → list_of (back ++ list ∷ []) v ≡ list_of lists (number_in bfs_order v)
  lists_done bfs_order lists back list k long done is v low high =
      let grown : items_of (back ++ list ∷ []) ≡ items_of back ++ list.items ∷ [] = map-append (λ (l : Vec X Global). l.items) back (list ∷ []) in
      let many = length-map back (λ (l : Vec X Global). l.items) in
      ap (λ ls. get_or ls (v - 1) []) grown
      ∙ elim (cases_eq v (k + 1)) [
        | inl same ↦ get_or_push (items_of back) list.items [] (v - 1) (omega (arith, many, long, same)) ∙ is ∙ ap (λ x. list_of lists (number_in bfs_order x)) (sym same)
        | inr other ↦ get_or_append_left (items_of back) (list.items ∷ []) [] (v - 1) (omega (arith, many, long, other)) ∙ done v low (omega (arith, other))
      ]

  -- the lists that are still to be moved stand where they stood
  pub lists_left : (bfs_order : List ℕ) (lists old : List (Vec X Global)) (none : Vec X Global) (k q : ℕ) → IsRanking bfs_order → q ≡ position_of bfs_order (k + 1) → ((v : ℕ) → k < v → v ≤ length bfs_order → list_of old (number_in bfs_order v) ≡ list_of lists (number_in bfs_order v)) → (v : ℕ) → k + 1 < v → v ≤ length bfs_order → list_of (set old q none) (number_in bfs_order v) ≡ list_of lists (number_in bfs_order v)
  lists_left bfs_order lists old none k q r is left v low high =
      let apart : number_in bfs_order v - 1 ≢ q =
      λ e.
      let one : number_in bfs_order v ≡ number_in bfs_order (k + 1) = omega (arith, e, is) in
      let same : v ≡ k + 1 = sym (node_of_number bfs_order v r (omega arith, high)) ∙ ap (node_at bfs_order) one ∙ node_of_number bfs_order (k + 1) r (omega arith, omega arith) in
      absurd (omega (arith, same)) in
      ap (λ ls. get_or ls (number_in bfs_order v - 1) []) (map-set (λ (l : Vec X Global). l.items) old q none)
      ∙ get_or-set_other (items_of old) q (number_in bfs_order v - 1) none.items [] apart
      ∙ left v (omega arith) high

  -- the list that is moved is the one under the node's new number
  pub list_moved : (bfs_order : List ℕ) (old : List (Vec X Global)) (list d : Vec X Global) (v q : ℕ) → q < length old → q ≡ position_of bfs_order v → list ≡ get_or old q d → list.items ≡ list_of old (number_in bfs_order v)
  list_moved bfs_order old list d v q lt is stands =
      let place : q ≡ number_in bfs_order v - 1 = omega (arith, is) in
      ap (λ (l : Vec X Global). l.items) stands ∙ sym (get_or-map (λ (l : Vec X Global). l.items) old q d [] lt) ∙ ap (λ p. get_or (items_of old) p []) place
