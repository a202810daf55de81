-- Edges that are laid one after another.
use Rattle.std.proofs.Common.{◌≡◌, ◌∙◌, ap, ap₂, sym, refl, ℕ, zero, suc, ◌+◌, List, [], ◌∷◌, ◌++◌, append_assoc, append-nil, subst, arith}
use Rattle.std.specs.Prelude.{flat_map}
use Rattle.std.specs.List.{range_with_len}
use Rattle.std.proofs.lemmas.Grind.{flat_map-append}
use Rattle.walk_laws.specs.declared.graph.Edge.{Edge}
use Rattle.grid_work.specs.Grid.{weighted}
use Rattle.grid_work.specs.Laid.{Lays, number_after}
use Rattle.grid_work.specs.Weights.{next_number, weight_of}
use Rattle.grid_work.specs.declared.grid.Laid.{Laid}

weighted-append : (x : ℕ) (ends others : List (ℕ × ℕ)) → weighted x (ends ++ others) ≡ weighted x ends ++ weighted (number_after x ends) others
weighted-append x [] others = refl
weighted-append x (e ∷ ends) others =
    ap (λ (l : List Edge). record { u = e.0; v = e.1; w = weight_of (next_number x) } ∷ l) (weighted-append (next_number x) ends others)

after-append : (x : ℕ) (ends others : List (ℕ × ℕ)) → number_after x (ends ++ others) ≡ number_after (number_after x ends) others
after-append x [] others = refl
after-append x (e ∷ ends) others = after-append (next_number x) ends others

-- no edge
pub lays_none : (a : Laid) → Lays a a []
lays_none a = record { edges = sym (append-nil a.edges.items); number = refl }

-- edges, and then others
pub lays_both : (a b c : Laid) (ends others : List (ℕ × ℕ)) → Lays a b ends → Lays b c others → Lays a c (ends ++ others)
lays_both a b c ends others first second = record {
  edges =
      second.edges
      ∙ ap₂ (λ (l : List Edge) (x : ℕ). l ++ weighted x others) first.edges first.number
      ∙ append_assoc a.edges.items (weighted a.number ends) (weighted (number_after a.number ends) others)
      ∙ ap (λ l. a.edges.items ++ l) (sym (weighted-append a.number ends others));
  number = second.number ∙ ap (λ x. number_after x others) first.number ∙ sym (after-append a.number ends others);
}

last_number : (a n j : ℕ) → a + n ≡ j → range_with_len a (suc n) ≡ range_with_len a n ++ j ∷ []
last_number a zero j is = let same : a ≡ j = omega arith in ap (λ k. k ∷ []) same
last_number a (suc n) j is = ap (λ l. a ∷ l) (last_number (a + 1) n j (omega arith))

-- one more of counted parts
part_more : (f : ℕ → List (ℕ × ℕ)) (k : ℕ) → flat_map f (range_with_len 0 (k + 1)) ≡ flat_map f (range_with_len 0 k) ++ f k
part_more f k =
    let next : k + 1 ≡ suc k = omega arith in
    ap (λ n. flat_map f (range_with_len 0 n)) next ∙ ap (flat_map f) (last_number 0 k k (omega arith))
    ∙ flat_map-append f (range_with_len 0 k) (k ∷ [])
    ∙ ap (λ l. flat_map f (range_with_len 0 k) ++ l) (append-nil (f k))

pub lays_more : (a b c : Laid) (f : ℕ → List (ℕ × ℕ)) (k : ℕ) → Lays a b (flat_map f (range_with_len 0 k)) → Lays b c (f k) → Lays a c (flat_map f (range_with_len 0 (k + 1)))
lays_more a b c f k first second =
    subst (Lays a c) (sym (part_more f k)) (lays_both a b c (flat_map f (range_with_len 0 k)) (f k) first second)
