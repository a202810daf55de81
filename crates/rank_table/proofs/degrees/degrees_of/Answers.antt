use Rattle.std.proofs.Common.{◌≡◌, ◌∙◌, ap, sym, ℕ, ◌+◌, List, [], ◌∷◌, ◌++◌, arith, length, map}
use Rattle.std.specs.List.{range_with_len}
use Rattle.std.proofs.lemmas.List.FromFn.{map-range_with_len_more}
use Rattle.walk_laws.specs.declared.graph.Edge.{Edge}
use Rattle.rank_table.specs.ByDegree.{degree}
use Rattle.rank_table.specs.declared.degrees.DegreeOf.{DegreeOf}
use Rattle.rank_table.proofs.CountedArcs.{length_from_each}
use Rattle.rank_table.proofs.degrees.degrees_of.Goals as goal

abbrev degree_at : List Edge → ℕ → DegreeOf
degree_at edges v = record { node = v; degree = degree edges v }

one_node_more : (edges : List Edge) (k d : ℕ) (before after : List DegreeOf) → before ≡ map (degree_at edges) (range_with_len 1 k) → after ≡ before ++ record { node = k + 1; degree = d } ∷ [] → d ≡ degree edges (k + 1) → after ≡ map (degree_at edges) (range_with_len 1 (k + 1))
one_node_more edges k d before after so_far pushed many =
    pushed
    ∙ ap (λ (xs : List DegreeOf). xs ++ record { node = k + 1; degree = d } ∷ []) so_far
    ∙ ap (λ (x : ℕ). map (degree_at edges) (range_with_len 1 k) ++ record { node = k + 1; degree = x } ∷ []) many
    ∙ sym (map-range_with_len_more (degree_at edges) 1 k (k + 1) (omega arith))

pub loop-k-preserved : goal.loop-k-preserved
loop-k-preserved c =
    one_node_more c.args.graph.now.edges c.loop-k.k (length c.arcs-arcs.result.now) c.loop-k.degrees.items c.push.new.self.items c.loop-k.invariant c.in_ok-push.ensures.items (length_from_each (λ a. a.to) _ _ c.arcs-arcs.ensures.each)
