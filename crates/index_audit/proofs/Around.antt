-- What the arcs of a node tell of an entry, as they are gone along.
use Rattle.std.proofs.Common.{◌≡◌, ◌≢◌, ◌↔◌, ◌⊎◌, ℕ, ◌+◌, ◌<◌, ◌≤◌, true, List, Option, Some, None, All, Contains, length, map, get_or, take, is_some, refl, inl, inr, arith}
use Rattle.std.specs.Prelude.{MatchOption}
use Rattle.std.specs.Option.{option_or}
use Rattle.std.specs.List.Sorted.{IsNonDecreasing}
use Rattle.std.proofs.lemmas.List.{length-take}
use Rattle.std.proofs.lemmas.List.Elements.{All-contains, Contains-get_or}
use Rattle.walk_laws.specs.declared.graph.Arc.{Arc}
use Rattle.walk_laws.specs.declared.entry.Entry.{Entry}
use Rattle.walk_laws.specs.Labelling.{label_row}
use Rattle.walk_laws.proofs.LabelRows.{Rises}
use Rattle.hub_index.proofs.CoveredEntries.{All-one_more, All-whole}
use Rattle.hub_query.proofs.ArcsInOrder.{no_arc, no_lesser}
use Rattle.hub_query.proofs.Sums.{pos_of}
use Rattle.entry_vias.specs.RowVias.{IsNearer, IsFirstNearer}
use Rattle.index_audit.specs.Checks.{IsWalked, IsCovered, IsFirstUncovered}
use Rattle.index_audit.specs.Neighbours.{IsNearerBy, IsCoveredBy, IsToldBy}
use Rattle.index_audit.specs.declared.neighbours.Told.TheVariants.{Nearer, Covered, Uncovered}
use Rattle.index_audit.proofs.OneEntry.{one_distance}

-- a row that has the hub at a distance from which the arc doesn't lead on has it no nearer by the arc
pub not_nearer : (rows : List (List Entry)) (e : Entry) (a : Arc) (far : ℕ) → Rises pos_of (label_row rows a.to) → Contains (label_row rows a.to) (record { pos = e.pos; dist = far }) → far + a.w ≢ e.dist → IsNearerBy rows e a → ⊥
not_nearer rows e a far up there other n = other (omega (arith, one_distance (label_row rows a.to) e.pos far n.0 up there n.1, n.2))

module _ (J : ℕ → ℕ → ℕ → Type 0) (rows : List (List Entry)) (v : ℕ) (arcs : List Arc) (h : ℕ) (e : Entry) where
  -- no step by the arc leads nearer to the hub
  abbrev IsNoStep : Arc → Type 0
  IsNoStep a = IsNearerBy rows e a → ⊥

  abbrev IsCoveredThere : Arc → Type 0
  IsCoveredThere = IsCoveredBy rows h e

  -- the first neighbour that is nearer to the hub, by the first k arcs
  abbrev HasNearer : ℕ → Option ℕ → Type 0
  HasNearer k nearer = MatchOption nearer (All IsNoStep (take k arcs)) (λ y. IsFirstNearer J rows v e y)

  -- the first at which the entry isn't covered
  abbrev HasUncovered : ℕ → Option ℕ → Type 0
  HasUncovered k uncovered = MatchOption uncovered (All IsCoveredThere (take k arcs)) (λ to. IsFirstUncovered J rows v h e to)

  -- what the first k arcs tell
  pub record HaveTold (k : ℕ) (nearer uncovered : Option ℕ) : Type 0 where
    pub step : HasNearer k nearer
    pub cover : HasUncovered k uncovered

  pub none_told : HaveTold 0 None None
  none_told = record {
    step = λ i d lt. absurd (omega (arith, length-take 0 arcs, lt));
    cover = λ i d lt. absurd (omega (arith, length-take 0 arcs, lt));
  }

  module _ (joined : (t w : ℕ) → Contains arcs (record { to = t; w = w }) ↔ J v t w) (rising : IsNonDecreasing (map (λ a. a.to) arcs)) where
    no_nearer : All IsNoStep arcs → (z : ℕ) → IsNearer J rows v e z → ⊥
    no_nearer none z s = All-contains IsNoStep arcs (record { to = z; w = s.weight }) none ((joined z s.weight).1 s.arc) (s.dist, s.there, s.long)

    covered_by_all : All IsCoveredThere arcs → IsCovered J rows v h e
    covered_by_all all y w arc = All-contains IsCoveredThere arcs (record { to = y; w = w }) all ((joined y w).1 arc)

    module _ (k : ℕ) (within : k < length arcs) where
      abbrev arc : Arc
      arc = get_or arcs k no_arc

      -- where a step by this arc is the first that leads nearer, no lesser neighbour is nearer
      nearer_here : All IsNoStep (take k arcs) → IsNearerBy rows e arc → IsFirstNearer J rows v e arc.to
      nearer_here before n = record {
        nearer = record { weight = arc.w; dist = n.0; arc = (joined arc.to arc.w).0 (Contains-get_or arcs k no_arc within); there = n.1; long = n.2 };
        least = λ z s. no_lesser arcs rising k within (IsNearerBy rows e) before (record { to = z; w = s.weight }) ((joined z s.weight).1 s.arc) (s.dist, s.there, s.long);
      }

      now_nearer : (nearer : Option ℕ) → HasNearer k nearer → IsNearerBy rows e arc → HasNearer (k + 1) (option_or nearer (Some arc.to))
      now_nearer None before n = nearer_here before n
      now_nearer (Some y) before n = before

      still_none : (nearer : Option ℕ) → HasNearer k nearer → IsNoStep arc → HasNearer (k + 1) nearer
      still_none None before none = All-one_more IsNoStep arcs k no_arc within before none
      still_none (Some y) before none = before

      still_covered : (uncovered : Option ℕ) → HasUncovered k uncovered → IsCoveredThere arc → HasUncovered (k + 1) uncovered
      still_covered None before here = All-one_more IsCoveredThere arcs k no_arc within before here
      still_covered (Some to) before here = before

      -- where the entry isn't covered at the end of this arc alone, it is the least such neighbour
      first_here : All IsCoveredThere (take k arcs) → (IsCoveredThere arc → ⊥) → IsFirstUncovered J rows v h e arc.to
      first_here before none = record {
        here = record { weight = arc.w; arc = (joined arc.to arc.w).0 (Contains-get_or arcs k no_arc within); none = none };
        least = λ z u. no_lesser arcs rising k within (λ a. IsCoveredThere a → ⊥) (λ i d lt uncovered. uncovered (before i d lt)) (record { to = z; w = u.weight }) ((joined z u.weight).1 u.arc) u.none;
      }

      now_uncovered : (uncovered : Option ℕ) → HasUncovered k uncovered → (IsCoveredThere arc → ⊥) → HasUncovered (k + 1) (option_or uncovered (Some arc.to))
      now_uncovered None before none = first_here before none
      now_uncovered (Some to) before none = before

      module _ (nearer uncovered : Option ℕ) (was : HaveTold k nearer uncovered) where
        pub told_nearer : IsToldBy rows h e arc Nearer → HaveTold (k + 1) (option_or nearer (Some arc.to)) uncovered
        told_nearer told = record { step = now_nearer nearer was.step told.0; cover = still_covered uncovered was.cover told.1 }

        pub told_covered : IsToldBy rows h e arc Covered → HaveTold (k + 1) nearer uncovered
        told_covered told = record { step = still_none nearer was.step told.0; cover = still_covered uncovered was.cover told.1 }

        pub told_uncovered : IsToldBy rows h e arc Uncovered → HaveTold (k + 1) nearer (option_or uncovered (Some arc.to))
        told_uncovered told = record { step = still_none nearer was.step told.0; cover = now_uncovered uncovered was.cover told.1 }

    module _ (k : ℕ) (all : length arcs ≤ k) where
      nearer_at_end : (nearer : Option ℕ) → HasNearer k nearer → MatchOption nearer ((z : ℕ) → IsNearer J rows v e z → ⊥) (λ y. IsFirstNearer J rows v e y)
      nearer_at_end None before = no_nearer (All-whole IsNoStep arcs k all before)
      nearer_at_end (Some y) before = before

      covered_at_end : (uncovered : Option ℕ) → HasUncovered k uncovered → MatchOption uncovered (IsCovered J rows v h e) (λ to. IsFirstUncovered J rows v h e to)
      covered_at_end None before = covered_by_all (All-whole IsCoveredThere arcs k all before)
      covered_at_end (Some to) before = before

      pub told_step : (nearer uncovered : Option ℕ) → HaveTold k nearer uncovered → MatchOption nearer ((z : ℕ) → IsNearer J rows v e z → ⊥) (λ y. IsFirstNearer J rows v e y)
      told_step nearer uncovered was = nearer_at_end nearer was.step

      pub told_cover : (nearer uncovered : Option ℕ) → HaveTold k nearer uncovered → MatchOption uncovered (IsCovered J rows v h e) (λ to. IsFirstUncovered J rows v h e to)
      told_cover nearer uncovered was = covered_at_end uncovered was.cover

  -- whether a walk leads to the hub, once it is known which neighbour is nearer
  pub walked_by : (nearer : Option ℕ) → MatchOption nearer ((z : ℕ) → IsNearer J rows v e z → ⊥) (λ y. IsFirstNearer J rows v e y) → ((h ≡ v) ⊎ (is_some nearer ≡ true)) ↔ IsWalked J rows v h e
  walked_by None none = (
    λ is. elim is [ inl same ↦ inl same | inr some ↦ absurd cc ],
    λ walked. elim walked [ inl same ↦ inl same | inr step ↦ absurd (none step.0 step.1) ],
  )
  walked_by (Some y) first = (λ _. inr (y, first.nearer), λ _. inr refl)
