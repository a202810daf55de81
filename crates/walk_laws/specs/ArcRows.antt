-- The arcs of a node as a search reads them.
use Rattle.std.specs.Prelude.{◌≡◌, ◌⊎◌, ℕ, List, [], map}
use Rattle.walk_laws.specs.declared.graph.Arc.{Arc}
use Rattle.walk_laws.specs.declared.arc_row.NarrowArc.{NarrowArc}
use Rattle.walk_laws.specs.declared.arc_row.ArcRow.{ArcRow}
use Rattle.walk_laws.specs.declared.arc_row.ArcRow.TheVariants.{Narrow, Wide}

-- an arc in full room
abbrev pub widened : NarrowArc → Arc
widened a = record { to = a.to; w = a.w }

-- there are none of these, or they are the arcs in half the room, and those of each node begin at the same starts
abbrev pub AreNarrowed : List NarrowArc → List ℕ → List Arc → List ℕ → Type 0
AreNarrowed narrow narrow_starts arcs starts = (narrow_starts ≡ []) ⊎ ((map (λ a. widened a) narrow ≡ arcs) × (narrow_starts ≡ starts))

-- the arcs of a row, in full room
abbrev pub arcs_in : ArcRow → List Arc
arcs_in (Narrow arcs) = map (λ a. widened a) arcs.now
arcs_in (Wide arcs) = arcs.now
