use Rattle.std.proofs.Common.{◌≡◌, ◌+◌, ◌^◌, ◌<◌, ◌≤◌, List, All, length, map, sym, ap, subst, ◌∙◌}
use Rattle.std.proofs.lemmas.List.{map-id}
use Rattle.std.specs.Prelude.{OnOk}
use Rattle.walk_laws.specs.ArcRows.{arcs_in}
use Rattle.walk_laws.specs.declared.graph.Arc.{Arc}
use Rattle.plant_tree.specs.Relaxed.{relaxed_all}
use Rattle.plant_tree.proofs.planter.relax_row.Goals as goal
use Rattle.plant_tree.proofs.planter.relax_row.Goals.{In-Wide}

-- arcs of 16 bytes are in full room
wide : (c : In-Wide) → arcs_in c.args.row ≡ map (λ (a : Arc). a) c.in-Wide.arcs.now
wide c = ap arcs_in c.in-Wide.is ∙ sym (map-id c.in-Wide.arcs.now)

pub relax-requires-in-Wide-clause-ends : goal.relax-requires-in-Wide-clause-ends
relax-requires-in-Wide-clause-ends c =
    subst (λ (row : List Arc). All (λ a. (1 ≤ a.to) × (a.to ≤ length c.args.ranking.now)) row) (wide (goal.at.relax-requires-in-Wide-clause-ends c).In-Wide) c.requires.ends

pub relax-requires-in-Wide-clause-fits : goal.relax-requires-in-Wide-clause-fits
relax-requires-in-Wide-clause-fits c =
    subst (λ (row : List Arc). All (λ a. c.args.found.dist + a.w < 2 ^ 96) row) (wide (goal.at.relax-requires-in-Wide-clause-fits c).In-Wide) c.requires.fits

pub returns-in-Wide-clause-relaxed : goal.returns-in-Wide-clause-relaxed
returns-in-Wide-clause-relaxed c =
    subst (λ row. OnOk c.relax-in-Wide.result (c.relax-in-Wide.new.frontier ≡ relaxed_all c.args.ranking.now c.args.found row c.args.frontier.now)) (sym (wide (goal.at.returns-in-Wide-clause-relaxed c).In-Wide)) c.relax-in-Wide.ensures.relaxed
