use Rattle.std.proofs.Common.{arith}
use Rattle.std.proofs.lemmas.Result.{IfOk-weaker}
use Rattle.walk_laws.specs.Joined.{Joined}
use Rattle.walk_laws.specs.Labelling.{IsChl}
use Rattle.entry_vias.specs.RowVias.{HaveVias}
use Rattle.entry_vias.specs.ViaRanges.{AreViasFrom}
use Rattle.entry_vias.proofs.OneList.{AreVias-all}
use Rattle.entry_vias.proofs.Labelled.{HaveVias-canonical}
use Rattle.entry_vias.proofs.making.vias_of.Goals as goal

pub returns-clause-labelled : goal.returns-clause-labelled
returns-clause-labelled g c =
    let graph = c.args.graph.now in
    let index = c.args.index.now in
    let well = c.n-2.ensures.well_formed in
    IfOk-weaker c.vias_by.result (AreViasFrom (Joined graph.edges) index.rows 0 c.n-2.result) (λ vias. IsChl (Joined graph.edges) index.order index.rows → HaveVias index.rows vias)
    (λ vias are chl. HaveVias-canonical graph.n graph.edges index.order index.rows vias c.n.ensures.graph well c.requires chl (AreVias-all (Joined graph.edges) index.rows c.n-2.result vias (omega (arith, c.n-2.ensures.value, well.size)) are))
    c.vias_by.ensures
