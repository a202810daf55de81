use Rattle.std.proofs.Common.{◌↔◌, arith}
use Rattle.std.specs.Prelude.{IsTrue}
use Rattle.walk_laws.specs.Labelling.{label_row}
use Rattle.label_clean.specs.Tested.{HasCover}
use Rattle.label_clean.proofs.Covering.{IsNeedless-from_cover, HasCover-from_needless}
use Rattle.label_clean.proofs.testing.is_needless.Goals as goal

pub returns : goal.returns
returns c v held =
    let e = c.args.entry in
    let covers : IsTrue c.is_covered.result ↔ HasCover c.args.table.now e.pos e.dist (label_row c.args.tested.now c.at-hub.result) = rw (c.get.ensures.value, c.row.ensures) at c.is_covered.ensures in (
      λ t. IsNeedless-from_cover c.args.ranking.now c.args.tested.now v e c.args.table.now held c.at-hub.result c.at-hub.ensures.value (covers.0 t),
      λ needless. covers.1 (HasCover-from_needless c.args.ranking.now c.args.tested.now v e c.args.table.now held c.at-hub.result c.at-hub.ensures.value (omega (arith, c.requires.position, c.requires.size)) needless),
    )
