use Rattle.std.proofs.lemmas.Result.{IfOk-weaker}
use Rattle.std.proofs.lemmas.Slice.Zip.{AllZip-long}
use Rattle.chl_outputs.proofs.commands.near.hits_text.Goals as goal

pub near_lines-requires : goal.near_lines-requires
near_lines-requires g c = (c.type_bounds.sync-R, AllZip-long _ _ _ c.in_ok-hits.ensures.nearest)

pub returns : goal.returns
returns g c = IfOk-weaker c.near_lines.result _ _ (λ text is. (
  c.in_ok-hits.hits,
  rw (c.in_ok-points.ensures.index, c.in_ok-points.ensures.nodes) at c.in_ok-hits.ensures.nearest,
  is,
)) c.near_lines.ensures
