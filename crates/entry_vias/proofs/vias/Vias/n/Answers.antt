use Rattle.std.proofs.Common.{length, ap, arith}
use Rattle.entry_vias.proofs.Lists.{length-lists}
use Rattle.entry_vias.proofs.vias.Vias.n.Goals as goal

pub returns : goal.returns
returns c =
    let flat = c.self.inside.flat.items in
    let starts = c.self.inside.starts in
    omega (arith, length-lists flat starts.items (length flat) c.self.invariant.0, ap length c.self.view_is, starts.ok.0, c.len.ensures)
