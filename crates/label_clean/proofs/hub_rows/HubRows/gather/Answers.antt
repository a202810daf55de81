use Rattle.std.proofs.Common.{◌-◌, ◌≤◌, length, arith}
use Rattle.label_clean.specs.HubRows.{all_hub_entries}
use Rattle.label_clean.proofs.GatheredHubs.{AreGathered-sorted}
use Rattle.label_clean.proofs.hub_rows.HubRows.gather.Goals as goal

pub returns : goal.returns
returns c =
    let ok = c.gather_rows.new.rows.ok in
    let enough : c.args.next - c.args.first ≤ length c.gather_rows.new.rows.items = omega (arith, c.in_ok-gather_rows.ensures.enough) in
    AreGathered-sorted c.args.first c.args.next (all_hub_entries c.args.lists.now) c.gather_rows.new.rows.items enough c.in_ok-gather_rows.ensures.rows
