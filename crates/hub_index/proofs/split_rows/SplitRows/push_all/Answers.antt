use Rattle.std.proofs.Common.{ap, ◌∙◌}
use Rattle.std.proofs.lemmas.List.{get_or_read}
use Rattle.hub_index.specs.HubIndex.{with_entry}
use Rattle.hub_index.proofs.PartedRows.{put_next}
use Rattle.hub_index.proofs.split_rows.SplitRows.push_all.Goals as goal

pub loop-entry-preserved : goal.loop-entry-preserved
loop-entry-preserved c =
    let item = get_or_read c.args.entries.now c.loop-entry.entry-index _ c.loop-entry-test.true c.entry-item.is (record { pos = 0; dist = 0 }) in
    put_next c.args.self.now c.loop-entry.self c.push.new.self c.args.v c.loop-entry.entry-index c.args.entries.now (record { pos = 0; dist = 0 }) c.requires.node c.requires.within c.loop-entry-test.true c.loop-entry.invariant
    (c.in_ok-push.ensures.ok ∙ ap (λ e. with_entry c.loop-entry.self c.args.v e) item)
