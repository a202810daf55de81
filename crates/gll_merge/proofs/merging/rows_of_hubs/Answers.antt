use Rattle.std.proofs.Common.{List, sym, subst}
use Rattle.std.proofs.lemmas.List.{append-nil}
use Rattle.label_clean.specs.declared.hub_rows.HubEntry.{HubEntry}
use Rattle.label_clean.specs.HubRows.{AreGathered, RowsFrom}
use Rattle.gll_merge.proofs.merging.rows_of_hubs.Goals as goal

pub returns : goal.returns
returns g c = (
  c.in_ok-hubs.hubs.items,
  c.in_ok-hubs.ensures,
  subst (λ (rows : RowsFrom). AreGathered c.args.first c.args.next c.in_ok-hubs.hubs.items rows) (sym c.in_ok-rows.ensures.ok)
      (subst (λ (hs : List HubEntry). AreGathered c.args.first c.args.next hs c.gather.new.self) (append-nil c.in_ok-hubs.hubs.items) c.in_ok-gather.ensures),
)
