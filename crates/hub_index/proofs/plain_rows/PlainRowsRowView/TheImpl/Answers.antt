-- The calls keep what a view of rows promises.
use Rattle.std.proofs.Common.{refl, ap}
use Rattle.walk_laws.specs.Joined.{Joined}
use Rattle.walk_laws.specs.Labelling.{EntryFits, label_row}
use Rattle.hub_index.specs.PlainRows.{GatheredRows}
use Rattle.hub_index.proofs.FoundRows.{IsFound-onward}
use Rattle.hub_index.proofs.plain_rows.PlainRowsRowView.TheImpl.Goals as goal

pub load_root-tells : goal.load_root-tells
load_root-tells c =
    let old = c.args.self.now in
    let rows = ap (λ (g : GatheredRows). g.rows) c.ensures.same in
    record {
      edges = ap (λ (g : GatheredRows). g.edges) c.ensures.same;
      order = ap (λ (g : GatheredRows). g.order) c.ensures.same;
      kept = refl;
      found = IsFound-onward (EntryFits (Joined old.edges) old.order c.args.h) (label_row old.rows c.args.h) (label_row c.new.self.now.rows c.args.h) c.ensures.found;
      held = c.ensures.held;
      size = c.ensures.size;
      others = λ x from_one other. ap (λ rs. label_row rs x) rows;
      puts = λ x. ap (λ rs. label_row rs x) rows;
    }

pub offer-tells : goal.offer-tells
offer-tells c =
    let old = c.args.self.now in
    record {
      edges = c.ensures.edges;
      order = c.ensures.order;
      kept = refl;
      found = (
        label_row old.rows c.args.v,
        IsFound-onward (EntryFits (Joined old.edges) old.order c.args.v) (label_row old.rows c.args.v) (label_row old.rows c.args.v) c.ensures.found,
        c.ensures.answer,
        c.ensures.row,
      );
      puts = c.ensures.row;
      others_seen = c.ensures.others;
      others_puts = c.ensures.others;
    }
