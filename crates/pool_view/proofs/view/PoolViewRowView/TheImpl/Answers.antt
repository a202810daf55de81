-- The calls of a pool's view keep what a view of rows promises.
use Rattle.std.proofs.Common.{◌≡◌, inl, inr, sym, ap, subst, ◌∙◌}
use Rattle.hub_index.specs.RootDistances.{HoldsRow}
use Rattle.hub_index.specs.Views.{IsFound, IsAnswerOf, with_put}
use Rattle.pool_view.specs.Fitting.{edges_of, order_of}
use Rattle.pool_view.specs.Viewing.{ViewKept, view_kept, seen_row, puts_row, whole_row, fact_of}
use Rattle.pool_view.proofs.Offered.{visited-kept, visited-puts, visited-else, after-kept, after-puts, after-else}
use Rattle.pool_view.proofs.WholeRows.{global-seen}
use Rattle.pool_view.proofs.view.PoolViewRowView.TheImpl.Goals as goal

pub load_root-tells : goal.load_root-tells
load_root-tells g c =
    let old = c.args.self.now in
    let now = c.new.self.now in
    let visit = c.ensures.visit in
    let kept = visited-kept old now c.args.h visit.0 visit.1 in
    record {
      edges = ap (λ (k : ViewKept). edges_of k.pool.fact) kept;
      order = ap (λ (k : ViewKept). order_of k.pool.fact) kept;
      kept = kept;
      found = subst (IsFound (fact_of old c.args.h) (seen_row old c.args.h)) (sym visit.4) visit.2;
      held = subst (HoldsRow c.new.table.now) (sym visit.4) visit.3;
      size = c.ensures.size;
      others = λ u _ other. visited-else old now c.args.h visit.0 visit.1 u (λ is. other (sym is));
      puts = visited-puts old now c.args.h visit.0 visit.1;
    }

pub offer-tells : goal.offer-tells
offer-tells g c =
    let old = c.args.self.now in
    let now = c.new.self.now in
    elim c.ensures.offered [
      | inl o ↦ record {
        edges = ap (λ w. edges_of w.seat.pool.fact) o.same;
        order = ap (λ w. order_of w.seat.pool.fact) o.same;
        kept = ap view_kept o.same;
        found = (
          seen_row old c.args.v,
          o.row,
          subst (IsAnswerOf c.args.table.now (seen_row old c.args.v) c.args.entry) (sym o.answer_is) (global-seen old c.args.v o.cover o.there, o.covers),
          subst (λ answer. seen_row now c.args.v ≡ with_put (seen_row old c.args.v) c.args.entry answer) (sym o.answer_is) (ap (λ w. seen_row w c.args.v) o.same),
        );
        puts = subst (λ answer. puts_row now c.args.v ≡ with_put (puts_row old c.args.v) c.args.entry answer) (sym o.answer_is) (ap (λ w. puts_row w c.args.v) o.same);
        others_seen = λ u _ other. ap (λ w. seen_row w u) o.same;
        others_puts = λ u _ other. ap (λ w. puts_row w u) o.same;
      }
      | inr o ↦
          let kept = after-kept o.visited now c.args.v c.args.entry c.requires.node.from_one c.result o.after_is ∙ visited-kept old o.visited c.args.v o.found o.visit in
          record {
            edges = ap (λ (k : ViewKept). edges_of k.pool.fact) kept;
            order = ap (λ (k : ViewKept). order_of k.pool.fact) kept;
            kept = kept;
            found = (whole_row old o.found c.args.v, o.row, o.answer_is, o.seen);
            puts = after-puts o.visited now c.args.v c.args.entry c.requires.node.from_one c.result o.after_is ∙ ap (λ es. with_put es c.args.entry c.result) (visited-puts old o.visited c.args.v o.found o.visit c.args.v);
            others_seen = λ u from_one other. (after-else o.visited now c.args.v c.args.entry c.requires.node.from_one c.result o.after_is u from_one (λ is. other (sym is))).0 ∙ visited-else old o.visited c.args.v o.found o.visit u (λ is. other (sym is));
            others_puts = λ u from_one other. (after-else o.visited now c.args.v c.args.entry c.requires.node.from_one c.result o.after_is u from_one (λ is. other (sym is))).1 ∙ visited-puts old o.visited c.args.v o.found o.visit u;
          }
    ]
