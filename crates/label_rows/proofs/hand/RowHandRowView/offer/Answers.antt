use Rattle.std.proofs.Common.{ℕ, List, sym, ap, subst, ◌∙◌}
use Rattle.walk_laws.specs.declared.graph.Edge.{Edge}
use Rattle.walk_laws.specs.Joined.{Joined}
use Rattle.walk_laws.specs.Labelling.{EntryFits}
use Rattle.label_rows.specs.Lawful.{Sitter}
use Rattle.label_rows.specs.Visits.{put_by}
use Rattle.label_rows.proofs.HandVisits.{seated, one_visit, row_found, seen_after, put-fits}
use Rattle.label_rows.proofs.SeenRows.{put-after}
use Rattle.label_rows.proofs.hand.RowHandRowView.offer.Goals as goal

pub give-requires-clause-may : goal.give-requires-clause-may
give-requires-clause-may g c =
    let before = ap (λ hand. hand.seat) c.self-inside.view_is ∙ c.self.view_is in
    let took = ap (λ (me : Sitter). me.0) c.take-row.ensures.took in
    let edges = ap (λ view. view.knows.edges) took ∙ ap (λ seat. seat.rows.edges) before in
    let order = ap (λ view. view.knows.order) took ∙ ap (λ seat. seat.rows.order) before in
    record {
      found = c.take-row.result;
      put = put_by c.args.entry c.offer-answer.result;
      holds = ap (λ view. view.knows.hold) took;
      grown = c.offer-answer.ensures.row ∙ sym (put-after c.take-row.result c.args.entry c.offer-answer.result);
      fits = put-fits c.take-row.new.seat.me.0.knows.edges c.take-row.new.seat.me.0.knows.order c.args.v c.args.entry c.offer-answer.result
          (subst (λ (t : List Edge × List ℕ). EntryFits (Joined t.0) t.1 c.args.v c.args.entry) (λ k. (sym edges k, sym order k)) c.requires.fits);
    }

pub returns : goal.returns
returns g c =
    let before = ap (λ hand. hand.seat) c.self-inside.view_is ∙ c.self.view_is in
    let row = c.take-row.result in
    let took = ap (λ (me : Sitter). me.0) c.take-row.ensures.took in
    let taken = ap (seated _ _) took ∙ before in
    let found = row_found _ _ _ c.args.v row c.args.self.now (ap (λ seat. seat.rows.edges) before) (ap (λ seat. seat.rows.order) before) (ap (λ seat. seat.visits) before) c.take-row.ensures.goes_on c.take-row.ensures.fit in
    let now = one_visit _ _ _ c.take-row.new.seat.me.0 _ c.args.v row c.offer-answer.new.self (put_by c.args.entry c.offer-answer.result) c.args.self.now taken (ap (λ view. view.knows.hold) took) (c.give.ensures.same.0 ∙ c.take-row.ensures.same.0) (ap (λ (me : Sitter). me.0) c.give.ensures.gave)
    (c.offer-answer.ensures.row ∙ sym (put-after row c.args.entry c.offer-answer.result)) in
    record {
      visit = (
        row,
        found,
        c.offer-answer.ensures.answer,
        now,
        seen_after c.args.self.now _ c.args.v row (put_by c.args.entry c.offer-answer.result) now found.goes_on ∙ put-after row c.args.entry c.offer-answer.result,
      );
    }
