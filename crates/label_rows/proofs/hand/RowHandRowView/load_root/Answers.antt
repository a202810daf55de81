use Rattle.std.proofs.Common.{sym, ap, ◌∙◌}
use Rattle.std.specs.Prelude.{None}
use Rattle.std.proofs.lemmas.List.{append-nil}
use Rattle.label_rows.specs.Lawful.{Sitter}
use Rattle.label_rows.proofs.HandVisits.{seated, one_visit, row_found, seen_after}
use Rattle.label_rows.proofs.hand.RowHandRowView.load_root.Goals as goal

pub returns-clause-visit : goal.returns-clause-visit
returns-clause-visit g c =
    let before = ap (λ hand. hand.seat) c.self-inside.view_is ∙ c.self.view_is in
    let row = c.take-row.result in
    let took = ap (λ (me : Sitter). me.0) c.take-row.ensures.took in
    let taken = ap (seated _ _) took ∙ before in
    let found = row_found _ _ _ c.args.h row c.args.self.now (ap (λ seat. seat.rows.edges) before) (ap (λ seat. seat.rows.order) before) (ap (λ seat. seat.visits) before) c.take-row.ensures.goes_on c.take-row.ensures.fit in
    let now = one_visit _ _ _ c.take-row.new.seat.me.0 _ c.args.h row row None c.args.self.now taken (ap (λ view. view.knows.hold) took) (c.give.ensures.same.0 ∙ c.take-row.ensures.same.0) (ap (λ (me : Sitter). me.0) c.give.ensures.gave) (sym (append-nil row)) in (
      row,
      found,
      c.load.ensures.held,
      now,
      seen_after c.args.self.now _ c.args.h row None now found.goes_on ∙ append-nil row,
    )
