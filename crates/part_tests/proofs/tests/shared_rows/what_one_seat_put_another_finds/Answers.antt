use Rattle.std.proofs.Common.{◌∙◌, ap}
use Rattle.hub_index.proofs.SquareEntries.{fits_four}
use Rattle.part_tests.proofs.tests.shared_rows.what_one_seat_put_another_finds.Goals as goal

pub offer-requires-clause-fits : goal.offer-requires-clause-fits
offer-requires-clause-fits g c =
    let rows = ap (λ seat. seat.rows) c.new-first.ensures ∙ c.split-two.ensures.seat in
    rw c.entry.ensures (fits_four _ _
    (ap (λ of. of.edges) rows ∙ c.in_ok-rows.ensures.edges ∙ c.in_ok-graph.ensures.edges)
    (ap (λ of. of.order) rows ∙ c.in_ok-rows.ensures.order ∙ c.in_ok-ranking.ensures))
