use Rattle.std.proofs.Common.{◌≡◌, ◌+◌, All, length, ap, subst, ◌∙◌, arith}
use Rattle.std.proofs.lemmas.List.{length-map}
use Rattle.walk_laws.specs.Labelling.{label_row}
use Rattle.hub_index.specs.CompactRows.{row_of_parts}
use Rattle.hub_index.specs.Reach.{IsBelow, IsFirstFrom}
use Rattle.hub_index.proofs.FarEntries.{below_next, IsFirstOfRows-at}
use Rattle.hub_index.proofs.PartedRows.{compact_lists, length-rows_of_parts, row_read}
use Rattle.hub_index.proofs.split_rows.SplitRows.first_from.Goals as goal
use Rattle.hub_index.proofs.split_rows.SplitRows.first_from.Goals.{After-first_of_parts}

row_is : (c : After-first_of_parts) → row_of_parts c.deref.result.now c.row.result.now ≡ label_row c.args.self.now (c.loop-k.k + 1)
row_is c =
    let compact = c.self.inside.compact.items in
    let size = length-rows_of_parts (compact_lists compact) c.self.inside.full (length-map compact (λ row. row.items) ∙ c.self.invariant.0) in
    row_read compact c.self.inside.full c.args.self.now (c.loop-k.k + 1) c.index-compact.result.now c.deref.result.now c.row.result.now c.self.view_is c.self.invariant.0 (omega arith) (omega (arith, size, ap length c.self.view_is, c.self.invariant.0)) c.index-compact.ensures c.deref.ensures.value c.row.ensures

pub returns-in-Some-clause-some : goal.returns-in-Some-clause-some
returns-in-Some-clause-some c =
    let compact = c.self.inside.compact.items in
    let size = length-rows_of_parts (compact_lists compact) c.self.inside.full (length-map compact (λ row. row.items) ∙ c.self.invariant.0) in
    rw c.of.ensures
    (IsFirstOfRows-at c.args.limit c.args.self.now c.loop-k.k c.in-Some.entry (omega (arith, size, ap length c.self.view_is, c.self.invariant.0)) c.loop-k.invariant
    (subst (λ row. IsFirstFrom c.args.limit row c.in-Some.entry) (row_is (goal.at.returns-in-Some-clause-some c).After-first_of_parts) c.in-Some.ensures.some))

pub loop-k-preserved : goal.loop-k-preserved
loop-k-preserved c =
    below_next c.args.limit c.args.self.now c.loop-k.k c.loop-k.invariant (subst (All (IsBelow c.args.limit)) (row_is (goal.at.loop-k-preserved c).After-first_of_parts) c.in_default.ensures.none)

pub returns-clause-none : goal.returns-clause-none
returns-clause-none c =
    let compact = c.self.inside.compact.items in
    let size = length-rows_of_parts (compact_lists compact) c.self.inside.full (length-map compact (λ row. row.items) ∙ c.self.invariant.0) in
    λ v from_one up_to. c.loop-k.invariant v from_one (omega (arith, up_to, size, ap length c.self.view_is, c.self.invariant.0))
