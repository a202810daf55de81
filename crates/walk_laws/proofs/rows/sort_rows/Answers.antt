use Rattle.std.specs.Prelude.{◌≡◌, ◌-◌, ◌≤◌, ◌<◌, All, length, slice_index}
use Rattle.std.proofs.Common.{◌∙◌, sym, subst, inl, inr, arith}
use Rattle.std.proofs.lemmas.Bool.{cases_eq}
use Rattle.walk_laws.specs.Graph.{IsRowOf}
use Rattle.walk_laws.proofs.SortedRows.{row_at, with_row, length-with_row, row_at-with_row, row_at-with_other, length-row_at}
use Rattle.walk_laws.proofs.rows.sort_rows.Goals as goal

pub loop-v-preserved : goal.loop-v-preserved
loop-v-preserved c =
    let ends = c.args.ends.now in
    let arcs = c.loop-v.arcs in
    let v = c.loop-v.v in
    let row = c.sort_row.new.row in
    let rising = c.requires.rising in
    let within : All (λ at. at ≤ length arcs) ends = λ k d less. omega (arith, c.requires.within k d less, c.loop-v.invariant.len) in
    let lt : v < length ends = omega (arith, c.loop-v-test.true) in
    let long : length row ≡ slice_index ends v - slice_index ends (v - 1) = c.sort_row.ensures.len ∙ length-row_at ends arcs v (within v 0 lt) in
    let left = c.loop-v.invariant.left in
    record {
      len = length-with_row ends arcs row v rising within lt long ∙ c.loop-v.invariant.len;
      sorted = λ u low high. elim (cases_eq u v) [
        | inl same ↦ subst (λ k. IsRowOf (row_at ends c.args.arcs.now k) (row_at ends (with_row ends arcs v row) k)) (sym same) (rw (row_at-with_row ends arcs row v rising within lt long, ← left v (omega arith) lt) c.in_ok-sort_row.ensures.row)
        | inr other ↦ rw (row_at-with_other ends arcs row v u rising within lt long (omega arith) other) (c.loop-v.invariant.sorted u low (omega (arith, other)))
      ];
      left = λ u low high. row_at-with_other ends arcs row v u rising within lt long high (λ e. omega arith) ∙ left u (omega arith) high;
    }

pub returns-clause-rows : goal.returns-clause-rows
returns-clause-rows c = λ v low high. c.loop-v.invariant.sorted v low (omega (arith, c.loop-v-test.false))
