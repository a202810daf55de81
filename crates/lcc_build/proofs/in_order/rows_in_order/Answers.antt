use Rattle.std.proofs.Common.{◌≡◌, length, ap, sym, subst, ◌∙◌, arith}
use Rattle.std.proofs.lemmas.Result.{IfOk-weaker}
use Rattle.walk_laws.specs.Labelling.{label_row}
use Rattle.label_clean.specs.Below.{IsRowBelow, IsChlBelow}
use Rattle.lcc_build.proofs.in_order.rows_in_order.Goals as goal

pub returns : goal.returns
returns g c =
    let at = c.args.job.now.ranking.now in
    let last : c.loop-p.p ≡ length at = omega (arith, c.loop-p.auto.p-end, c.loop-p-test.false, c.n-p-end.ensures.value) in
    IfOk-weaker c.into_rows.result (λ rows. rows ≡ c.loop-p.view.rows) (λ rows. IsChlBelow c.args.job.now.graph.now.edges at (length at) rows)
    (λ rows same. record {
      size = ap length same ∙ c.into_rows.ensures.gathered.size ∙ ap length c.loop-p.invariant.order;
      row = λ v from_one up_to_n.
          subst (λ rs. IsRowBelow c.args.job.now.graph.now.edges at (length at) v (label_row rs v)) (sym same)
          (subst (λ p. IsRowBelow c.args.job.now.graph.now.edges at p v (label_row c.loop-p.view.rows v)) last (c.loop-p.invariant.rows v (record { from_one = from_one; up_to_n = up_to_n })));
    }) c.into_rows.ensures.rows
