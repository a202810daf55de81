use Rattle.std.proofs.Common.{◌∙◌, ◌++◌, ap}
use Rattle.std.specs.Option.{option_copied}
use Rattle.index_file.specs.Layout.{run_bytes}
use Rattle.index_file.proofs.RowRuns.{stored-runs}
use Rattle.index_file.proofs.encoding.encode_rows.Goals as goal

pub returns : goal.returns
returns c =
    let i = c.args.index.now in
    let all = option_copied c.args.vias in
    stored-runs i.rows i.order all c.n-n.result c.push_rows.new.out.items c.n-n.ensures.value c.n-n.ensures.well_formed.size
    (c.in_ok-push_rows.ensures ∙ ap (λ t. t ++ run_bytes i.rows all 0 c.n-n.result) c.in_ok-out.ensures)
