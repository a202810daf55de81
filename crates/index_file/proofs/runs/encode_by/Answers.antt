use Rattle.std.proofs.Common.{◌≡◌, ◌∙◌, ◌++◌, length, sym, ap, ap₂}
use Rattle.index_file.specs.Layout.{before_rows, version_of}
use Rattle.index_file.proofs.RowRuns.{stored-runs}
use Rattle.index_file.proofs.runs.encode_by.Goals as goal

pub returns : goal.returns
returns g c =
    let i = g.I.Encodable.index c.args.index.now in
    let all = g.I.Encodable.vias c.args.index.now in
    let rows = c.lent-rows.result in
    let size : length i.rows ≡ length i.order = sym (ap length c.lent-rows.ensures.rows) ∙ c.n-n.ensures.well_formed.size ∙ ap length c.lent-rows.ensures.order in
    let head : c.in_ok-head.head.items ≡ before_rows (version_of all) i.order = c.in_ok-head.ensures ∙ ap (λ v. before_rows (version_of v) rows.order) c.lent_vias-vias.ensures.value ∙ ap (before_rows (version_of all)) c.lent-rows.ensures.order in
    stored-runs i.rows i.order all c.n-n.result c.new.result (c.n-n.ensures.value ∙ ap length c.lent-rows.ensures.order) size (c.new.ensures ∙ ap₂ (λ a b. a ++ b) head c.in_ok-runs.ensures)
