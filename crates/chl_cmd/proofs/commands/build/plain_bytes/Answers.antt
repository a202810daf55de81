use Rattle.std.proofs.Common.{ap, ◌∙◌}
use Rattle.index_file.specs.Layout.{index_bytes}
use Rattle.chl_cmd.proofs.commands.build.plain_bytes.Goals as goal

pub returns-in-Gll-clause-bytes : goal.returns-in-Gll-clause-bytes
returns-in-Gll-clause-bytes g c = (
  c.in_ok-split.split.rows,
  c.in_ok-split.ensures.labelling,
  c.in_ok-encode_by.ensures ∙ ap (λ at. index_bytes at c.in_ok-split.split.rows) c.in_ok-split.ensures.order,
)

pub returns-clause-bytes : goal.returns-clause-bytes
returns-clause-bytes g c = (
  c.in_ok-index.index.rows,
  c.in_ok-index.ensures.labelling,
  c.in_ok-encode_by-3.ensures ∙ ap (λ at. index_bytes at c.in_ok-index.index.rows) c.in_ok-index.ensures.order,
)
