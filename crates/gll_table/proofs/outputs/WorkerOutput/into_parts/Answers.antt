use Rattle.std.proofs.Common.{Global, Vec, ap, ◌∙◌}
use Rattle.label_clean.specs.declared.runs.RunList.{RunList}
use Rattle.gll_table.specs.Outputs.{Output}
use Rattle.gll_table.proofs.outputs.WorkerOutput.into_parts.Goals as goal

pub returns : goal.returns
returns g c = ap (λ (p : Vec RunList Global). p.items) c.replace-parts.ensures.value ∙ ap (λ (s : Output). s.parts) c.self.view_is
