use Rattle.std.proofs.Common.{List, [], ◌∷◌, ◌++◌, sym, ap, ◌∙◌, arith}
use Rattle.std.proofs.lemmas.List.{length_push, map_push}
use Rattle.label_clean.specs.declared.runs.RunList.{RunList}
use Rattle.gll_table.specs.Outputs.{Output}
use Rattle.gll_merge.proofs.merging.taken_apart.Goals as goal

abbrev parts_of : Output → List RunList
parts_of s = s.parts

pub loop-output-preserved : goal.loop-output-preserved
loop-output-preserved g c = record {
  workspaces = omega (arith, c.in_ok-add_parts.ensures.workspaces, c.loop-output.invariant.workspaces, length_push c.loop-output.yielded c.in-Some.output);
  parts =
      c.in_ok-add_parts.ensures.parts
      ∙ ap (λ lists. lists ++ c.in-Some.output.parts ∷ []) c.loop-output.invariant.parts
      ∙ sym (map_push parts_of c.loop-output.yielded c.in-Some.output);
}
