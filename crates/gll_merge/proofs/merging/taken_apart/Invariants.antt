use Rattle.std.proofs.Common.{◌≡◌, length, map}
use Rattle.gll_merge.proofs.merging.taken_apart.Given as goal

-- the workspaces and the parts of the workers so far are taken
abbrev pub invariant-loop-output : goal.invariant-loop-output
invariant-loop-output g l = record {
  workspaces : l.workspaces ≡ length l.yielded;
  parts : map (λ d. d.items) l.parts.items ≡ map (λ s. s.parts) l.yielded;
}
