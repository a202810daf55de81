use Rattle.std.proofs.Common.{◌≡◌, ◌-◌, ◌≤◌, All, length, take, flat_map}
use Rattle.label_clean.specs.RootRuns.{IsRunIn, entries_of_run}
use Rattle.label_clean.proofs.runs.cut_in_runs.Given as goal

-- the entries so far are those of the runs
abbrev pub invariant-loop-from : goal.invariant-loop-from
invariant-loop-from l = record {
  within : l.from ≤ length l.entries;
  whole : flat_map (λ run. entries_of_run l.entries run) l.runs.items ≡ take l.from l.entries;
  each : All (IsRunIn l.entries) l.runs.items;
}

abbrev pub decreases-loop-from : goal.decreases-loop-from
decreases-loop-from l = length l.entries - l.from
