use Rattle.std.proofs.Common.{◌≡◌, All, take, flat_map}
use Rattle.label_clean.specs.RunLists.{IsTurnOf, all_entries, part_of}
use Rattle.label_clean.proofs.turns.list_turns.Given as goal

-- the turns so far are the runs of the lists so far
abbrev pub invariant-loop-place : goal.invariant-loop-place
invariant-loop-place l = record {
  whole : flat_map (part_of l.lists) l.turns.items ≡ all_entries (take l.place l.lists);
  each : All (IsTurnOf l.lists) l.turns.items;
}
