use Rattle.std.proofs.Common.{◌*◌, ◌^◌, ◌≤◌}
use Rattle.index_file.proofs.encoding.count_entries.Given as goal

-- each row so far has at most 2^30 entries, and there are at most 2^30 rows
abbrev pub invariant-loop-p : goal.invariant-loop-p
invariant-loop-p l = record {
  rows : l.entries ≤ 1073741824 * l.p;
  all : l.entries ≤ 2 ^ 60;
}
