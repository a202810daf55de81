use Rattle.std.proofs.Common.{◌≡◌, ◌-◌, ◌≤◌, length, get_or, insert, set}
use Rattle.walk_laws.specs.Labelling.{label_row}
use Rattle.resumed_tree.proofs.taking.put_at.Given as goal

-- one place of the row is free, at first its end; what stood from there on has moved up
abbrev pub invariant-loop-free : goal.invariant-loop-free
invariant-loop-free l = record {
  from : l.place ≤ l.free;
  within : l.free ≤ length (label_row l.fn.rows l.v);
  rows : l.rows ≡ set l.fn.rows (l.v - 1) (insert (label_row l.fn.rows l.v) l.free (get_or (label_row l.fn.rows l.v) l.free l.fn.entry));
}

-- each round moves one entry
abbrev pub decreases-loop-free : goal.decreases-loop-free
decreases-loop-free l = l.free
