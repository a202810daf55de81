use Rattle.std.proofs.Common.{◌≡◌, ◌++◌}
use Rattle.std.specs.Option.{option_copied}
use Rattle.index_file.specs.Layout.{run_bytes}
use Rattle.index_file.proofs.encoding.push_rows.Given as goal

-- the rows so far
abbrev pub invariant-loop-p : goal.invariant-loop-p
invariant-loop-p l = l.out.items ≡ l.fn.out.items ++ run_bytes l.index.rows (option_copied l.vias) l.from l.p
