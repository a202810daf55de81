use Rattle.std.proofs.Common.{◌≡◌, ◌++◌, take}
use Rattle.std.specs.Prelude.{flat_map}
use Rattle.index_file.specs.Layout.{word}
use Rattle.index_file.proofs.encoding.push_order.Given as goal

-- the nodes so far
abbrev pub invariant-loop-p : goal.invariant-loop-p
invariant-loop-p l = l.out.items ≡ l.fn.out.items ++ flat_map word (take l.p l.index.order)
