use Rattle.std.proofs.Common.{◌≡◌, ◌++◌, ◌∷◌, take}
use Rattle.std.specs.Prelude.{flat_map}
use Rattle.std.specs.Fmt.{decimal}
use Rattle.chl_lines.specs.PrintedWalks.{node_word}
use Rattle.chl_lines.proofs.printed.print_walk.Given as goal

-- the pair, the length, and the nodes so far
abbrev pub invariant-loop-node : goal.invariant-loop-node
invariant-loop-node l =
    l.text.items ≡ l.fn.text.items ++ (l.letter ++ (decimal l.fn.pair.0 ++ (32 ∷ decimal l.fn.pair.1) ++ (32 ∷ decimal l.length) ++ flat_map node_word (take l.node-index l.nodes)))
