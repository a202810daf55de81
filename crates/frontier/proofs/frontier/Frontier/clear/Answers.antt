use Rattle.std.proofs.Common.{length, arith}
use Rattle.std.proofs.lemmas.List.{length-drop}
use Rattle.frontier.proofs.HeapEntryLemmas.{all_unreached, replicated}
use Rattle.frontier.proofs.frontier.Frontier.clear.Goals as goal

pub returns : goal.returns
returns g c =
    let none = all_unreached c.loop-node.self-inside.1.0 (λ x is. omega (arith, (c.loop-node.invariant.reached x is).1, length-drop c.loop-node.node-index c.as_slice-node-items.result.now, c.loop-node-test.false)) in
    rw (← c.self.view_is) (replicated c.loop-node.self-inside.1.0 (length c.self.inside.reaches) c.loop-node.invariant.size none)
