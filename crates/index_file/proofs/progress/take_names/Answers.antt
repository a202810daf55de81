use Rattle.std.proofs.Common.{◌≡◌, Bool, true, false, Some, None, cond, refl, inr, arith}
use Rattle.index_file.specs.Parts.{Names, is_new_node, with_node}
use Rattle.index_file.specs.Gives.{at_node}
use Rattle.index_file.proofs.Sizes.{offset-le}
use Rattle.index_file.proofs.Steps.{fed-node, fed-no_node, Runs-more, Refuses-part, Refuses-then}
use Rattle.index_file.proofs.progress.take_names.Goals as goal

some_node : (b : Bool) (new names : Names) → Some new ≡ cond b (Some names) None → (b ≡ true) × (new ≡ names)
some_node true new names is = (refl, cc)
some_node false new names is = absurd cc

no_node : (b : Bool) (names : Names) → None ≡ cond b (Some names) None → b ≡ false
no_node true names is = absurd cc
no_node false names is = refl

pub overflow_add-at : goal.overflow_add-at
overflow_add-at c = omega (arith, offset-le (at_node c.loop-rest.names c.loop-rest.at) c.loop-rest.invariant.sound)

pub returns-in-None-clause-refused : goal.returns-in-None-clause-refused
returns-in-None-clause-refused c =
    let names = c.loop-rest.names in
    let v = c.read_u32.result in
    let named : None ≡ cond (is_new_node names v) (Some (with_node names v)) None = rw c.in-None.is at c.in_ok-named.ensures in
    let cur = at_node names c.loop-rest.at in
    let faults = fed-no_node names c.loop-rest.at v c.split_at.result.0.now c.split_at.ensures.front_len c.read_u32.ensures (no_node (is_new_node names v) (with_node names v) named) in
    rw c.len-place.ensures (Refuses-then (at_node c.args.names c.args.at) cur c.args.bytes.now c.loop-rest.rest.now _ c.loop-rest.invariant.takes (Refuses-part cur c.loop-rest.rest.now c.split_at.result.0.now c.split_at.result.1.now _ c.split_at.ensures.by_index.0 (inr faults)))

pub loop-rest-preserved : goal.loop-rest-preserved
loop-rest-preserved c =
    let names = c.loop-rest.names in
    let v = c.read_u32.result in
    let named : Some c.in-Some.names ≡ cond (is_new_node names v) (Some (with_node names v)) None = rw c.in-Some.is at c.in_ok-named.ensures in
    let new = some_node (is_new_node names v) c.in-Some.names (with_node names v) named in
    let led = fed-node names c.loop-rest.at v c.split_at.result.0.now c.split_at.ensures.front_len c.read_u32.ensures new.0 (omega (arith, c.if-len-n.true, c.len.ensures, c.n.ensures)) in
    rw new.1 (Runs-more (at_node c.args.names c.args.at) (at_node names c.loop-rest.at) (at_node (with_node names v) _) c.args.bytes.now c.loop-rest.rest.now c.split_at.result.0.now c.split_at.result.1.now c.loop-rest.invariant (λ i. omega (arith, c.type_inv.bytes i)) c.split_at.ensures.by_index.0 led)
