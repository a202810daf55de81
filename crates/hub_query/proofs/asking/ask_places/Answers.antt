use Rattle.std.proofs.Common.{ℕ, get_or, ap, ◌∙◌, arith}
use Rattle.std.proofs.lemmas.List.Elements.{All-nil}
use Rattle.hub_query.proofs.Placed.{nowhere, Asked-next, Asked-all}
use Rattle.hub_query.proofs.asking.ask_places.Goals as goal

pub loop-pair-init : goal.loop-pair-init
loop-pair-init c = record { from_one = c.requires.held.0; up_to_n = c.requires.held.1; size = c.requires.size; row = c.requires.row; long = c.requires.room; told = All-nil _ }

pub ask_from-requires-clause-held : goal.ask_from-requires-clause-held
ask_from-requires-clause-held c = (c.loop-pair.invariant.from_one, c.loop-pair.invariant.up_to_n)

pub loop-pair-preserved : goal.loop-pair-preserved
loop-pair-preserved c =
    let k = c.loop-pair.pair-index in
    let next = get_or c.args.places.now k nowhere in
    let node = c.requires.nodes next.1 (0, 0) (c.requires.places.within k nowhere c.loop-pair-test.true) in
    let same = ap (λ (pair : ℕ × ℕ). pair.0) (c.requires.places.same k nowhere c.loop-pair-test.true) in
    Asked-next c.args.index.now c.args._pairs.now c.args.places.now c.loop-pair.answers c.loop-pair.table c.loop-pair.turned k c.loop-pair.invariant c.ask_from.result c.ask_from.new.table c.requires.places c.loop-pair-test.true
    (omega (arith, node.0, same)) (omega (arith, node.1, same)) (c.ask_from.ensures.size ∙ c.loop-pair.invariant.size) c.ask_from.ensures.row c.ask_from.ensures.meet

pub returns : goal.returns
returns c =
    Asked-all c.args.index.now c.args._pairs.now c.args.places.now c.loop-pair.answers c.loop-pair.table c.loop-pair.turned c.loop-pair.pair-index c.loop-pair.invariant c.requires.places c.loop-pair-test.false
