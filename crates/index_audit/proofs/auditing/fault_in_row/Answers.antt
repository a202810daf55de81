use Rattle.std.proofs.Common.{◌≡◌, ◌<◌, ap, length, get_or, slice_get, Some, arith}
use Rattle.std.proofs.lemmas.Option.{slice_get-get_or}
use Rattle.walk_laws.specs.Joined.{Joined}
use Rattle.walk_laws.specs.Labelling.{label_row}
use Rattle.index_audit.proofs.JoinedRanges.{AreSoundUpTo-none, AreSoundUpTo-one_more, IsSoundRow-all}
use Rattle.index_audit.proofs.Searched.{nothing}
use Rattle.index_audit.proofs.Verdicts.{place_beside}
use Rattle.index_audit.proofs.auditing.fault_in_row.Goals as goal

pub loop-place-init : goal.loop-place-init
loop-place-init g c = AreSoundUpTo-none (Joined c.args.graph.now.edges) c.args.index.now.order c.args.index.now.rows (g.V.Beside.vias c.args.vias.now) c.args.v

pub fault_at-requires-clause-beside : goal.fault_at-requires-clause-beside
fault_at-requires-clause-beside g c =
    place_beside c.args.index.now.rows (g.V.Beside.vias c.args.vias.now) c.args.v c.loop-place.place c.requires.beside c.requires.node
    (omega (arith, c.row-row.ensures.well_formed.size, c.requires.size, c.requires.within)) (omega (arith, ap length c.row-row.ensures.value, c.loop-place-test.true))

pub returns-in-Some : goal.returns-in-Some
returns-in-Some g c =
    let row = label_row c.args.index.now.rows c.args.v in
    let within : c.loop-place.place < length row = omega (arith, ap length c.row-row.ensures.value, c.loop-place-test.true) in
    let there : slice_get row c.loop-place.place ≡ Some (get_or row c.loop-place.place nothing) = slice_get-get_or row c.loop-place.place nothing within in
    record { k = c.loop-place.place; entry = get_or row c.loop-place.place nothing; there = there; before = c.loop-place.invariant; fault_of = c.in-Some.ensures (get_or row c.loop-place.place nothing) there }

pub loop-place-preserved : goal.loop-place-preserved
loop-place-preserved g c =
    AreSoundUpTo-one_more (Joined c.args.graph.now.edges) c.args.index.now.order c.args.index.now.rows (g.V.Beside.vias c.args.vias.now) c.args.v c.loop-place.place c.loop-place.invariant
    c.in_default.ensures

pub returns : goal.returns
returns g c =
    IsSoundRow-all (Joined c.args.graph.now.edges) c.args.index.now.order c.args.index.now.rows (g.V.Beside.vias c.args.vias.now) c.args.v c.loop-place.place
    (omega (arith, ap length c.row-row.ensures.value, c.loop-place-test.false)) c.loop-place.invariant
