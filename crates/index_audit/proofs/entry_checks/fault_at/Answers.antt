use Rattle.std.proofs.Common.{◌≡◌, ◌≤◌, List, true, false, get_or, length, map, refl, sym, ap, subst, ◌∙◌, arith}
use Rattle.std.proofs.lemmas.Bool.{not-false}
use Rattle.std.proofs.lemmas.List.{get_or_read}
use Rattle.std.proofs.lemmas.List.Kept.{AllPairs-from_increasing}
use Rattle.walk_laws.specs.declared.entry.Entry.{Entry}
use Rattle.walk_laws.specs.Joined.{Joined}
use Rattle.walk_laws.specs.Labelling.{label_row}
use Rattle.hub_query.proofs.RowFacts.{row_rises, row_positions}
use Rattle.walk_laws.proofs.LabelRows.{Rises}
use Rattle.hub_query.proofs.Sums.{pos_of}
use Rattle.entry_vias.specs.RowVias.{IsRowVia}
use Rattle.index_audit.specs.declared.answer.Audit.TheVariants.{NotCovered, Redundant, WrongVia}
use Rattle.index_audit.specs.Checks.{IsSoundEntry}
use Rattle.index_audit.specs.Audited.{IsFaultOf, IsSoundAt}
use Rattle.index_audit.proofs.Searched.{nothing}
use Rattle.index_audit.proofs.Prefix.{prefix_rises, meet_above, meet_prefix, first_whole}
use Rattle.index_audit.proofs.Verdicts.{of_entry, sound_of, needless_of, via_told, sound_at, astray_of}
use Rattle.index_audit.proofs.entry_checks.fault_at.Goals as goal
use Rattle.index_audit.proofs.entry_checks.fault_at.Goals.{After-goes_by}
use Rattle.index_audit.proofs.entry_checks.fault_at.Given.{Over}

pub at-hub-requires : goal.at-hub-requires
at-hub-requires g c =
    let entry_is : c.index-row-place.result ≡ get_or (label_row c.args.index.now.rows c.args.v) c.args.place nothing =
    get_or_read c.row-row.result.now c.args.place _ (omega (arith, c.requires.there, ap length c.row-row.ensures.value)) c.index-row-place.is nothing ∙ ap (λ (row : List Entry). get_or row c.args.place nothing) c.row-row.ensures.value in
    rw (c.ranking.ensures.value, entry_is)
    (row_positions c.args.index.now.order c.args.index.now.rows c.args.v c.row-row.ensures.well_formed c.requires.node (omega (arith, c.requires.within, c.requires.size)) c.args.place nothing c.requires.there)

pub first_meet-requires-clause-first_rises : goal.first_meet-requires-clause-first_rises
first_meet-requires-clause-first_rises g c =
    rw c.row-row.ensures.value
    (prefix_rises (label_row c.args.index.now.rows c.args.v) c.args.place (row_rises c.args.index.now.order c.args.index.now.rows c.args.v c.row-row.ensures.well_formed c.requires.node (omega (arith, c.requires.within, c.requires.size))))

pub at-by-requires : goal.at-by-requires
at-by-requires g c =
    let entry_is : c.index-row-place.result ≡ get_or (label_row c.args.index.now.rows c.args.v) c.args.place nothing =
    get_or_read c.row-row.result.now c.args.place _ (omega (arith, c.requires.there, ap length c.row-row.ensures.value)) c.index-row-place.is nothing ∙ ap (λ (row : List Entry). get_or row c.args.place nothing) c.row-row.ensures.value in
    let dist_is : c.get-dist.result ≡ (get_or (label_row c.args.index.now.rows c.args.v) c.args.place nothing).dist = c.get-dist.ensures.value ∙ ap (λ (e : Entry). e.dist) entry_is in
    let index = c.args.index.now in
    let row = label_row index.rows c.args.v in
    let up_to_n : c.args.v ≤ length index.order = omega (arith, c.requires.within, c.requires.size) in
    let up : Rises pos_of row = AllPairs-from_increasing (map (λ e. e.pos) row) (row_rises index.order index.rows c.args.v c.row-row.ensures.well_formed c.requires.node up_to_n) in
    let first = rw (c.row.ensures.value, c.row-row.ensures.value, dist_is) at c.in-Some-first_meet.ensures in
    rw c.ranking-in-Some-first_meet.ensures.value
    (omega (arith, meet_above row up c.args.place c.requires.there (label_row index.rows c.at-hub.result) (get_or row c.args.place nothing).dist c.in-Some-first_meet.pos first.here, row_positions index.order index.rows c.args.v c.row-row.ensures.well_formed c.requires.node up_to_n c.args.place nothing c.requires.there))

pub returns-in-Some-first_meet : goal.returns-in-Some-first_meet
returns-in-Some-first_meet g c =
    let entry_is : c.index-row-place.result ≡ get_or (label_row c.args.index.now.rows c.args.v) c.args.place nothing =
    get_or_read c.row-row.result.now c.args.place _ (omega (arith, c.requires.there, ap length c.row-row.ensures.value)) c.index-row-place.is nothing ∙ ap (λ (row : List Entry). get_or row c.args.place nothing) c.row-row.ensures.value in
    let dist_is : c.get-dist.result ≡ (get_or (label_row c.args.index.now.rows c.args.v) c.args.place nothing).dist = c.get-dist.ensures.value ∙ ap (λ (e : Entry). e.dist) entry_is in
    let index = c.args.index.now in
    let row = label_row index.rows c.args.v in
    let others = label_row index.rows c.at-hub.result in
    let entry = get_or row c.args.place nothing in
    let up_to_n : c.args.v ≤ length index.order = omega (arith, c.requires.within, c.requires.size) in
    let up : Rises pos_of row = AllPairs-from_increasing (map (λ e. e.pos) row) (row_rises index.order index.rows c.args.v c.row-row.ensures.well_formed c.requires.node up_to_n) in
    let first = rw (c.row.ensures.value, c.row-row.ensures.value, dist_is) at c.in-Some-first_meet.ensures in
    of_entry (λ e. IsFaultOf (Joined c.args.graph.now.edges) index.order index.rows (g.V.Beside.vias c.args.vias.now) c.args.v c.args.place e (Redundant c.args.v c.at-hub.result c.at-by.result)) c.row-row.result.now row c.args.place c.row-row.ensures.value (
      refl,
      rw c.row-row.ensures.value (needless_of (Joined c.args.graph.now.edges) index.order index.rows c.args.v c.at-hub.result entry
          (rw entry_is at (rw c.ranking.ensures.value at c.at-hub.ensures.value))
          (rw entry_is at (c.look_around-around.ensures.walked.0 (not-false c.look_around-around.result.walked c.if-not-around.false)))
          (rw entry_is at (rw c.in_default.is at c.look_around-around.ensures.covered))
          c.in-Some-first_meet.pos c.at-by.result
          (meet_above row up c.args.place c.requires.there others entry.dist c.in-Some-first_meet.pos first.here)
          (rw c.ranking-in-Some-first_meet.ensures.value at c.at-by.ensures.value)
          (first_whole row up c.args.place c.requires.there others entry.dist c.in-Some-first_meet.pos first)),
    )

-- the entry passes the three checks
passes : (g : Over) (c : After-goes_by g) → IsSoundEntry (Joined c.args.graph.now.edges) c.args.index.now.order c.args.index.now.rows c.args.v (get_or (label_row c.args.index.now.rows c.args.v) c.args.place nothing)
passes g c =
    let entry_is : c.index-row-place.result ≡ get_or (label_row c.args.index.now.rows c.args.v) c.args.place nothing =
    get_or_read c.row-row.result.now c.args.place _ (omega (arith, c.requires.there, ap length c.row-row.ensures.value)) c.index-row-place.is nothing ∙ ap (λ (row : List Entry). get_or row c.args.place nothing) c.row-row.ensures.value in
    let dist_is : c.get-dist.result ≡ (get_or (label_row c.args.index.now.rows c.args.v) c.args.place nothing).dist = c.get-dist.ensures.value ∙ ap (λ (e : Entry). e.dist) entry_is in
    let index = c.args.index.now in
    let row = label_row index.rows c.args.v in
    let others = label_row index.rows c.at-hub.result in
    let entry = get_or row c.args.place nothing in
    let up_to_n : c.args.v ≤ length index.order = omega (arith, c.requires.within, c.requires.size) in
    let up : Rises pos_of row = AllPairs-from_increasing (map (λ e. e.pos) row) (row_rises index.order index.rows c.args.v c.row-row.ensures.well_formed c.requires.node up_to_n) in
    let none = rw (c.row.ensures.value, c.row-row.ensures.value, dist_is) at c.in_default-first_meet.ensures in
    sound_of (Joined c.args.graph.now.edges) index.order index.rows c.args.v c.at-hub.result entry
    (rw entry_is at (rw c.ranking.ensures.value at c.at-hub.ensures.value))
    (rw entry_is at (c.look_around-around.ensures.walked.0 (not-false c.look_around-around.result.walked c.if-not-around.false)))
    (rw entry_is at (rw c.in_default.is at c.look_around-around.ensures.covered))
    (λ q above meet. none q (meet_prefix row up c.args.place c.requires.there others entry.dist q above meet))

-- and this is its via
wanted : (g : Over) (c : After-goes_by g) → IsRowVia (Joined c.args.graph.now.edges) c.args.index.now.rows c.args.v (get_or (label_row c.args.index.now.rows c.args.v) c.args.place nothing) c.unwrap_or-want.result
wanted g c =
    let entry_is : c.index-row-place.result ≡ get_or (label_row c.args.index.now.rows c.args.v) c.args.place nothing =
    get_or_read c.row-row.result.now c.args.place _ (omega (arith, c.requires.there, ap length c.row-row.ensures.value)) c.index-row-place.is nothing ∙ ap (λ (row : List Entry). get_or row c.args.place nothing) c.row-row.ensures.value in
    let index = c.args.index.now in
    let J = Joined c.args.graph.now.edges in
    let entry = get_or (label_row index.rows c.args.v) c.args.place nothing in
    subst (IsRowVia J index.rows c.args.v entry) (sym c.unwrap_or-want.ensures)
    (via_told J index.rows c.args.v entry c.look_around-around.result.nearer (rw entry_is at c.look_around-around.ensures.nearer))

pub returns-in-Some : goal.returns-in-Some
returns-in-Some g c =
    let entry_is : c.index-row-place.result ≡ get_or (label_row c.args.index.now.rows c.args.v) c.args.place nothing =
    get_or_read c.row-row.result.now c.args.place _ (omega (arith, c.requires.there, ap length c.row-row.ensures.value)) c.index-row-place.is nothing ∙ ap (λ (row : List Entry). get_or row c.args.place nothing) c.row-row.ensures.value in
    let index = c.args.index.now in
    of_entry (λ e. IsFaultOf (Joined c.args.graph.now.edges) index.order index.rows (g.V.Beside.vias c.args.vias.now) c.args.v c.args.place e (NotCovered c.args.v c.in-Some.to c.at-hub.result)) c.row-row.result.now (label_row index.rows c.args.v) c.args.place c.row-row.ensures.value (
      refl,
      rw c.row-row.ensures.value (record {
        place = rw entry_is at (rw c.ranking.ensures.value at c.at-hub.ensures.value);
        walked = rw entry_is at (c.look_around-around.ensures.walked.0 (not-false c.look_around-around.result.walked c.if-not-around.false));
        first = rw entry_is at (rw c.in-Some.is at c.look_around-around.ensures.covered);
      }),
    )

pub returns-then-not-goes_by : goal.returns-then-not-goes_by
returns-then-not-goes_by g c =
    let entry_is : c.index-row-place.result ≡ get_or (label_row c.args.index.now.rows c.args.v) c.args.place nothing =
    get_or_read c.row-row.result.now c.args.place _ (omega (arith, c.requires.there, ap length c.row-row.ensures.value)) c.index-row-place.is nothing ∙ ap (λ (row : List Entry). get_or row c.args.place nothing) c.row-row.ensures.value in
    let index = c.args.index.now in
    let up = (goal.at.returns-then-not-goes_by g c).After-goes_by in
    of_entry (λ e. IsFaultOf (Joined c.args.graph.now.edges) index.order index.rows (g.V.Beside.vias c.args.vias.now) c.args.v c.args.place e (WrongVia c.args.v c.at-hub.result c.unwrap_or-want.result)) c.row-row.result.now (label_row index.rows c.args.v) c.args.place c.row-row.ensures.value (
      refl,
      rw c.row-row.ensures.value (astray_of (Joined c.args.graph.now.edges) index.order index.rows (g.V.Beside.vias c.args.vias.now) c.args.v c.at-hub.result c.unwrap_or-want.result c.args.place (get_or (label_row index.rows c.args.v) c.args.place nothing)
          (rw entry_is at (rw c.ranking.ensures.value at c.at-hub.ensures.value))
          (passes g up) (wanted g up)
          (λ goes. let is : c.goes_by.result ≡ true = c.goes_by.ensures.1 goes in let never : false ≡ true = sym c.if-not-goes_by.true ∙ is in absurd cc)),
    )

pub returns : goal.returns
returns g c =
    let index = c.args.index.now in
    let up = (goal.at.returns g c).After-goes_by in
    of_entry (λ e. IsSoundAt (Joined c.args.graph.now.edges) index.order index.rows (g.V.Beside.vias c.args.vias.now) c.args.v c.args.place e) c.row-row.result.now (label_row index.rows c.args.v) c.args.place c.row-row.ensures.value
    (rw c.row-row.ensures.value (sound_at (Joined c.args.graph.now.edges) index.order index.rows (g.V.Beside.vias c.args.vias.now) c.args.v c.args.place c.unwrap_or-want.result (get_or (label_row index.rows c.args.v) c.args.place nothing)
    (passes g up) (wanted g up) (c.goes_by.ensures.0 c.if-not-goes_by.false)))
