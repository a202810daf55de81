-- Each check is decided, so each index is answered something.
use Rattle.std.proofs.Common.{◌≡◌, ◌⊎◌, ℕ, ◌+◌, ◌<◌, ◌≤◌, List, Option, Some, None, All, Contains, length, get_or, take, slice_get, refl, sym, ap, subst, ◌∙◌, inl, inr, arith}
use Rattle.std.proofs.lemmas.Bool.{cases_lt, cases_eq}
use Rattle.std.proofs.lemmas.List.{get_or-take, length-take-le, ext_get_or}
use Rattle.std.proofs.lemmas.List.Elements.{All-contains, Contains-get_or}
use Rattle.std.proofs.lemmas.Option.{same_Some, slice_get-get_or, slice_get_within, get_or_from_slice_get}
use Rattle.walk_laws.specs.declared.graph.Edge.{Edge}
use Rattle.walk_laws.specs.declared.graph.Arc.{Arc}
use Rattle.walk_laws.specs.declared.entry.Entry.{Entry}
use Rattle.walk_laws.specs.Graph.{WeightedGraph, IsGraph, IsEdge, arcs_at}
use Rattle.walk_laws.specs.Joined.{Joined}
use Rattle.walk_laws.specs.Labelling.{label_row}
use Rattle.walk_laws.proofs.Arcs.{Joined-from_arcs_at, Contains-arcs_at}
use Rattle.walk_laws.proofs.JoinedEdges.{IsEdge-joined}
use Rattle.walk_laws.proofs.Search.{Found, Found-decided, LeastNumber-below}
use Rattle.hub_index.specs.HubIndex.{HubIndex}
use Rattle.hub_index.specs.WellFormed.{IsWellFormed}
use Rattle.hub_query.proofs.RowFacts.{row_positions}
use Rattle.entry_vias.specs.RowVias.{IsNearer, IsRowVia, via_row, TracedHubIndex}
use Rattle.entry_vias.proofs.Existing.{IsNearer-decided}
use Rattle.index_audit.specs.declared.answer.Audit.{Audit}
use Rattle.index_audit.specs.declared.answer.Audit.TheVariants.{Same, Sizes, OrderDiffers, NoWalk, NotCovered, Redundant, WrongVia}
use Rattle.index_audit.specs.Checks.{MeetAt, IsWalked, IsCoveredAt, IsCovered, IsUncoveredAt, IsRedundantBy, IsSoundEntry}
use Rattle.index_audit.specs.Beside.{GoesBy}
use Rattle.index_audit.specs.Audited.{IsFaultOf, IsSoundAt, AreSoundUpTo, IsSoundRow, AreSoundBefore, IsFirstOfRow, IsFirstFault, IsOfOrder, PartAt, IsAuditWith, IsAuditOf}
use Rattle.index_audit.specs.TracedAudits.{index_in, IsTracedAuditOf}
use Rattle.index_audit.proofs.OneEntry.{one_via}
use Rattle.index_audit.proofs.Faults.{fault_is_none}

abbrev Joins : ℕ → ℕ → Entry → Entry → Type 0
Joins d q x y = (y.pos ≡ q) × (x.dist + y.dist ≤ d)

joins_decided : (d q : ℕ) (x y : Entry) → Joins d q x y ⊎ (Joins d q x y → ⊥)
joins_decided d q x y = elim (cases_eq y.pos q) [
  | inr other ↦ inr (λ h. other h.0)
  | inl same ↦ elim (cases_lt d (x.dist + y.dist)) [
    | inl long ↦ inr (λ h. omega (arith, h.1))
    | inr short ↦ inl (same, short)
  ]
]

abbrev Meets : List Entry → ℕ → ℕ → Entry → Type 0
Meets second d q x = (x.pos ≡ q) × Found (Joins d q x) second

meets_decided : (second : List Entry) (d q : ℕ) (x : Entry) → Meets second d q x ⊎ (Meets second d q x → ⊥)
meets_decided second d q x = elim (cases_eq x.pos q) [
  | inr other ↦ inr (λ h. other h.0)
  | inl same ↦ elim (Found-decided (Joins d q x) second (λ y _. joins_decided d q x y)) [
    | inl found ↦ inl (same, found)
    | inr none ↦ inr (λ h. none h.1.element h.1.there h.1.holds)
  ]
]

-- whether two rows meet at a position
meet_at_decided : (first second : List Entry) (d q : ℕ) → MeetAt first second d q ⊎ (MeetAt first second d q → ⊥)
meet_at_decided first second d q = elim (Found-decided (Meets second d q) first (λ x _. meets_decided second d q x)) [
  | inl found ↦
      let x = found.element in
      let y = found.holds.1.element in
      inl (record {
        sum = x.dist + y.dist;
        both = record {
          before = x.dist;
          after = y.dist;
          in_first = subst (λ p. Contains first (record { pos = p; dist = x.dist })) found.holds.0 found.there;
          in_second = subst (λ p. Contains second (record { pos = p; dist = y.dist })) found.holds.1.holds.0 found.holds.1.there;
          long = refl;
        };
        short = found.holds.1.holds.1;
      })
  | inr none ↦ inr (λ m. none (record { pos = q; dist = m.both.before }) m.both.in_first (refl, record { element = record { pos = q; dist = m.both.after }; there = m.both.in_second; holds = (refl, omega (arith, m.both.long, m.short)) }))
]

-- and whether they do at all
covered_decided : (rows : List (List Entry)) (h y d : ℕ) → IsCoveredAt rows h y d ⊎ (IsCoveredAt rows h y d → ⊥)
covered_decided rows h y d =
    elim (Found-decided (λ x. MeetAt (label_row rows h) (label_row rows y) d x.pos) (label_row rows h) (λ x _. meet_at_decided (label_row rows h) (label_row rows y) d x.pos)) [
      | inl found ↦ inl (found.element.pos, found.holds)
      | inr none ↦ inr (λ c. none (record { pos = c.0; dist = c.1.both.before }) c.1.both.in_first c.1)
    ]

-- whether the entry at a place goes by a node
goes_decided : (vias : Option (List (List ℕ))) (v k y : ℕ) → GoesBy vias v k y ⊎ (GoesBy vias v k y → ⊥)
goes_decided None v k y = inl tt
goes_decided (Some vias) v k y = elim (cases_lt k (length (via_row vias v))) [
  | inr past ↦ inr (λ is. omega (arith, slice_get_within (via_row vias v) k y is, past))
  | inl within ↦
      let there : slice_get (via_row vias v) k ≡ Some (get_or (via_row vias v) k 0) = slice_get-get_or (via_row vias v) k 0 within in
      elim (cases_eq (get_or (via_row vias v) k 0) y) [
        | inl same ↦ inl (there ∙ ap Some same)
        | inr other ↦ inr (λ is. other (same_Some (get_or (via_row vias v) k 0) y (sym there ∙ is)))
      ]
]

-- what stands at a place is in the list
pub Contains-at : {X : Type 0} (xs : List X) (k : ℕ) (x : X) → slice_get xs k ≡ Some x → Contains xs x
Contains-at xs k x is = subst (Contains xs) (get_or_from_slice_get xs k x x is) (Contains-get_or xs k x (slice_get_within xs k x is))

-- the via of an entry, as the rows tell it
pub via_judged : (edges : List Edge) (n : ℕ) → All (IsEdge n) edges → (rows : List (List Entry)) (v : ℕ) (e : Entry) → (want : ℕ) × IsRowVia (Joined edges) rows v e want
via_judged edges n edge rows v e = elim (LeastNumber-below (IsNearer (Joined edges) rows v e) (IsNearer-decided edges rows v e) (n + 1)) [
  | inl first ↦ (first.number, inl (record { nearer = first.holds; least = first.least }))
  | inr none ↦ (0, inr (refl, λ z near. none z (omega (arith, (IsEdge-joined n edges v z near.weight edge near.arc).to_n)) near))
]

module _ (edges : List Edge) (at : List ℕ) (edge : All (IsEdge (length at)) edges) (rows : List (List Entry)) (well : IsWellFormed at rows) (vias : Option (List (List ℕ))) where
  abbrev J : ℕ → ℕ → ℕ → Type 0
  J = Joined edges

  walked_decided : (v h : ℕ) (e : Entry) → IsWalked J rows v h e ⊎ (IsWalked J rows v h e → ⊥)
  walked_decided v h e = elim (cases_eq h v) [
    | inl same ↦ inl (inl same)
    | inr other ↦
        let via = via_judged edges (length at) edge rows v e in
        elim via.1 [
          | inl first ↦ inl (inr (via.0, first.nearer))
          | inr none ↦ inr (λ w. elim w [ inl same ↦ other same | inr step ↦ none.1 step.0 step.1 ])
        ]
  ]

  abbrev Open : ℕ → ℕ → Entry → Arc → Type 0
  Open h y e a = (a.to ≡ y) × (IsCoveredAt rows h y (e.dist + a.w) → ⊥)

  open_decided : (h y : ℕ) (e : Entry) (a : Arc) → Open h y e a ⊎ (Open h y e a → ⊥)
  open_decided h y e a = elim (cases_eq a.to y) [
    | inr other ↦ inr (λ o. other o.0)
    | inl same ↦ elim (covered_decided rows h y (e.dist + a.w)) [
      | inl covered ↦ inr (λ o. o.1 covered)
      | inr none ↦ inl (same, none)
    ]
  ]

  uncovered_decided : (v h : ℕ) (e : Entry) (y : ℕ) → IsUncoveredAt J rows v h e y ⊎ (IsUncoveredAt J rows v h e y → ⊥)
  uncovered_decided v h e y = elim (Found-decided (Open h y e) (arcs_at edges v) (λ a _. open_decided h y e a)) [
    | inl found ↦
        let a = found.element in
        inl (record { weight = a.w; arc = subst (λ x. J v x a.w) found.holds.0 (Joined-from_arcs_at edges v a.to a.w found.there); none = found.holds.1 })
    | inr none ↦ inr (λ u. none (record { to = y; w = u.weight }) (Contains-arcs_at edges v y u.weight u.arc) (refl, u.none))
  ]

  -- where no neighbour is uncovered, each is covered
  all_covered : (v h : ℕ) (e : Entry) → ((y : ℕ) → y < length at + 1 → IsUncoveredAt J rows v h e y → ⊥) → IsCovered J rows v h e
  all_covered v h e none y w arc = elim (covered_decided rows h y (e.dist + w)) [
    | inl covered ↦ covered
    | inr open_there ↦ absurd (none y (omega (arith, (IsEdge-joined (length at) edges v y w edge arc).to_n)) (record { weight = w; arc = arc; none = open_there }))
  ]

  redundant_decided : (v h : ℕ) (e : Entry) (q : ℕ) → IsRedundantBy rows v h e q ⊎ (IsRedundantBy rows v h e q → ⊥)
  redundant_decided v h e q = elim (cases_lt q e.pos) [
    | inr below ↦ inr (λ r. omega (arith, r.above))
    | inl above ↦ elim (meet_at_decided (label_row rows h) (label_row rows v) e.dist q) [
      | inl meet ↦ inl (record { above = above; meet = meet })
      | inr none ↦ inr (λ r. none r.meet)
    ]
  ]

  abbrev Judged : ℕ → ℕ → Entry → Type 0
  Judged v k e = IsSoundAt J at rows vias v k e ⊎ ((fault : Audit) × IsFaultOf J at rows vias v k e fault)

  -- the via of an entry that passes the other checks
  judged_via : (v k : ℕ) (e : Entry) → IsSoundEntry J at rows v e → Judged v k e
  judged_via v k e sound =
      let via = via_judged edges (length at) edge rows v e in
      elim (goes_decided vias v k via.0) [
        | inl goes ↦ inl (record { sound = sound; via = λ y is. subst (GoesBy vias v k) (one_via J rows v e via.0 y via.1 is) goes })
        | inr other ↦ inr (WrongVia v sound.hub via.0, (refl, record { place = sound.place; sound = sound; wanted = via.1; other = other }))
      ]

  module _ (v : ℕ) (from_one : 1 ≤ v) (up_to_n : v ≤ length at) where
    judged_last : (k : ℕ) (e : Entry) (h : ℕ) → slice_get at e.pos ≡ Some h → IsWalked J rows v h e → IsCovered J rows v h e → Judged v k e
    judged_last k e h place walked covered = elim (LeastNumber-below (IsRedundantBy rows v h e) (redundant_decided v h e) e.pos) [
      | inr none ↦ judged_via v k e (record { hub = h; place = place; walked = walked; covered = covered; needed = λ q r. none q r.above r })
      | inl first ↦
          let q = first.number in
          let within : q < length at = All-contains (λ (x : Entry). x.pos < length at) (label_row rows v) (record { pos = q; dist = first.holds.meet.both.after }) (row_positions at rows v well from_one up_to_n) first.holds.meet.both.in_second in
          inr (Redundant v h (get_or at q 0), (refl, record { place = place; walked = walked; covered = covered; position = q; node = slice_get-get_or at q 0 within; redundant = first.holds; highest = first.least }))
    ]

    -- something is wrong with an entry, or nothing
    judged : (k : ℕ) (e : Entry) → slice_get (label_row rows v) k ≡ Some e → Judged v k e
    judged k e there =
        let within : e.pos < length at = All-contains (λ (x : Entry). x.pos < length at) (label_row rows v) e (row_positions at rows v well from_one up_to_n) (Contains-at (label_row rows v) k e there) in
        let h = get_or at e.pos 0 in
        let place : slice_get at e.pos ≡ Some h = slice_get-get_or at e.pos 0 within in
        elim (walked_decided v h e) [
          | inr none ↦ inr (NoWalk v h, (refl, record { place = place; none = none }))
          | inl walked ↦ elim (LeastNumber-below (IsUncoveredAt J rows v h e) (uncovered_decided v h e) (length at + 1)) [
            | inl first ↦ inr (NotCovered v first.number h, (refl, record { place = place; walked = walked; first = record { here = first.holds; least = first.least } }))
            | inr none ↦ judged_last k e h place walked (all_covered v h e none)
          ]
        ]

    -- the entry at a place of the row is at fault
    record FaultAt (k : ℕ) : Type 0 where
      entry : Entry
      there : slice_get (label_row rows v) k ≡ Some entry
      fault : Audit
      fault_of : IsFaultOf J at rows vias v k entry fault

    fault_at_decided : (k : ℕ) → FaultAt k ⊎ (FaultAt k → ⊥)
    fault_at_decided k = elim (cases_lt k (length (label_row rows v))) [
      | inr past ↦ inr (λ f. omega (arith, slice_get_within (label_row rows v) k f.entry f.there))
      | inl within ↦
          let e : Entry = get_or (label_row rows v) k (record { pos = 0; dist = 0 }) in
          let there : slice_get (label_row rows v) k ≡ Some e = slice_get-get_or (label_row rows v) k (record { pos = 0; dist = 0 }) within in
          elim (judged k e there) [
            | inr fault ↦ inl (record { entry = e; there = there; fault = fault.0; fault_of = fault.1 })
            | inl sound ↦ inr (λ f. fault_is_none J at rows vias v k f.entry f.fault f.fault_of (subst (IsSoundAt J at rows vias v k) (same_Some e f.entry (sym there ∙ f.there)) sound))
          ]
    ]

    sound_up_to : (end : ℕ) → ((k : ℕ) → k < end → FaultAt k → ⊥) → AreSoundUpTo J at rows vias v end
    sound_up_to end none k e before there = elim (judged k e there) [
      | inl sound ↦ sound
      | inr fault ↦ absurd (none k before (record { entry = e; there = there; fault = fault.0; fault_of = fault.1 }))
    ]

    -- the first entry of a row that is at fault, or none
    row_judged : ((fault : Audit) × IsFirstOfRow J at rows vias v fault) ⊎ IsSoundRow J at rows vias v
    row_judged = elim (LeastNumber-below FaultAt fault_at_decided (length (label_row rows v))) [
      | inr none ↦ inr (λ k e there. sound_up_to (length (label_row rows v)) none k e (slice_get_within (label_row rows v) k e there) there)
      | inl first ↦
          let f = first.holds in
          inl (f.fault, record { k = first.number; entry = f.entry; there = f.there; fault_of = f.fault_of; before = sound_up_to first.number (λ k lt bad. omega (arith, first.least k bad, lt)) })
    ]

  -- an entry of the row of v is at fault
  abbrev FaultyRow : ℕ → Type 0
  FaultyRow v = (1 ≤ v) × (v ≤ length at) × ((fault : Audit) × IsFirstOfRow J at rows vias v fault)

  not_faulty : (v : ℕ) → IsSoundRow J at rows vias v → FaultyRow v → ⊥
  not_faulty v sound faulty =
      let f = faulty.2.1 in
      fault_is_none J at rows vias v f.k f.entry faulty.2.0 f.fault_of (sound f.k f.entry f.there)

  faulty_decided : (v : ℕ) → FaultyRow v ⊎ (FaultyRow v → ⊥)
  faulty_decided v = elim (cases_lt v 1) [
    | inl zero_node ↦ inr (λ f. omega (arith, f.0, zero_node))
    | inr from_one ↦ elim (cases_lt (length at) v) [
      | inl past ↦ inr (λ f. omega (arith, f.1, past))
      | inr up_to_n ↦ elim (row_judged v from_one up_to_n) [
        | inl first ↦ inl (from_one, up_to_n, first)
        | inr sound ↦ inr (not_faulty v sound)
      ]
    ]
  ]

  sound_row : (v : ℕ) → 1 ≤ v → v ≤ length at → (FaultyRow v → ⊥) → IsSoundRow J at rows vias v
  sound_row v from_one up_to_n none = elim (row_judged v from_one up_to_n) [
    | inl first ↦ absurd (none (from_one, up_to_n, first))
    | inr sound ↦ sound
  ]

  -- the first fault of all, or none
  pub all_judged : ((fault : Audit) × IsFirstFault J at rows vias fault) ⊎ AreSoundBefore J at rows vias (length at + 1)
  all_judged = elim (LeastNumber-below FaultyRow faulty_decided (length at + 1)) [
    | inr none ↦ inr (λ v from_one below. sound_row v from_one (omega arith) (none v below))
    | inl least ↦
        inl (
          least.holds.2.0,
          record {
            v = least.number;
            from_one = least.holds.0;
            up_to_n = least.holds.1;
            rows_before = λ v from_one below. sound_row v from_one (omega (arith, below, least.holds.1)) (λ faulty. omega (arith, below, least.least v faulty));
            row = least.holds.2.1;
          },
        )
  ]

module _ (at others : List ℕ) where
  abbrev Differ : ℕ → Type 0
  Differ k = (k < length at) × (get_or at k 0 ≡ get_or others k 0 → ⊥)

  differ_decided : (k : ℕ) → Differ k ⊎ (Differ k → ⊥)
  differ_decided k = elim (cases_lt k (length at)) [
    | inr past ↦ inr (λ d. omega (arith, past, d.0))
    | inl within ↦ elim (cases_eq (get_or at k 0) (get_or others k 0)) [
      | inl same ↦ inr (λ d. d.1 same)
      | inr other ↦ inl (within, other)
    ]
  ]

  same_at : (k : ℕ) → k < length at → (Differ k → ⊥) → get_or at k 0 ≡ get_or others k 0
  same_at k within none = elim (cases_eq (get_or at k 0) (get_or others k 0)) [
    | inl same ↦ same
    | inr other ↦ absurd (none (within, other))
  ]

  same_before : (end : ℕ) → end < length at → ((k : ℕ) → Differ k → end ≤ k) → (k : ℕ) → k < length (take end at) → get_or (take end at) k 0 ≡ get_or (take end others) k 0
  same_before end within least k lt =
      let below : k < end = omega (arith, length-take-le end at (omega (arith, within)), lt) in
      get_or-take end at k 0 below ∙ same_at k (omega (arith, below, within)) (λ d. omega (arith, least k d, below)) ∙ sym (get_or-take end others k 0 below)

  -- two orders of one size are one, or part somewhere
  order_judged : length others ≡ length at → ((place : ℕ) × PartAt at others place) ⊎ (others ≡ at)
  order_judged size = elim (LeastNumber-below Differ differ_decided (length at)) [
    | inl first ↦ inl (
      first.number,
      record {
        within = first.holds.0;
        before = ext_get_or 0 (take first.number at) (take first.number others) (length-take-le first.number at (omega (arith, first.holds.0)) ∙ sym (length-take-le first.number others (omega (arith, first.holds.0, size)))) (same_before first.number first.holds.0 first.least);
        here = λ same. first.holds.1 (same_Some (get_or at first.number 0) (get_or others first.number 0) (sym (slice_get-get_or at first.number 0 first.holds.0) ∙ same ∙ slice_get-get_or others first.number 0 (omega (arith, first.holds.0, size))));
      },
    )
    | inr none ↦ inr (sym (ext_get_or 0 at others (sym size) (λ k lt. same_at k lt (none k lt))))
  ]

-- a fault of a via is answered where there are vias
astray_answer : (graph : WeightedGraph) (at : List ℕ) (index : HubIndex) (vias : Option (List (List ℕ))) (v hub want : ℕ) → IsOfOrder graph at index → IsFirstFault (Joined graph.edges) at index.rows vias (WrongVia v hub want) → IsAuditWith graph at index (WrongVia v hub want) vias
astray_answer graph at index None v hub want order f = absurd (f.row.fault_of.1.other tt)
astray_answer graph at index (Some vias) v hub want order f = (order, f)

module _ (graph : WeightedGraph) (at : List ℕ) (index : HubIndex) (vias : Option (List (List ℕ))) where
  pub answer_of_fault : (fault : Audit) → IsOfOrder graph at index → IsFirstFault (Joined graph.edges) at index.rows vias fault → IsAuditWith graph at index fault vias
  answer_of_fault Same order f = absurd f.row.fault_of
  answer_of_fault (Sizes nodes rows) order f = absurd f.row.fault_of
  answer_of_fault (OrderDiffers place) order f = absurd f.row.fault_of
  answer_of_fault (NoWalk v hub) order f = (order, f)
  answer_of_fault (NotCovered v to hub) order f = (order, f)
  answer_of_fault (Redundant v hub by) order f = (order, f)
  answer_of_fault (WrongVia v hub want) order f = astray_answer graph at index vias v hub want order f

  module _ (is : IsGraph graph.n graph.edges) (size : length at ≡ graph.n) (well : IsWellFormed index.order index.rows) where
    of_order : IsOfOrder graph at index → (answer : Audit) × IsAuditWith graph at index answer vias
    of_order order =
        elim (all_judged graph.edges at (subst (λ n. All (IsEdge n) graph.edges) (sym size) is.edge) index.rows (subst (λ o. IsWellFormed o index.rows) order.order well) vias) [
          | inl first ↦ (first.0, answer_of_fault first.0 order first.1)
          | inr sound ↦ (Same, (order, sound))
        ]

    pub answer_exists : (answer : Audit) × IsAuditWith graph at index answer vias
    answer_exists = elim (cases_eq graph.n (length index.order)) [
      | inr other ↦ (Sizes graph.n (length index.order), (refl, refl, other))
      | inl same ↦ elim (order_judged at index.order (omega (arith, same, size))) [
        | inl part ↦ (OrderDiffers part.0, (sym same, part.1))
        | inr order ↦ of_order (record { size = sym same; order = order })
      ]
    ]

pub audit_exists : (graph : WeightedGraph) (at : List ℕ) (index : HubIndex) → IsGraph graph.n graph.edges → length at ≡ graph.n → IsWellFormed index.order index.rows → (answer : Audit) × IsAuditOf graph at index answer
audit_exists graph at index = answer_exists graph at index None

pub traced_audit_exists : (graph : WeightedGraph) (at : List ℕ) (index : TracedHubIndex) → IsGraph graph.n graph.edges → length at ≡ graph.n → IsWellFormed index.order index.rows → (answer : Audit) × IsTracedAuditOf graph at index answer
traced_audit_exists graph at index = answer_exists graph at (index_in index) (Some index.vias)
