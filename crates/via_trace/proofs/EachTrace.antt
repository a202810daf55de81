-- Two rows and the vias on the way tell some trace, since each step leads nearer to the hub.
use Rattle.std.specs.Prelude.{slice_get, Some, None, reverse}
use Rattle.std.proofs.Common.{◌≡◌, ◌⊎◌, ℕ, zero, suc, ◌+◌, ◌<◌, ◌≤◌, List, [], ◌∷◌, ◌++◌, Contains, Option, length, drop, get_or, refl, sym, ap, subst, ◌∙◌, inl, inr, arith}
use Rattle.std.proofs.lemmas.Bool.{cases_lt, cases_eq}
use Rattle.std.proofs.lemmas.Option.{slice_get-get_or, same_Some}
use Rattle.walk_laws.specs.declared.entry.Entry.{Entry}
use Rattle.walk_laws.specs.Labelling.{label_row}
use Rattle.walk_laws.specs.Meet.{IsMeet}
use Rattle.walk_laws.proofs.Search.{Found-decided}
use Rattle.hub_index.specs.WellFormed.{IsWellFormed}
use Rattle.hub_query.proofs.Meetings.{meet_exists}
use Rattle.entry_vias.specs.RowVias.{TracedHubIndex, HaveVias, via_row}
use Rattle.via_trace.specs.declared.trace_answer.Trace.{Trace}
use Rattle.via_trace.specs.declared.trace_answer.Trace.TheVariants.{Unreachable, Broken, Walk}
use Rattle.via_trace.specs.Traces.{entry_at, GoesBy, StepsOn, ComesBy, BreaksAt, MeetBy, IsTraceOf}
use Rattle.via_trace.proofs.RowFacts.{one_distance, own_at_zero, via_is_node}
use Rattle.via_trace.proofs.Ways.{meet_by}

module _ (index : TracedHubIndex) (well : IsWellFormed index.order index.rows) (have : HaveVias index.rows index.vias) where
  module _ (p hub : ℕ) (place : slice_get index.order p ≡ Some hub) where
    -- an entry has a via
    goes_by : (x d : ℕ) → 1 ≤ x → x ≤ length index.order → Contains (label_row index.rows x) (entry_at p d) → (y : ℕ) × GoesBy index p x d y
    goes_by x d from_one up_to_n there =
        let row = label_row index.rows x in
        let vias = via_row index.vias x in
        let beside = have.row x from_one (omega (arith, up_to_n, well.size)) in (
          get_or vias there.0 0,
          record {
            place = there.0;
            entry = slice_get-get_or row there.0 (entry_at p d) there.1 ∙ ap Some there.2;
            via = slice_get-get_or vias there.0 0 (omega (arith, there.1, beside.size));
          },
        )

    -- the row of y has the position at a distance below d
    abbrev IsNearerAt : ℕ → ℕ → Type 0
    IsNearerAt y d = (e : ℕ) × Contains (label_row index.rows y) (entry_at p e) × (e < d)

    nearer_decided : (y d : ℕ) → 1 ≤ y → y ≤ length index.order → IsNearerAt y d ⊎ ((e : ℕ) → Contains (label_row index.rows y) (entry_at p e) → e < d → ⊥)
    nearer_decided y d from_one up_to_n =
        let row = label_row index.rows y in
        elim (Found-decided (λ (x : Entry). x.pos ≡ p) row (λ x _. cases_eq x.pos p)) [
          | inr none ↦ inr (λ e stands _. none (entry_at p e) stands refl)
          | inl found ↦
              let f = found.element.dist in
              let there : Contains (label_row index.rows y) (entry_at p found.element.dist) = subst (λ q. Contains (label_row index.rows y) (entry_at q found.element.dist)) found.holds found.there in
              elim (cases_lt f d) [
                | inl nearer ↦ inl (f, there, nearer)
                | inr no_nearer ↦ inr (λ e stands nearer. omega (arith, one_distance index well y from_one up_to_n p found.element.dist e there stands, nearer, no_nearer))
              ]
        ]

    -- from x one comes to the hub, or the way breaks
    abbrev IsWay : ℕ → ℕ → Type 0
    IsWay x d = ((nodes : List ℕ) × ComesBy index p x d nodes hub 0) ⊎ ((y : ℕ) × BreaksAt index p x d y)

    way_from : (bound x d : ℕ) → d < bound → 1 ≤ x → x ≤ length index.order → Contains (label_row index.rows x) (entry_at p d) → IsWay x d
    way_from zero x d below from_one up_to_n there = absurd (omega (arith, below))
    way_from (suc bound) x d below from_one up_to_n there = elim (cases_eq d 0) [
      | inl none ↦
          let own : slice_get index.order p ≡ Some x = own_at_zero index well x from_one up_to_n p (subst (λ e. Contains (label_row index.rows x) (entry_at p e)) none there) in
          inl ([], (same_Some x hub (sym own ∙ place), none))
      | inr some ↦
          let far : 1 ≤ d = omega (arith, some) in
          let via = goes_by x d from_one up_to_n there in
          let node = via_is_node index well x from_one up_to_n have p d via.0 far via.1 in
          elim (nearer_decided via.0 d node.0 node.1) [
            | inr none ↦ inr (x, record { nodes = []; rest = d; comes = (refl, refl); broken = record { far = far; via = via.0; goes = via.1; none = λ e s. none e s.there s.nearer } })
            | inl on ↦
                let step : StepsOn index p x d via.0 on.0 = record { goes = via.1; there = on.1; nearer = on.2 } in
                elim (way_from bound via.0 on.0 (omega (arith, on.2, below)) node.0 node.1 on.1) [
                  | inl rest ↦ inl (via.0 ∷ rest.0, (on.0, step, rest.1))
                  | inr breaks ↦ inr (breaks.0, record { nodes = via.0 ∷ breaks.1.nodes; rest = breaks.1.rest; comes = (on.0, step, breaks.1.comes); broken = breaks.1.broken })
                ]
          ]
    ]

  module _ (u v : ℕ) (u_node : 1 ≤ u) (u_within : u ≤ length index.order) (v_node : 1 ≤ v) (v_within : v ≤ length index.order) where
    trace_by_meet : (hub p a b : ℕ) → MeetBy index u v hub p a b → (told : Trace) × IsTraceOf index u v told
    trace_by_meet hub p a b m = elim (way_from p hub m.place (suc a) u a (omega arith) u_node u_within m.from_u) [
      | inr breaks ↦ (Broken breaks.0 hub, record { p = p; a = a; b = b; meet = m; breaks = inl breaks.1 })
      | inl forth ↦ elim (way_from p hub m.place (suc b) v b (omega arith) v_node v_within m.from_v) [
        | inr breaks ↦ (Broken breaks.0 hub, record { p = p; a = a; b = b; meet = m; breaks = inr (forth, breaks.1) })
        | inl back ↦ (
          Walk (a + b) ((u ∷ forth.0) ++ drop 1 (reverse (v ∷ back.0))),
          record { hub = hub; p = p; a = a; b = b; meet = m; long = refl; forth = forth.0; back = back.0; to_hub = forth.1; from_hub = back.1; whole = refl },
        )
      ]
    ]

    trace_by_answer : (answer : Option (ℕ × ℕ)) → IsMeet index.order index.rows u v answer → (told : Trace) × IsTraceOf index u v told
    trace_by_answer None meet = (Unreachable, meet)
    trace_by_answer (Some (d, hub)) meet = trace_by_meet hub meet.0 meet.2.sum.before meet.2.sum.after (meet_by index u v hub d meet.0 well meet meet.1)

    pub trace_exists : (told : Trace) × IsTraceOf index u v told
    trace_exists =
        let told = meet_exists index.order index.rows u v well u_node u_within v_node v_within in
        trace_by_answer told.0 told.1
