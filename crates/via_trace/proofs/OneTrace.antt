-- Two rows and the vias on the way tell one trace at most.
use Rattle.std.specs.Prelude.{slice_get, Some, None, reverse}
use Rattle.std.proofs.Common.{◌≡◌, ℕ, ◌+◌, ◌≤◌, List, [], ◌∷◌, ◌++◌, Contains, length, drop, refl, sym, ap, subst, ◌∙◌, inl, inr, arith}
use Rattle.std.proofs.lemmas.Option.{same_Some}
use Rattle.walk_laws.specs.Ranking.{position_of}
use Rattle.walk_laws.specs.Labelling.{label_row}
use Rattle.walk_laws.specs.Meet.{IsMeet}
use Rattle.walk_laws.proofs.CommonHubs.{IsMeet-unique}
use Rattle.hub_index.specs.WellFormed.{IsWellFormed}
use Rattle.entry_vias.specs.RowVias.{TracedHubIndex, HaveVias, via_row}
use Rattle.via_trace.specs.declared.trace_answer.Trace.{Trace}
use Rattle.via_trace.specs.declared.trace_answer.Trace.TheVariants.{Unreachable, Broken, Walk}
use Rattle.via_trace.specs.Traces.{entry_at, GoesBy, StepsOn, ComesBy, IsBroken, BreaksAt, MeetBy, IsTraced, IsBrokenTrace, IsTraceOf}
use Rattle.via_trace.proofs.RowFacts.{place_of, one_place, one_distance, via_is_node}

module _ (index : TracedHubIndex) (well : IsWellFormed index.order index.rows) (have : HaveVias index.rows index.vias) where
  module _ (p : ℕ) where
    -- from x, whose row has the position at distance d, no step leads on
    abbrev IsEnd : ℕ → ℕ → Type 0
    IsEnd x d = (y e : ℕ) → StepsOn index p x d y e → ⊥

    -- an entry has one via
    one_via : (x d e y z : ℕ) → 1 ≤ x → x ≤ length index.order → GoesBy index p x d y → GoesBy index p x e z → y ≡ z
    one_via x d e y z from_one up_to_n a b =
        let same : a.place ≡ b.place = one_place index well x from_one up_to_n a.place b.place (entry_at p d) (entry_at p e) a.entry b.entry refl in
        same_Some y z (sym a.via ∙ ap (slice_get (via_row index.vias x)) same ∙ b.via)

    -- no step leads on from the hub, nor from where the way breaks
    ends_at_hub : (x : ℕ) → IsEnd x 0
    ends_at_hub x y e s = omega (arith, s.nearer)

    ends_where_broken : (x d : ℕ) → 1 ≤ x → x ≤ length index.order → IsBroken index p x d → IsEnd x d
    ends_where_broken x d from_one up_to_n b y e s =
        b.none e (subst (λ z. StepsOn index p x d z e) (one_via x d d y b.via from_one up_to_n s.goes b.goes) s)

    -- a step leads to a node
    node_after : (x d y e : ℕ) → 1 ≤ x → x ≤ length index.order → StepsOn index p x d y e → (1 ≤ y) × (y ≤ length index.order)
    node_after x d y e from_one up_to_n s = via_is_node index well x from_one up_to_n have p d y (omega (arith, s.nearer)) s.goes

    -- so the whole way ends at a node
    node_at_end : (nodes : List ℕ) (x d y e : ℕ) → 1 ≤ x → x ≤ length index.order → ComesBy index p x d nodes y e → (1 ≤ y) × (y ≤ length index.order)
    node_at_end [] x d y e from_one up_to_n comes = (omega (arith, from_one, comes.0), omega (arith, up_to_n, comes.0))
    node_at_end (w ∷ nodes) x d y e from_one up_to_n comes =
        let node = node_after x d w comes.0 from_one up_to_n comes.1 in
        node_at_end nodes w comes.0 y e node.0 node.1 comes.2

    -- one way leads from a node to an end
    one_way : (first second : List ℕ) (x d y e z f : ℕ) → 1 ≤ x → x ≤ length index.order → ComesBy index p x d first y e → ComesBy index p x d second z f → IsEnd y e → IsEnd z f → (y ≡ z) × (e ≡ f) × (first ≡ second)
    one_way [] [] x d y e z f from_one up_to_n a b ends other_ends = (sym a.0 ∙ b.0, sym a.1 ∙ b.1, refl)
    one_way [] (w ∷ second) x d y e z f from_one up_to_n a b ends other_ends =
        absurd (ends w b.0 (subst (λ i. StepsOn index p i e w b.0) a.0 (subst (λ g. StepsOn index p x g w b.0) a.1 b.1)))
    one_way (w ∷ first) [] x d y e z f from_one up_to_n a b ends other_ends =
        absurd (other_ends w a.0 (subst (λ i. StepsOn index p i f w a.0) b.0 (subst (λ g. StepsOn index p x g w a.0) b.1 a.1)))
    one_way (w ∷ first) (t ∷ second) x d y e z f from_one up_to_n a b ends other_ends =
        let same : w ≡ t = one_via x d d w t from_one up_to_n a.1.goes b.1.goes in
        let node = node_after x d w a.0 from_one up_to_n a.1 in
        let there : Contains (label_row index.rows w) (entry_at p b.0) = subst (λ i. Contains (label_row index.rows i) (entry_at p b.0)) (sym same) b.1.there in
        let level : a.0 ≡ b.0 = one_distance index well w node.0 node.1 p a.0 b.0 a.1.there there in
        let comes : ComesBy index p w a.0 second z f = subst (λ g. ComesBy index p w g second z f) (sym level) (subst (λ i. ComesBy index p i b.0 second z f) (sym same) b.2) in
        let rest = one_way first second w a.0 y e z f node.0 node.1 a.2 comes ends other_ends in
        (rest.0, rest.1, ap (λ (l : List ℕ). w ∷ l) rest.2 ∙ ap (λ i. i ∷ second) same)

    -- a way that comes to the hub breaks nowhere
    comes_or_breaks : (nodes : List ℕ) (x d hub y : ℕ) → 1 ≤ x → x ≤ length index.order → ComesBy index p x d nodes hub 0 → BreaksAt index p x d y → ⊥
    comes_or_breaks nodes x d hub y from_one up_to_n comes b =
        let node = node_at_end b.nodes x d y b.rest from_one up_to_n b.comes in
        let same = one_way nodes b.nodes x d hub 0 y b.rest from_one up_to_n comes b.comes (ends_at_hub hub) (ends_where_broken y b.rest node.0 node.1 b.broken) in
        omega (arith, same.1, b.broken.far)

    -- and a way breaks at one node
    one_break : (x d y z : ℕ) → 1 ≤ x → x ≤ length index.order → BreaksAt index p x d y → BreaksAt index p x d z → y ≡ z
    one_break x d y z from_one up_to_n a b =
        let node = node_at_end a.nodes x d y a.rest from_one up_to_n a.comes in
        let other = node_at_end b.nodes x d z b.rest from_one up_to_n b.comes in
        (one_way a.nodes b.nodes x d y a.rest z b.rest from_one up_to_n a.comes b.comes (ends_where_broken y a.rest node.0 node.1 a.broken) (ends_where_broken z b.rest other.0 other.1 b.broken)).0

  -- the same ways, said of other names of the same numbers
  moved_way : (p q x d e hub top : ℕ) (nodes : List ℕ) → p ≡ q → d ≡ e → hub ≡ top → ComesBy index q x e nodes top 0 → ComesBy index p x d nodes hub 0
  moved_way p q x d e hub top nodes place level same comes =
      subst (λ r. ComesBy index r x d nodes hub 0) (sym place) (subst (λ g. ComesBy index q x g nodes hub 0) (sym level) (subst (λ z. ComesBy index q x e nodes z 0) (sym same) comes))

  moved_break : (p q x d e y : ℕ) → p ≡ q → d ≡ e → BreaksAt index q x e y → BreaksAt index p x d y
  moved_break p q x d e y place level b = subst (λ r. BreaksAt index r x d y) (sym place) (subst (λ g. BreaksAt index q x g y) (sym level) b)

  module _ (u v : ℕ) (u_node : 1 ≤ u) (u_within : u ≤ length index.order) (v_node : 1 ≤ v) (v_within : v ≤ length index.order) where
    -- two rows meet once
    record IsSameMeet (hub p a b top q c e : ℕ) : Type 0 where
      hubs : hub ≡ top
      places : p ≡ q
      from_u : a ≡ c
      from_v : b ≡ e

    same_meet : (hub p a b top q c e : ℕ) → MeetBy index u v hub p a b → MeetBy index u v top q c e → IsSameMeet hub p a b top q c e
    same_meet hub p a b top q c e first second =
        let pair : (a + b, hub) ≡ (c + e, top) = same_Some (a + b, hub) (c + e, top) (IsMeet-unique index.order index.rows u v (Some (a + b, hub)) (Some (c + e, top)) first.meet second.meet) in
        let hubs : hub ≡ top = ap (λ (x : ℕ × ℕ). x.1) pair in
        let places : p ≡ q = sym (place_of index.order p hub well.ranking first.place) ∙ ap (position_of index.order) hubs ∙ place_of index.order q top well.ranking second.place in
        record {
          hubs = hubs;
          places = places;
          from_u = one_distance index well u u_node u_within p a c first.from_u (subst (λ r. Contains (label_row index.rows u) (entry_at r c)) (sym places) second.from_u);
          from_v = one_distance index well v v_node v_within p b e first.from_v (subst (λ r. Contains (label_row index.rows v) (entry_at r e)) (sym places) second.from_v);
        }

    walks_same : (d e : ℕ) (xs ys : List ℕ) → IsTraced index u v d xs → IsTraced index u v e ys → (d ≡ e) × (xs ≡ ys)
    walks_same d e xs ys a b =
        let same = same_meet a.hub a.p a.a a.b b.hub b.p b.a b.b a.meet b.meet in
        let to_hub = moved_way a.p b.p u a.a b.a a.hub b.hub b.forth same.places same.from_u same.hubs b.to_hub in
        let from_hub = moved_way a.p b.p v a.b b.b a.hub b.hub b.back same.places same.from_v same.hubs b.from_hub in
        let forth : a.forth ≡ b.forth = (one_way a.p a.forth b.forth u a.a a.hub 0 a.hub 0 u_node u_within a.to_hub to_hub (ends_at_hub a.p a.hub) (ends_at_hub a.p a.hub)).2 in
        let back : a.back ≡ b.back = (one_way a.p a.back b.back v a.b a.hub 0 a.hub 0 v_node v_within a.from_hub from_hub (ends_at_hub a.p a.hub) (ends_at_hub a.p a.hub)).2 in (
          omega (arith, a.long, b.long, same.from_u, same.from_v),
          a.whole ∙ ap (λ (l : List ℕ). (u ∷ l) ++ drop 1 (reverse (v ∷ a.back))) forth ∙ ap (λ (l : List ℕ). (u ∷ b.forth) ++ drop 1 (reverse (v ∷ l))) back ∙ sym b.whole,
        )

    walk_or_broken : (d : ℕ) (xs : List ℕ) (x hub : ℕ) → IsTraced index u v d xs → IsBrokenTrace index u v x hub → ⊥
    walk_or_broken d xs x hub a b =
        let same = same_meet a.hub a.p a.a a.b hub b.p b.a b.b a.meet b.meet in
        elim b.breaks [
          | inl first ↦ comes_or_breaks a.p a.forth u a.a a.hub x u_node u_within a.to_hub (moved_break a.p b.p u a.a b.a x same.places same.from_u first)
          | inr second ↦ comes_or_breaks a.p a.back v a.b a.hub x v_node v_within a.from_hub (moved_break a.p b.p v a.b b.b x same.places same.from_v second.1)
        ]

    broken_same : (x y hub top : ℕ) → IsBrokenTrace index u v x hub → IsBrokenTrace index u v y top → (x ≡ y) × (hub ≡ top)
    broken_same x y hub top a b =
        let same = same_meet hub a.p a.a a.b top b.p b.a b.b a.meet b.meet in
        let at : x ≡ y = elim a.breaks [
          | inl first ↦ elim b.breaks [
            | inl other ↦ one_break a.p u a.a x y u_node u_within first (moved_break a.p b.p u a.a b.a y same.places same.from_u other)
            | inr comes ↦ absurd (comes_or_breaks a.p comes.0.0 u a.a hub x u_node u_within (moved_way a.p b.p u a.a b.a hub top comes.0.0 same.places same.from_u same.hubs comes.0.1) first)
          ]
          | inr second ↦ elim b.breaks [
            | inl other ↦ absurd (comes_or_breaks a.p second.0.0 u a.a hub y u_node u_within second.0.1 (moved_break a.p b.p u a.a b.a y same.places same.from_u other))
            | inr comes ↦ one_break a.p v a.b x y v_node v_within second.1 (moved_break a.p b.p v a.b b.b y same.places same.from_v comes.1)
          ]
        ] in
        (at, same.hubs)

    apart_or_met : (hub p a b : ℕ) → IsMeet index.order index.rows u v None → MeetBy index u v hub p a b → ⊥
    apart_or_met hub p a b none m = none m.meet.0 (a + b) m.meet.2.sum

    pub trace_unique : (told other : Trace) → IsTraceOf index u v told → IsTraceOf index u v other → told ≡ other
    trace_unique Unreachable Unreachable a b = refl
    trace_unique Unreachable (Walk d xs) a b = absurd (apart_or_met b.hub b.p b.a b.b a b.meet)
    trace_unique Unreachable (Broken x hub) a b = absurd (apart_or_met hub b.p b.a b.b a b.meet)
    trace_unique (Walk d xs) Unreachable a b = absurd (apart_or_met a.hub a.p a.a a.b b a.meet)
    trace_unique (Walk d xs) (Walk e ys) a b =
        let same = walks_same d e xs ys a b in
        ap (λ i. Walk i xs) same.0 ∙ ap (λ l. Walk e l) same.1
    trace_unique (Walk d xs) (Broken x hub) a b = absurd (walk_or_broken d xs x hub a b)
    trace_unique (Broken x hub) Unreachable a b = absurd (apart_or_met hub a.p a.a a.b b a.meet)
    trace_unique (Broken x hub) (Walk d xs) a b = absurd (walk_or_broken d xs x hub b a)
    trace_unique (Broken x hub) (Broken y top) a b =
        let same = broken_same x y hub top a b in
        ap (λ i. Broken i hub) same.0 ∙ ap (λ i. Broken y i) same.1
