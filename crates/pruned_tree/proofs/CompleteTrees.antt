-- A pruned tree puts every canonical entry of its root, and over rows that have all higher hubs no other.
use Rattle.std.proofs.Common.{◌≡◌, ◌≢◌, ◌⊎◌, inl, inr, ℕ, zero, suc, ◌+◌, ◌<◌, ◌≤◌, List, [], ◌∷◌, ◌++◌, Contains, length, sym, ap, subst, ◌∙◌, arith}
use Rattle.std.specs.Prelude.{Some, slice_get}
use Rattle.std.proofs.lemmas.Bool.{cases_eq, cases_lt}
use Rattle.std.proofs.lemmas.Option.{slice_get-get_or}
use Rattle.walk_laws.specs.declared.entry.Entry.{Entry}
use Rattle.walk_laws.specs.declared.graph.Arc.{Arc}
use Rattle.walk_laws.specs.Canonical.{IsCanonical}
use Rattle.walk_laws.specs.Ranking.{position_of}
use Rattle.walk_laws.proofs.CanonicalHubs.{IsCanonical-inherited, IsCanonical-ranked}
use Rattle.walk_laws.proofs.LeastWalks.{IsLeast-unique}
use Rattle.walk_laws.proofs.OnWalks.{IsOn-start, IsOn-end, IsOn-last, IsOn-step}
use Rattle.frontier.specs.declared.reach.Found.{Found}
use Rattle.frontier.specs.declared.reach.Reach.{Reach}
use Rattle.frontier.specs.declared.reach.Reach.TheVariants.{Queued}
use Rattle.frontier.specs.Reaches.{reach_at, settled}
use Rattle.pruned_tree.specs.declared.bare.Bare.{Bare}
use Rattle.pruned_tree.specs.Grown.{Gains, HoldsHigher}
use Rattle.pruned_tree.specs.Relaxed.{HasDistance, IsSettledAt, IsRelaxed}
use Rattle.pruned_tree.proofs.OfferedNodes.{has_distance, queued_or_settled, queued_distance, not_settled, settle_is, settle_new, settle_keeps}
use Rattle.pruned_tree.proofs.GrownRows.{IsGrowth, not_gained, one_gain}

-- where an arc leads from a node that gained its entry is a node no farther than by the arc, or settled; a settled node of which the root is a hub gained its entry; and over rows that have all higher hubs no other gained one
pub record IsComplete (J : ℕ → ℕ → ℕ → Type 0) (at : List ℕ) (h p : ℕ) (before rows : ℕ → List Entry) (nodes : List (Reach Bare)) (puts : ℕ → List Entry) : Type 0 where
  pub root : HasDistance (reach_at nodes h) 0
  pub relaxed : (y d : ℕ) → IsSettledAt (reach_at nodes y) d → Gains before puts p y d → (x w : ℕ) → J y x w → p ≤ position_of at x → (e : ℕ) × HasDistance (reach_at nodes x) e × ((e ≤ d + w) ⊎ IsSettledAt (reach_at nodes x) e)
  pub canonical : (x d c : ℕ) → IsSettledAt (reach_at nodes x) d → IsCanonical J at h x c → (d ≡ c) × Gains before puts p x c
  pub exact : (x d : ℕ) → 1 ≤ x → Gains before puts p x d → HoldsHigher J at p rows → IsCanonical J at h x d

module _ (J : ℕ → ℕ → ℕ → Type 0) (positive : (x y w : ℕ) → J x y w → 1 ≤ w) (at : List ℕ) (h p : ℕ) (position : position_of at h ≡ p) (before rows : ℕ → List Entry) (nodes : List (Reach Bare)) (puts : ℕ → List Entry) (complete : IsComplete J at h p before rows nodes puts) where
  -- a node of which the root is a hub is settled, or a queued node is no farther
  near : (k v d : ℕ) → d < k → IsCanonical J at h v d → ((e : ℕ) × IsSettledAt (reach_at nodes v) e) ⊎ ((x : ℕ) × (f : Found Bare) × (reach_at nodes x ≡ Queued f) × (f.dist ≤ d))
  near zero v d less hub = absurd (omega arith)
  near (suc k) v d less hub = elim (IsOn-last J h h v (IsOn-start J h v d hub.least)) [
    | inl here ↦ elim (queued_or_settled (reach_at nodes h) 0 complete.root) [
      | inl done ↦ inl (0, subst (λ x. IsSettledAt (reach_at nodes x) 0) here done)
      | inr queued ↦ inr (h, queued.0, queued.1, omega (arith, queued.2))
    ]
    | inr last ↦
        let long : last.before + last.weight ≡ d = IsLeast-unique J h v (last.before + last.weight) d last.whole hub.least in
        let on = IsOn-step J h last.node last.node v last.weight last.before (IsOn-end J h last.node last.before last.least) last.least last.arc last.whole in
        let hub_before : IsCanonical J at h last.node last.before = IsCanonical-inherited J at h last.node v last.before d hub on last.least in
        elim (near k last.node last.before (omega (arith, long, less, positive last.node v last.weight last.arc)) hub_before) [
          | inl done ↦
              let gained = complete.canonical last.node done.0 last.before done.1 hub_before in
              let settled_there : IsSettledAt (reach_at nodes last.node) last.before = subst (IsSettledAt (reach_at nodes last.node)) gained.0 done.1 in
              let low : p ≤ position_of at v = not_above v d hub in
              let reached = complete.relaxed last.node last.before settled_there gained.1 v last.weight last.arc low in
              elim (queued_or_settled (reach_at nodes v) reached.0 reached.1) [
                | inl here ↦ inl (reached.0, here)
                | inr queued ↦ elim reached.2 [
                  | inl close ↦ inr (v, queued.0, queued.1, omega (arith, queued.2, close, long))
                  | inr here ↦ inl (reached.0, here)
                ]
              ]
          | inr queued ↦ inr (queued.0, queued.1, queued.2, omega (arith, queued.3, long))
        ]
  ]
    where
      not_above : (v d : ℕ) → IsCanonical J at h v d → p ≤ position_of at v
      not_above v d hub = elim (cases_lt (position_of at v) p) [
        | inl above ↦ absurd (IsCanonical-ranked J at h v d hub (omega (arith, above, position)))
        | inr low ↦ low
      ]

  -- with an empty queue each is settled, and gained its entry
  pub all_gained : ((x : ℕ) (f : Found Bare) → reach_at nodes x ≡ Queued f → ⊥) → (v d : ℕ) → IsCanonical J at h v d → Gains before puts p v d
  all_gained empty v d hub = elim (near (suc d) v d (omega arith) hub) [
    | inl done ↦ (complete.canonical v done.0 d done.1 hub).1
    | inr queued ↦ absurd (empty queued.0 queued.1 queued.2)
  ]

  module _ (grown : IsGrowth J at h p before nodes puts) (v : ℕ) (f : Found Bare) (queued : reach_at nodes v ≡ Queued f) (nearest : (x : ℕ) (g : Found Bare) → reach_at nodes x ≡ Queued g → f.dist ≤ g.dist) where
    -- the nearest queued node is at its least distance, where the root is a hub of it
    pub next_is_least : (c : ℕ) → IsCanonical J at h v c → f.dist ≡ c
    next_is_least c hub = elim (near (suc c) v c (omega arith) hub) [
      | inl done ↦ absurd (not_settled (reach_at nodes v) f done.0 queued done.1)
      | inr other ↦ omega (arith, nearest other.0 other.1 other.2, other.3, hub.least.none_shorter f.dist (grown.walk v f.dist (queued_distance (reach_at nodes v) f queued)))
    ]

    -- nothing is put at it, as the root is no hub of it
    pub IsComplete-over : puts v ≡ before v → ((c : ℕ) → IsCanonical J at h v c → ⊥) → (others : ℕ → List Entry) → ((x : ℕ) → 1 ≤ x → others x ≡ puts x) → IsComplete J at h p before rows (settled nodes v f) others
    IsComplete-over none no_hub others same = record {
      root = settle_is nodes v f queued h 0 complete.root;
      relaxed = λ y d done gained x w arc low. elim (settle_new nodes v f queued y d done) [
        | inl old ↦
            let y_from_one = grown.from_one y d (has_distance (reach_at nodes y) d old.1) in
            let was = complete.relaxed y d old.1 (sym (same y y_from_one) ∙ gained) x w arc low in
            (was.0, settle_is nodes v f queued x was.0 was.1, elim was.2 [ inl close ↦ inl close | inr here ↦ inr (settle_keeps nodes v f queued x was.0 here) ])
        | inr new ↦
            let v_from_one = grown.from_one v f.dist (queued_distance (reach_at nodes v) f queued) in
            absurd (not_gained J at h p before puts v d none (sym (same v v_from_one) ∙ subst (λ z. Gains before others p z d) new.0 gained))
      ];
      canonical = λ x d c done hub. elim (settle_new nodes v f queued x d done) [
        | inl old ↦
            let was = complete.canonical x d c old.1 hub in
            (was.0, same x (grown.from_one x d (has_distance (reach_at nodes x) d old.1)) ∙ was.1)
        | inr new ↦ absurd (no_hub c (subst (λ z. IsCanonical J at h z c) new.0 hub))
      ];
      exact = λ x d from_one gained higher. complete.exact x d from_one (sym (same x from_one) ∙ gained) higher;
    }

    -- its entry is put, and its arcs are gone along
    module _ (v_from_one : 1 ≤ v) (none : puts v ≡ before v) (others : ℕ → List Entry) (put : others v ≡ puts v ++ record { pos = p; dist = f.dist } ∷ []) (same : (x : ℕ) → 1 ≤ x → x ≢ v → others x ≡ puts x) (is_hub : HoldsHigher J at p rows → IsCanonical J at h v f.dist) (row : List Arc) (arcs : (x w : ℕ) → J v x w → Contains row (record { to = x; w = w })) (after : List (Reach Bare)) (relaxed : IsRelaxed at p f.dist (length row) row (settled nodes v f) after) where
      gained_here : Gains before others p v f.dist
      gained_here = put ∙ ap (λ xs. xs ++ record { pos = p; dist = f.dist } ∷ []) none

      -- a node that was settled before is another one, and its entries stay
      gained_before : (x d : ℕ) → 1 ≤ x → x ≢ v → Gains before others p x d → Gains before puts p x d
      gained_before x d from_one other gained = sym (same x from_one other) ∙ gained

      root_now : (e : ℕ) → HasDistance (reach_at after h) e × (e ≤ 0) → HasDistance (reach_at after h) 0
      root_now e there = let is : e ≡ 0 = omega (arith, there.1) in subst (HasDistance (reach_at after h)) is there.0

      along : (x w : ℕ) → J v x w → p ≤ position_of at x → (e : ℕ) × HasDistance (reach_at after x) e × ((e ≤ f.dist + w) ⊎ IsSettledAt (reach_at after x) e)
      along x w arc low =
          let there = arcs x w arc in
          let read : slice_get row there.0 ≡ Some (record { to = x; w = w }) = slice_get-get_or row there.0 (record { to = x; w = w }) there.1 ∙ ap Some there.2 in
          relaxed.lowered there.0 (record { to = x; w = w }) there.1 read low

      pub IsComplete-put : IsComplete J at h p before rows after others
      IsComplete-put = record {
        root =
            let there = relaxed.kept h 0 (settle_is nodes v f queued h 0 complete.root) in
            root_now there.0 (there.1, there.2);
        relaxed = λ y d done gained x w arc low. elim (settle_new nodes v f queued y d ((relaxed.settled y d).0 done)) [
          | inl old ↦
              let y_from_one = grown.from_one y d (has_distance (reach_at nodes y) d old.1) in
              let was = complete.relaxed y d old.1 (gained_before y d y_from_one old.0 gained) x w arc low in
              elim was.2 [
                | inl close ↦
                    let now = relaxed.kept x was.0 (settle_is nodes v f queued x was.0 was.1) in
                    (now.0, now.1, inl (omega (arith, now.2, close)))
                | inr here ↦
                    let still = (relaxed.settled x was.0).1 (settle_keeps nodes v f queued x was.0 here) in
                    (was.0, has_distance (reach_at after x) was.0 still, inr still)
              ]
          | inr new ↦
              let now = along x w (subst (λ z. J z x w) new.0 arc) low in
              (now.0, now.1, elim now.2 [ inl close ↦ inl (omega (arith, close, new.1)) | inr here ↦ inr here ])
        ];
        canonical = λ x d c done hub. elim (settle_new nodes v f queued x d ((relaxed.settled x d).0 done)) [
          | inl old ↦
              let was = complete.canonical x d c old.1 hub in
              (was.0, same x (grown.from_one x d (has_distance (reach_at nodes x) d old.1)) old.0 ∙ was.1)
          | inr new ↦
              let least : f.dist ≡ c = next_is_least c (subst (λ z. IsCanonical J at h z c) new.0 hub) in
              (new.1 ∙ least, subst (λ z. Gains before others p z c) (sym new.0) (subst (Gains before others p v) least gained_here))
        ];
        exact = λ x d from_one gained higher. elim (cases_eq x v) [
          | inl here ↦
              let is : f.dist ≡ d = one_gain J at h p before others v f.dist d gained_here (subst (λ z. Gains before others p z d) here gained) in
              subst (λ z. IsCanonical J at h z d) (sym here) (subst (IsCanonical J at h v) is (is_hub higher))
          | inr other ↦ complete.exact x d from_one (gained_before x d from_one other gained) higher
        ];
      }
