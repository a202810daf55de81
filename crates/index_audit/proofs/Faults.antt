-- An index is answered one thing only.
use Rattle.std.proofs.Common.{◌≡◌, ◌≢◌, ℕ, ◌+◌, ◌<◌, ◌≤◌, List, Option, Some, None, length, get_or, take, slice_get, refl, sym, ap, subst, ◌∙◌, inl, inr, arith}
use Rattle.std.proofs.lemmas.Bool.{cases_lt}
use Rattle.std.proofs.lemmas.List.{get_or-take, length-take-le}
use Rattle.std.proofs.lemmas.Option.{same_Some, slice_get-get_or, get_or_from_slice_get}
use Rattle.walk_laws.specs.declared.entry.Entry.{Entry}
use Rattle.walk_laws.specs.Graph.{WeightedGraph}
use Rattle.walk_laws.specs.Joined.{Joined}
use Rattle.walk_laws.specs.Labelling.{label_row}
use Rattle.hub_index.specs.HubIndex.{HubIndex}
use Rattle.entry_vias.specs.RowVias.{TracedHubIndex}
use Rattle.index_audit.specs.declared.answer.Audit.{Audit}
use Rattle.index_audit.specs.declared.answer.Audit.TheVariants.{Same, Sizes, OrderDiffers, NoWalk, NotCovered, Redundant, WrongVia}
use Rattle.index_audit.specs.Checks.{IsWalked, IsCovered, IsUncoveredAt, IsRedundantBy, IsSoundEntry}
use Rattle.index_audit.specs.Audited.{LacksWalk, LacksCover, IsNeedless, GoesAstray, IsFaultOf, IsSoundAt, AreSoundBefore, IsFirstFault, IsOfOrder, PartAt, IsAuditWith, IsAuditOf}
use Rattle.index_audit.specs.TracedAudits.{index_in, IsTracedAuditOf}
use Rattle.index_audit.proofs.OneEntry.{one_via}

-- what is before a place is what it is in the whole
slice_get-before : {X : Type 0} (xs : List X) (end k : ℕ) (x : X) → k < end → end ≤ length xs → slice_get xs k ≡ Some x → slice_get (take end xs) k ≡ Some x
slice_get-before xs end k x lt within is =
    slice_get-get_or (take end xs) k x (omega (arith, length-take-le end xs within)) ∙ ap Some (get_or-take end xs k x lt ∙ get_or_from_slice_get xs k x x is)

module _ (J : ℕ → ℕ → ℕ → Type 0) (at : List ℕ) (rows : List (List Entry)) (vias : Option (List (List ℕ))) where
  -- nothing is wrong with an entry at which no check fails
  pub fault_is_none : (v k : ℕ) (e : Entry) (fault : Audit) → IsFaultOf J at rows vias v k e fault → IsSoundAt J at rows vias v k e → ⊥
  fault_is_none v k e Same f s = f
  fault_is_none v k e (Sizes graph index) f s = f
  fault_is_none v k e (OrderDiffers place) f s = f
  fault_is_none v k e (NoWalk node hub) f s =
      f.1.none (subst (λ h. IsWalked J rows v h e) (same_Some s.sound.hub hub (sym s.sound.place ∙ f.1.place)) s.sound.walked)
  fault_is_none v k e (NotCovered node to hub) f s =
      f.1.first.here.none (subst (λ h. IsCovered J rows v h e) (same_Some s.sound.hub hub (sym s.sound.place ∙ f.1.place)) s.sound.covered to f.1.first.here.weight f.1.first.here.arc)
  fault_is_none v k e (Redundant node hub by) f s =
      s.sound.needed f.1.position (subst (λ h. IsRedundantBy rows v h e f.1.position) (same_Some hub s.sound.hub (sym f.1.place ∙ s.sound.place)) f.1.redundant)
  fault_is_none v k e (WrongVia node hub want) f s = f.1.other (s.via want f.1.wanted)

  module _ (v place : ℕ) (e : Entry) where
    same_hub : (h k : ℕ) → slice_get at e.pos ≡ Some h → slice_get at e.pos ≡ Some k → h ≡ k
    same_hub h k is also = same_Some h k (sym is ∙ also)

    walk_and_none : (h k : ℕ) → LacksWalk J at rows v h e → slice_get at e.pos ≡ Some k → IsWalked J rows v k e → ⊥
    walk_and_none h k none place walked = none.none (subst (λ x. IsWalked J rows v x e) (same_hub k h place none.place) walked)

    cover_and_none : (to h k : ℕ) → LacksCover J at rows v to h e → slice_get at e.pos ≡ Some k → IsCovered J rows v k e → ⊥
    cover_and_none to h k none place covered =
        none.first.here.none (subst (λ x. IsCovered J rows v x e) (same_hub k h place none.place) covered to none.first.here.weight none.first.here.arc)

    needless_and_none : (h by : ℕ) → IsNeedless J at rows v h by e → IsSoundEntry J at rows v e → ⊥
    needless_and_none h by f s = s.needed f.position (subst (λ x. IsRedundantBy rows v x e f.position) (same_hub h s.hub f.place s.place) f.redundant)

    as_no_walk : (hub : ℕ) → LacksWalk J at rows v hub e → (other : Audit) → IsFaultOf J at rows vias v place e other → NoWalk v hub ≡ other
    as_no_walk hub f Same g = absurd g
    as_no_walk hub f (Sizes graph index) g = absurd g
    as_no_walk hub f (OrderDiffers place) g = absurd g
    as_no_walk hub f (NoWalk node other) g = let a : node ≡ v = g.0 in let b : hub ≡ other = same_hub hub other f.place g.1.place in cc
    as_no_walk hub f (NotCovered node to other) g = absurd (walk_and_none hub other f g.1.place g.1.walked)
    as_no_walk hub f (Redundant node other by) g = absurd (walk_and_none hub other f g.1.place g.1.walked)
    as_no_walk hub f (WrongVia node other want) g = absurd (walk_and_none hub g.1.sound.hub f g.1.sound.place g.1.sound.walked)

    as_not_covered : (to hub : ℕ) → LacksCover J at rows v to hub e → (other : Audit) → IsFaultOf J at rows vias v place e other → NotCovered v to hub ≡ other
    as_not_covered to hub f Same g = absurd g
    as_not_covered to hub f (Sizes graph index) g = absurd g
    as_not_covered to hub f (OrderDiffers place) g = absurd g
    as_not_covered to hub f (NoWalk node other) g = absurd (walk_and_none other hub g.1 f.place f.walked)
    as_not_covered to hub f (NotCovered node end other) g =
        let a : node ≡ v = g.0 in
        let b : hub ≡ other = same_hub hub other f.place g.1.place in
        let first : to ≤ end = f.first.least end (subst (λ h. IsUncoveredAt J rows v h e end) (sym b) g.1.first.here) in
        let second : end ≤ to = g.1.first.least to (subst (λ h. IsUncoveredAt J rows v h e to) b f.first.here) in
        let d : to ≡ end = omega (arith, first, second) in
        cc
    as_not_covered to hub f (Redundant node other by) g = absurd (cover_and_none to hub other f g.1.place g.1.covered)
    as_not_covered to hub f (WrongVia node other want) g = absurd (cover_and_none to hub g.1.sound.hub f g.1.sound.place g.1.sound.covered)

    as_redundant : (hub by : ℕ) → IsNeedless J at rows v hub by e → (other : Audit) → IsFaultOf J at rows vias v place e other → Redundant v hub by ≡ other
    as_redundant hub by f Same g = absurd g
    as_redundant hub by f (Sizes graph index) g = absurd g
    as_redundant hub by f (OrderDiffers place) g = absurd g
    as_redundant hub by f (NoWalk node other) g = absurd (walk_and_none other hub g.1 f.place f.walked)
    as_redundant hub by f (NotCovered node to other) g = absurd (cover_and_none to other hub g.1 f.place f.covered)
    as_redundant hub by f (Redundant node other also) g =
        let a : node ≡ v = g.0 in
        let b : hub ≡ other = same_hub hub other f.place g.1.place in
        let first : f.position ≤ g.1.position = f.highest g.1.position (subst (λ h. IsRedundantBy rows v h e g.1.position) (sym b) g.1.redundant) in
        let second : g.1.position ≤ f.position = g.1.highest f.position (subst (λ h. IsRedundantBy rows v h e f.position) b f.redundant) in
        let level : f.position ≡ g.1.position = omega (arith, first, second) in
        let d : by ≡ also = same_Some by also (sym f.node ∙ ap (slice_get at) level ∙ g.1.node) in
        cc
    as_redundant hub by f (WrongVia node other want) g = absurd (needless_and_none hub by f g.1.sound)

    as_astray : (hub want : ℕ) → GoesAstray J at rows vias v hub want place e → (other : Audit) → IsFaultOf J at rows vias v place e other → WrongVia v hub want ≡ other
    as_astray hub want f Same g = absurd g
    as_astray hub want f (Sizes graph index) g = absurd g
    as_astray hub want f (OrderDiffers place) g = absurd g
    as_astray hub want f (NoWalk node other) g = absurd (walk_and_none other f.sound.hub g.1 f.sound.place f.sound.walked)
    as_astray hub want f (NotCovered node to other) g = absurd (cover_and_none to other f.sound.hub g.1 f.sound.place f.sound.covered)
    as_astray hub want f (Redundant node other by) g = absurd (needless_and_none other by g.1 f.sound)
    as_astray hub want f (WrongVia node other also) g =
        let a : node ≡ v = g.0 in
        let b : hub ≡ other = same_hub hub other f.place g.1.place in
        let d : want ≡ also = one_via J rows v e want also f.wanted g.1.wanted in
        cc

    -- one thing is wrong with an entry
    one_fault : (fault other : Audit) → IsFaultOf J at rows vias v place e fault → IsFaultOf J at rows vias v place e other → fault ≡ other
    one_fault Same other f g = absurd f
    one_fault (Sizes graph index) other f g = absurd f
    one_fault (OrderDiffers place) other f g = absurd f
    one_fault (NoWalk node hub) other f g = ap (λ x. NoWalk x hub) f.0 ∙ as_no_walk hub f.1 other g
    one_fault (NotCovered node to hub) other f g = ap (λ x. NotCovered x to hub) f.0 ∙ as_not_covered to hub f.1 other g
    one_fault (Redundant node hub by) other f g = ap (λ x. Redundant x hub by) f.0 ∙ as_redundant hub by f.1 other g
    one_fault (WrongVia node hub want) other f g = ap (λ x. WrongVia x hub want) f.0 ∙ as_astray hub want f.1 other g

  -- the first fault is none of those after it
  not_before : (fault other : Audit) → (a : IsFirstFault J at rows vias fault) → (b : IsFirstFault J at rows vias other) → a.v < b.v → ⊥
  not_before fault other a b lt = fault_is_none a.v a.row.k a.row.entry fault a.row.fault_of (b.rows_before a.v a.from_one lt a.row.k a.row.entry a.row.there)

  not_before_in_row : (fault other : Audit) → (a : IsFirstFault J at rows vias fault) → (b : IsFirstFault J at rows vias other) → a.v ≡ b.v → a.row.k < b.row.k → ⊥
  not_before_in_row fault other a b same lt =
      let there : slice_get (label_row rows b.v) a.row.k ≡ Some a.row.entry = subst (λ v. slice_get (label_row rows v) a.row.k ≡ Some a.row.entry) same a.row.there in
      fault_is_none a.v a.row.k a.row.entry fault a.row.fault_of
      (subst (λ v. IsSoundAt J at rows vias v a.row.k a.row.entry) (sym same) (b.row.before a.row.k a.row.entry lt there))

  same_place : (fault other : Audit) → (a : IsFirstFault J at rows vias fault) → (b : IsFirstFault J at rows vias other) → a.v ≡ b.v → a.row.k ≡ b.row.k → fault ≡ other
  same_place fault other a b same level =
      let there : slice_get (label_row rows a.v) a.row.k ≡ Some b.row.entry = subst (λ k. slice_get (label_row rows a.v) k ≡ Some b.row.entry) (sym level) (subst (λ v. slice_get (label_row rows v) b.row.k ≡ Some b.row.entry) (sym same) b.row.there) in
      let entries : b.row.entry ≡ a.row.entry = same_Some b.row.entry a.row.entry (sym there ∙ a.row.there) in
      let of_b : IsFaultOf J at rows vias a.v b.row.k b.row.entry other = subst (λ v. IsFaultOf J at rows vias v b.row.k b.row.entry other) (sym same) b.row.fault_of in
      let at_a : IsFaultOf J at rows vias a.v a.row.k b.row.entry other = subst (λ k. IsFaultOf J at rows vias a.v k b.row.entry other) (sym level) of_b in
      one_fault a.v a.row.k a.row.entry fault other a.row.fault_of (subst (λ e. IsFaultOf J at rows vias a.v a.row.k e other) entries at_a)

  one_first_fault : (fault other : Audit) → IsFirstFault J at rows vias fault → IsFirstFault J at rows vias other → fault ≡ other
  one_first_fault fault other a b = elim (cases_lt a.v b.v) [
    | inl before ↦ absurd (not_before fault other a b before)
    | inr not_before_it ↦ elim (cases_lt b.v a.v) [
      | inl after ↦ absurd (not_before other fault b a after)
      | inr level ↦
          let same : a.v ≡ b.v = omega (arith, not_before_it, level) in
          elim (cases_lt a.row.k b.row.k) [
            | inl before ↦ absurd (not_before_in_row fault other a b same before)
            | inr not_in_prefix ↦ elim (cases_lt b.row.k a.row.k) [
              | inl after ↦ absurd (not_before_in_row other fault b a (sym same) after)
              | inr even ↦ same_place fault other a b same (omega (arith, not_in_prefix, even))
            ]
          ]
    ]
  ]

  -- and there is none where nothing is wrong
  no_first_fault : (fault : Audit) → IsFirstFault J at rows vias fault → AreSoundBefore J at rows vias (length at + 1) → ⊥
  no_first_fault fault a sound = fault_is_none a.v a.row.k a.row.entry fault a.row.fault_of (sound a.v a.from_one (omega (arith, a.up_to_n)) a.row.k a.row.entry a.row.there)

-- two orders part at one place
part_not_before : (at others : List ℕ) (p q : ℕ) → length at ≡ length others → PartAt at others p → PartAt at others q → p < q → ⊥
part_not_before at others p q size a b lt =
    let x = get_or at p 0 in
    let here : slice_get at p ≡ Some x = slice_get-get_or at p 0 a.within in
    let taken : slice_get (take q others) p ≡ Some x = subst (λ (xs : List ℕ). slice_get xs p ≡ Some x) b.before (slice_get-before at q p x lt (omega (arith, b.within)) here) in
    let there : slice_get others p ≡ Some (get_or others p 0) = slice_get-get_or others p 0 (omega (arith, size, a.within)) in
    let also : slice_get (take q others) p ≡ Some (get_or others p 0) = slice_get-before others q p (get_or others p 0) lt (omega (arith, size, b.within)) there in
    a.here (here ∙ sym taken ∙ also ∙ sym there)

one_parting : (at others : List ℕ) (p q : ℕ) → length at ≡ length others → PartAt at others p → PartAt at others q → p ≡ q
one_parting at others p q size a b = elim (cases_lt p q) [
  | inl before ↦ absurd (part_not_before at others p q size a b before)
  | inr not_before_it ↦ elim (cases_lt q p) [
    | inl after ↦ absurd (part_not_before at others q p size b a after)
    | inr level ↦ omega (arith, not_before_it, level)
  ]
]

-- an answer of a wrong via is that of an index with vias, of the order
pub astray_parts : (graph : WeightedGraph) (at : List ℕ) (index : HubIndex) (vias : Option (List (List ℕ))) (v hub want : ℕ) → IsAuditWith graph at index (WrongVia v hub want) vias → IsOfOrder graph at index × IsFirstFault (Joined graph.edges) at index.rows vias (WrongVia v hub want)
astray_parts graph at index None v hub want f = absurd f
astray_parts graph at index (Some vias) v hub want f = f

module _ (graph : WeightedGraph) (at : List ℕ) (index : HubIndex) (vias : Option (List (List ℕ))) (size : length at ≡ graph.n) where
  abbrev Answers : Audit → Type 0
  Answers answer = IsAuditWith graph at index answer vias

  sizes_and_order : (nodes rows : ℕ) → nodes ≡ graph.n → rows ≡ length index.order → nodes ≢ rows → length index.order ≡ graph.n → ⊥
  sizes_and_order nodes rows a b differ same = differ (omega (arith, a, b, same))

  order_and_parting : (place : ℕ) → IsOfOrder graph at index → PartAt at index.order place → ⊥
  order_and_parting place same part = part.here (ap (λ (xs : List ℕ). slice_get xs place) (sym same.order))

  abbrev First : Audit → Type 0
  First fault = IsFirstFault (Joined graph.edges) at index.rows vias fault

  astray : (v hub want : ℕ) → Answers (WrongVia v hub want) → IsOfOrder graph at index × First (WrongVia v hub want)
  astray = astray_parts graph at index vias

  one_first : (fault other : Audit) → First fault → First other → fault ≡ other
  one_first = one_first_fault (Joined graph.edges) at index.rows vias

  none_first : (fault : Audit) → First fault → Answers Same → ⊥
  none_first fault f g = no_first_fault (Joined graph.edges) at index.rows vias fault f g.1

  as_fault : (fault : Audit) → IsOfOrder graph at index → First fault → (other : Audit) → Answers other → fault ≡ other
  as_fault fault order f Same g = absurd (none_first fault f g)
  as_fault fault order f (Sizes nodes rows) g = absurd (sizes_and_order nodes rows g.0 g.1 g.2 order.size)
  as_fault fault order f (OrderDiffers place) g = absurd (order_and_parting place order g.1)
  as_fault fault order f (NoWalk v hub) g = one_first fault (NoWalk v hub) f g.1
  as_fault fault order f (NotCovered v to hub) g = one_first fault (NotCovered v to hub) f g.1
  as_fault fault order f (Redundant v hub by) g = one_first fault (Redundant v hub by) f g.1
  as_fault fault order f (WrongVia v hub want) g = one_first fault (WrongVia v hub want) f (astray v hub want g).1

  as_same : Answers Same → (other : Audit) → Answers other → Same ≡ other
  as_same f Same g = refl
  as_same f (Sizes nodes rows) g = absurd (sizes_and_order nodes rows g.0 g.1 g.2 f.0.size)
  as_same f (OrderDiffers place) g = absurd (order_and_parting place f.0 g.1)
  as_same f (NoWalk v hub) g = absurd (none_first (NoWalk v hub) g.1 f)
  as_same f (NotCovered v to hub) g = absurd (none_first (NotCovered v to hub) g.1 f)
  as_same f (Redundant v hub by) g = absurd (none_first (Redundant v hub by) g.1 f)
  as_same f (WrongVia v hub want) g = absurd (none_first (WrongVia v hub want) (astray v hub want g).1 f)

  as_sizes : (nodes rows : ℕ) → Answers (Sizes nodes rows) → (other : Audit) → Answers other → Sizes nodes rows ≡ other
  as_sizes nodes rows f Same g = absurd (sizes_and_order nodes rows f.0 f.1 f.2 g.0.size)
  as_sizes nodes rows f (Sizes others last) g = let a : nodes ≡ others = f.0 ∙ sym g.0 in let b : rows ≡ last = f.1 ∙ sym g.1 in cc
  as_sizes nodes rows f (OrderDiffers place) g = absurd (sizes_and_order nodes rows f.0 f.1 f.2 g.0)
  as_sizes nodes rows f (NoWalk v hub) g = absurd (sizes_and_order nodes rows f.0 f.1 f.2 g.0.size)
  as_sizes nodes rows f (NotCovered v to hub) g = absurd (sizes_and_order nodes rows f.0 f.1 f.2 g.0.size)
  as_sizes nodes rows f (Redundant v hub by) g = absurd (sizes_and_order nodes rows f.0 f.1 f.2 g.0.size)
  as_sizes nodes rows f (WrongVia v hub want) g = absurd (sizes_and_order nodes rows f.0 f.1 f.2 (astray v hub want g).0.size)

  as_parting : (place : ℕ) → Answers (OrderDiffers place) → (other : Audit) → Answers other → OrderDiffers place ≡ other
  as_parting place f Same g = absurd (order_and_parting place g.0 f.1)
  as_parting place f (Sizes nodes rows) g = absurd (sizes_and_order nodes rows g.0 g.1 g.2 f.0)
  as_parting place f (OrderDiffers also) g = ap OrderDiffers (one_parting at index.order place also (omega (arith, size, f.0)) f.1 g.1)
  as_parting place f (NoWalk v hub) g = absurd (order_and_parting place g.0 f.1)
  as_parting place f (NotCovered v to hub) g = absurd (order_and_parting place g.0 f.1)
  as_parting place f (Redundant v hub by) g = absurd (order_and_parting place g.0 f.1)
  as_parting place f (WrongVia v hub want) g = absurd (order_and_parting place (astray v hub want g).0 f.1)

  pub one_answer : (answer other : Audit) → Answers answer → Answers other → answer ≡ other
  one_answer Same other f g = as_same f other g
  one_answer (Sizes nodes rows) other f g = as_sizes nodes rows f other g
  one_answer (OrderDiffers place) other f g = as_parting place f other g
  one_answer (NoWalk v hub) other f g = as_fault (NoWalk v hub) f.0 f.1 other g
  one_answer (NotCovered v to hub) other f g = as_fault (NotCovered v to hub) f.0 f.1 other g
  one_answer (Redundant v hub by) other f g = as_fault (Redundant v hub by) f.0 f.1 other g
  one_answer (WrongVia v hub want) other f g = let parts = astray v hub want f in as_fault (WrongVia v hub want) parts.0 parts.1 other g

pub audit_unique : (graph : WeightedGraph) (at : List ℕ) (index : HubIndex) → length at ≡ graph.n → (answer other : Audit) → IsAuditOf graph at index answer → IsAuditOf graph at index other → answer ≡ other
audit_unique graph at index = one_answer graph at index None

pub traced_audit_unique : (graph : WeightedGraph) (at : List ℕ) (index : TracedHubIndex) → length at ≡ graph.n → (answer other : Audit) → IsTracedAuditOf graph at index answer → IsTracedAuditOf graph at index other → answer ≡ other
traced_audit_unique graph at index = one_answer graph at (index_in index) (Some index.vias)
