-- What an offer's answer says of the root and its node: none of walk lengths covers a canonical entry, and over rows with all higher hubs every other is covered.
use Rattle.std.proofs.Common.{◌≡◌, ◌⊎◌, inl, inr, ℕ, ◌<◌, ◌≤◌, Option, List, [], ◌∷◌, All, Contains, get_or, sym, ap, subst, ◌∙◌, arith}
use Rattle.std.specs.Prelude.{Some, slice_get}
use Rattle.std.proofs.lemmas.Bool.{cases_eq, cases_lt}
use Rattle.std.proofs.lemmas.Option.{slice_get_within, get_or_from_slice_get}
use Rattle.std.proofs.lemmas.List.Elements.{All-contains}
use Rattle.walk_laws.specs.declared.entry.Entry.{Entry}
use Rattle.walk_laws.specs.Canonical.{IsCanonical}
use Rattle.walk_laws.specs.Cover.{CoveringHub}
use Rattle.walk_laws.specs.Labelling.{EntryFits}
use Rattle.walk_laws.specs.Ranking.{IsRanking, RanksAbove, position_of}
use Rattle.walk_laws.specs.Walk.{HasWalk}
use Rattle.walk_laws.proofs.CanonicalHubs.{IsCanonical-no_cover}
use Rattle.walk_laws.proofs.Members.{Contains-first, Contains-next, Contains-cons_cases, Contains-empty}
use Rattle.walk_laws.proofs.Positions.{position-get_or, slice_get-at_position}
use Rattle.hub_index.specs.RootDistances.{root_distance, IsCover, IsLeastAt, HoldsRow}
use Rattle.pruned_tree.specs.Grown.{HoldsHigher}

abbrev pub at_position : ℕ → ℕ → Entry
at_position p d = record { pos = p; dist = d }

-- a row with an entry at a position has a least one there
least_or_none : (row : List Entry) (q : ℕ) → ((a : ℕ) × IsLeastAt row q a) ⊎ ((a : ℕ) → Contains row (at_position q a) → ⊥)
least_or_none [] q = inr (λ a there. Contains-empty (at_position q a) there)
least_or_none (e ∷ row) q =
    elim (least_or_none row q) [
      | inl least ↦ elim (cases_eq e.pos q) [
        | inl here ↦ elim (cases_lt e.dist least.0) [
          | inl lower ↦ inl (
            e.dist,
            record {
              there = subst (λ p. Contains (e ∷ row) (at_position p e.dist)) here (Contains-first e row);
              least = λ a there. elim (Contains-cons_cases e (at_position q a) row there) [
                | inl same ↦ let dist = ap (λ (x : Entry). x.dist) same in omega (arith, dist)
                | inr later ↦ omega (arith, lower, least.1.least a later)
              ];
            },
          )
          | inr higher ↦ inl (
            least.0,
            record {
              there = Contains-next e (at_position q least.0) row least.1.there;
              least = λ a there. elim (Contains-cons_cases e (at_position q a) row there) [
                | inl same ↦ let dist = ap (λ (x : Entry). x.dist) same in omega (arith, dist, higher)
                | inr later ↦ least.1.least a later
              ];
            },
          )
        ]
        | inr other ↦ inl (
          least.0,
          record {
            there = Contains-next e (at_position q least.0) row least.1.there;
            least = λ a there. elim (Contains-cons_cases e (at_position q a) row there) [
              | inl same ↦ absurd (other (ap (λ (x : Entry). x.pos) same))
              | inr later ↦ least.1.least a later
            ];
          },
        )
      ]
      | inr none ↦ elim (cases_eq e.pos q) [
        | inl here ↦ inl (
          e.dist,
          record {
            there = subst (λ p. Contains (e ∷ row) (at_position p e.dist)) here (Contains-first e row);
            least = λ a there. elim (Contains-cons_cases e (at_position q a) row there) [
              | inl same ↦ let dist = ap (λ (x : Entry). x.dist) same in omega (arith, dist)
              | inr later ↦ absurd (none a later)
            ];
          },
        )
        | inr other ↦ inr (λ a there. elim (Contains-cons_cases e (at_position q a) row there) [
          | inl same ↦ other (ap (λ (x : Entry). x.pos) same)
          | inr later ↦ none a later
        ])
      ]
    ]

-- so a table that holds the row has that position at no greater distance
pub table_has : (table : List (Option ℕ)) (row : List Entry) (q a : ℕ) → HoldsRow table row → Contains row (at_position q a) → (b : ℕ) × (root_distance table q ≡ Some b) × (b ≤ a)
table_has table row q a held there = elim (least_or_none row q) [
  | inl least ↦ (least.0, (held q least.0).1 least.1, least.1.least a there)
  | inr none ↦ absurd (none a there)
]

module _ (J : ℕ → ℕ → ℕ → Type 0) (at : List ℕ) (h p : ℕ) (ranking : IsRanking at) (root : slice_get at p ≡ Some h) (position : position_of at h ≡ p) (table : List (Option ℕ)) (first : List Entry) (held : HoldsRow table first) where
  -- an entry that fits covers no canonical one
  pub no_cover : ((x y w : ℕ) → J x y w → J y x w) → All (EntryFits J at h) first → (v d : ℕ) (row : List Entry) (e : Entry) → All (EntryFits J at v) row → IsCanonical J at h v d → Contains row e → IsCover table p d e → ⊥
  no_cover symmetric first_fits v d row e fits hub there cover =
      let least = (held e.pos cover.root).0 cover.held in
      let to_root = All-contains (EntryFits J at h) first (at_position e.pos cover.root) first_fits least.there in
      let to_node = All-contains (EntryFits J at v) row e fits there in
      let both : Some to_node.walk.0 ≡ Some to_root.walk.0 = sym to_node.walk.1 ∙ to_root.walk.1 in
      let same : to_node.walk.0 ≡ to_root.walk.0 = cc in
      let within = slice_get_within at e.pos to_root.walk.0 to_root.walk.1 in
      let is : get_or at e.pos 0 ≡ to_root.walk.0 = get_or_from_slice_get at e.pos to_root.walk.0 0 to_root.walk.1 in
      let place : position_of at to_root.walk.0 ≡ e.pos = ap (position_of at) (sym is) ∙ position-get_or at e.pos 0 ranking.once within in
      let above : RanksAbove at to_root.walk.0 h = omega (arith, place, position, cover.above) in
      IsCanonical-no_cover J at symmetric h v to_root.walk.0 d cover.root e.dist hub above to_root.walk.2 (subst (λ q. HasWalk J q v e.dist) same to_node.walk.2) cover.short

  -- a covering hub is found in rows that have all higher hubs
  pub cover_found : (rows : ℕ → List Entry) → HoldsHigher J at p rows → 1 ≤ h → ((e : Entry) → Contains (rows h) e → Contains first e) → (v d : ℕ) (row : List Entry) → 1 ≤ v → ((e : Entry) → Contains (rows v) e → Contains row e) → CoveringHub J at h v d → (e : Entry) × Contains row e × IsCover table p d e
  cover_found rows higher h_from_one seen_first v d row from_one seen_row cover =
      let above : position_of at cover.hub < p = omega (arith, cover.above, position) in
      let within = slice_get_within at p h root in
      let stands : slice_get at (position_of at cover.hub) ≡ Some cover.hub = slice_get-at_position at cover.hub (omega (arith, above, within)) in
      let at_root = seen_first (at_position (position_of at cover.hub) cover.before) (higher h (at_position (position_of at cover.hub) cover.before) h_from_one above (cover.hub, stands, cover.to_start)) in
      let at_node = seen_row (at_position (position_of at cover.hub) cover.after) (higher v (at_position (position_of at cover.hub) cover.after) from_one above (cover.hub, stands, cover.to_end)) in
      let kept = table_has table first (position_of at cover.hub) cover.before held at_root in
      (at_position (position_of at cover.hub) cover.after, at_node, record { above = above; root = kept.0; held = kept.1; short = omega (arith, kept.2, cover.short) })
