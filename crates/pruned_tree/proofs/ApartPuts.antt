-- What a tree has put is shorter than each way by a hub above its root that was seen in the lists of the root and of the node.
use Rattle.std.proofs.Common.{◌≡◌, ◌≢◌, inl, inr, ℕ, ◌<◌, ◌≤◌, Option, List, [], ◌∷◌, ◌++◌, Contains, refl, sym, ap, subst, ◌∙◌, arith}
use Rattle.std.proofs.lemmas.Bool.{cases_eq, cases_lt}
use Rattle.walk_laws.specs.declared.entry.Entry.{Entry}
use Rattle.walk_laws.specs.Meet.{HasSum}
use Rattle.hub_index.specs.RootDistances.{IsCover, HoldsRow}
use Rattle.hub_index.specs.Views.{IsFound}
use Rattle.hub_index.proofs.FoundRows.{StandsIn-still}
use Rattle.pruned_tree.specs.Grown.{Gains}
use Rattle.pruned_tree.proofs.CoveredRoots.{table_has}
use Rattle.pruned_tree.proofs.GrownRows.{not_gained, one_gain}
use Rattle.pruned_tree.proofs.TreeRounds.{StillStand}

-- no hub above the position p that both lists have makes a way as short as d
abbrev pub IsShorter : ℕ → List Entry → List Entry → ℕ → Type 0
IsShorter p first second d = (q s : ℕ) → HasSum first second q s → q < p → d < s

-- of the root h, with its own list and that of each node that gained an entry
abbrev pub AreApart : ℕ → ℕ → (ℕ → List Entry) → (ℕ → List Entry) → (ℕ → List Entry) → Type 0
AreApart h p rows before puts = (v d : ℕ) → 1 ≤ v → Gains before puts p v d → IsShorter p (rows h) (rows v) d

-- lists that hold more share more
pub IsShorter-fewer : (p : ℕ) (first second more others : List Entry) (d : ℕ) → ((e : Entry) → Contains first e → Contains more e) → ((e : Entry) → Contains second e → Contains others e) → IsShorter p more others d → IsShorter p first second d
IsShorter-fewer p first second more others d in_first in_second shorter q s sum above =
    shorter q s (record { before = sum.before; after = sum.after; in_first = in_first (record { pos = q; dist = sum.before }) sum.in_first; in_second = in_second (record { pos = q; dist = sum.after }) sum.in_second; long = sum.long }) above

-- where the table has the first list, and no entry of the row covers
pub IsShorter-uncovered : (p : ℕ) (table : List (Option ℕ)) (first row : List Entry) (d : ℕ) → HoldsRow table first → ((e : Entry) → Contains row e → ¬ IsCover table p d e) → IsShorter p first row d
IsShorter-uncovered p table first row d held uncovered q s sum above = elim (cases_lt d s) [
  | inl less ↦ less
  | inr short ↦
      let root = table_has table first q sum.before held sum.in_first in
      absurd (uncovered (record { pos = q; dist = sum.after }) sum.in_second (record { above = above; root = root.0; held = root.1; short = omega (arith, root.2, sum.long, short) }))
]

module _ (J : ℕ → ℕ → ℕ → Type 0) (at : List ℕ) (h p : ℕ) (rows before : ℕ → List Entry) where
  -- nothing was put yet
  pub AreApart-start : AreApart h p rows before before
  AreApart-start v d from_one gained = absurd (not_gained J at h p before before v d refl gained)

  module _ (puts : ℕ → List Entry) (apart : AreApart h p rows before puts) (others : ℕ → List Entry) where
    -- nothing is put
    pub AreApart-same : ((x : ℕ) → 1 ≤ x → others x ≡ puts x) → AreApart h p rows before others
    AreApart-same same v d from_one gained = apart v d from_one (sym (same v from_one) ∙ gained)

    -- an entry is put at a node of which the row was found, where no entry of it covers
    pub AreApart-put : (seen : ℕ → List Entry) (fact : Entry → Type 0) (table : List (Option ℕ)) → HoldsRow table (rows h) → StillStand rows seen → (v d : ℕ) (row : List Entry) → IsFound fact (seen v) row → ((e : Entry) → Contains row e → ¬ IsCover table p d e)
        → puts v ≡ before v → others v ≡ puts v ++ record { pos = p; dist = d } ∷ [] → ((x : ℕ) → 1 ≤ x → x ≢ v → others x ≡ puts x) → AreApart h p rows before others
    AreApart-put seen fact table held stand v d row found uncovered none put same x e from_one gained = elim (cases_eq x v) [
      | inl here ↦
          let gained_here : Gains before others p v d = put ∙ ap (λ xs. xs ++ record { pos = p; dist = d } ∷ []) none in
          let is : d ≡ e = one_gain J at h p before others v d e gained_here (subst (λ z. Gains before others p z e) here gained) in
          let v_from_one : 1 ≤ v = subst (λ z. 1 ≤ z) here from_one in
          let shorter : IsShorter p (rows h) (rows v) d =
          IsShorter-fewer p (rows h) (rows v) (rows h) row d (λ y there. there) (λ y there. StandsIn-still (seen v) row y found.still (stand v y v_from_one there)) (IsShorter-uncovered p table (rows h) row d held uncovered) in
          subst (λ z. IsShorter p (rows h) (rows z) e) (sym here) (subst (IsShorter p (rows h) (rows v)) is shorter)
      | inr other ↦ apart x e from_one (sym (same x from_one other) ∙ gained)
    ]
