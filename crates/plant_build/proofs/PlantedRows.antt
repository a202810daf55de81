-- What a planted tree gives the row of a node.
use Rattle.std.proofs.Common.{take, ◌≡◌, ◌≢◌, ◌⊎◌, inl, inr, ℕ, suc, ◌+◌, ◌<◌, ◌≤◌, true, false, cond, List, [], ◌∷◌, ◌++◌, map, filter, length, All, get_or, refl, sym, ap, subst, ◌∙◌, arith}
use Rattle.std.specs.Prelude.{◌==◌, Contains}
use Rattle.std.proofs.Math.Seq.{take-suc}
use Rattle.std.proofs.lemmas.Bool.{eqb-true, eq-eqb}
use Rattle.std.proofs.lemmas.Bool.Decides.{eqb_tells}
use Rattle.std.proofs.lemmas.List.{length-map, get_or-map, map-append}
use Rattle.std.proofs.lemmas.List.Elements.{filter-append}
use Rattle.walk_laws.proofs.Members.{Contains-first, Contains-next, Contains-cons_cases, Contains-empty}
use Rattle.walk_laws.specs.declared.entry.Entry.{Entry}
use Rattle.plant_tree.specs.Planted.{AreOfNodes, NamesEachOnce}
use Rattle.hub_index.specs.NodeEntries.{entry_if}
use Rattle.plant_build.specs.TreeEntries.{entries_of}
use Rattle.std.proofs.lemmas.Bool.Decides.{Decides-eqb}
use Rattle.std.proofs.lemmas.Map.Made.{IsDistinct-from_AllPairs}
use Rattle.std.proofs.lemmas.Map.Views.{Contains-from_any}
use Rattle.std.proofs.lemmas.Map.Steps.{length-le_from_distinct_below}

-- each entry that the row of v gets is of a node v of the list
pub entry_from : (p v : ℕ) (planted : List (ℕ × ℕ)) (e : Entry) → Contains (entries_of p v planted) e → (e.pos ≡ p) × Contains planted (v, e.dist)
entry_from p v [] e there = absurd (Contains-empty e there)
entry_from p v (g ∷ planted) e there =
    elim (g.0 == v) as (λ t. (g.0 == v) ≡ t → Contains (map (λ (x : ℕ × ℕ). record { pos = p; dist = x.1 }) (cond t (g ∷ filter (λ x. x.0 == v) planted) (filter (λ x. x.0 == v) planted))) e → (e.pos ≡ p) × Contains (g ∷ planted) (v, e.dist)) [
      | true ↦ λ is among. elim (Contains-cons_cases (record { pos = p; dist = g.1 }) e (entries_of p v planted) among) [
        | inl here ↦
            let node : g.0 ≡ v = eqb-true g.0 v is in
            let dist : g.1 ≡ e.dist = ap (λ (x : Entry). x.dist) here in
            (sym (ap (λ (x : Entry). x.pos) here), subst (λ y. Contains (g ∷ planted) y) (λ i. (node i, dist i)) (Contains-first g planted))
        | inr later ↦ let more = entry_from p v planted e later in (more.0, Contains-next g (v, e.dist) planted more.1)
      ]
      | false ↦ λ is among. let more = entry_from p v planted e among in (more.0, Contains-next g (v, e.dist) planted more.1)
    ] refl there

-- an entry from its two parts
abbrev seat : (p d : ℕ) → Entry
seat p d = record { pos = p; dist = d }

-- each node v of the list gives the row of v an entry
pub entry_to : (p v d : ℕ) (planted : List (ℕ × ℕ)) → Contains planted (v, d) → Contains (entries_of p v planted) (seat p d)
entry_to p v d [] there = absurd (Contains-empty (v, d) there)
entry_to p v d (g ∷ planted) there =
    elim (Contains-cons_cases g (v, d) planted there) [
      | inl here ↦
          let node : g.0 ≡ v = ap (λ (x : ℕ × ℕ). x.0) here in
          let dist : g.1 ≡ d = ap (λ (x : ℕ × ℕ). x.1) here in
          let first : Contains (seat p g.1 ∷ entries_of p v planted) (seat p d) = subst (λ y. Contains (seat p g.1 ∷ entries_of p v planted) (seat p y)) dist (Contains-first (seat p g.1) (entries_of p v planted)) in
          rw (eq-eqb g.0 v node) first
      | inr later ↦
          let more = entry_to p v d planted later in
          elim (eqb_tells g.0 v) [
            | inl same ↦ let next : Contains (seat p g.1 ∷ entries_of p v planted) (seat p d) = Contains-next (seat p g.1) (seat p d) (entries_of p v planted) more in rw same.0 next
            | inr other ↦ rw other.0 more
          ]
    ]

-- where no node is v, none gives it an entry
none_given : (p v : ℕ) (planted : List (ℕ × ℕ)) → All (λ x. v ≢ x) (map (λ e. e.0) planted) → entries_of p v planted ≡ []
none_given p v [] others = refl
none_given p v (g ∷ planted) others =
    let not_v : (g.0 == v) ≡ false = elim (eqb_tells g.0 v) [ inl same ↦ absurd (others 0 0 (omega arith) (sym same.1)) | inr differ ↦ differ.0 ] in
    rw not_v (none_given p v planted (λ k d h. others (suc k) d (omega arith)))

-- so a row gains one entry at the most
pub one_at_most : (p v : ℕ) (planted : List (ℕ × ℕ)) → NamesEachOnce planted → (entries_of p v planted ≡ []) ⊎ ((d : ℕ) × (entries_of p v planted ≡ record { pos = p; dist = d } ∷ []))
one_at_most p v [] once = inl refl
one_at_most p v (g ∷ planted) once = elim (eqb_tells g.0 v) [
  | inl here ↦
      let others : All (λ x. v ≢ x) (map (λ e. e.0) planted) = λ k d h same. once 0 (suc k) d (omega arith) (omega arith) (here.1 ∙ same) in
      inr (g.1, rw here.0 (ap (λ es. record { pos = p; dist = g.1 } ∷ es) (none_given p v planted others)))
  | inr other ↦ rw other.0 (one_at_most p v planted (λ i k d lt h. once (suc i) (suc k) d (omega arith) (omega arith)))
]

-- what one more node of the list gives
pub entries_more : (p v i : ℕ) (planted : List (ℕ × ℕ)) (z : ℕ × ℕ) → i < length planted → entries_of p v (take (i + 1) planted) ≡ entries_of p v (take i planted) ++ entries_of p v (get_or planted i z ∷ [])
entries_more p v i planted z lt =
    let next : i + 1 ≡ suc i = omega arith in
    rw (next, take-suc planted i z lt, filter-append (λ (x : ℕ × ℕ). x.0 == v) (take i planted) (get_or planted i z ∷ []), map-append) refl

-- entries of the nodes 1..n, no two of one node, are few
pub count_of_nodes : (n : ℕ) (planted : List (ℕ × ℕ)) → AreOfNodes n planted → NamesEachOnce planted → length planted ≤ n + 1
count_of_nodes n planted nodes once =
    let names : List ℕ = map (λ (e : ℕ × ℕ). e.0) planted in
    let few : length names ≤ n + 1 = length-le_from_distinct_below names (n + 1) (IsDistinct-from_AllPairs Decides-eqb names once)
    (λ q there. let found = Contains-from_any eqb-true q names there in
    let inside : found.0 < length planted = omega (arith, length-map planted (λ (e : ℕ × ℕ). e.0), found.1) in
    omega (arith, found.2, get_or-map (λ (e : ℕ × ℕ). e.0) planted found.0 (q, 0) q inside, (nodes found.0 (q, 0) inside).1)) in
    omega (arith, few, length-map planted (λ (e : ℕ × ℕ). e.0))

-- what one node gives
pub entries_of_one : (p v : ℕ) (z : ℕ × ℕ) → entries_of p v (z ∷ []) ≡ entry_if z.0 v (record { pos = p; dist = z.1 })
entries_of_one p v z = elim (eqb_tells z.0 v) [ inl same ↦ rw same.0 refl | inr other ↦ rw other.0 refl ]
