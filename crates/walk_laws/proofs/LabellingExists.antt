-- There is a canonical hub labelling, where it is decided which nodes are hubs.
use Rattle.std.proofs.Common.{◌≡◌, ◌⊎◌, ◌↔◌, ℕ, zero, suc, ◌+◌, ◌-◌, ◌≤◌, ◌<◌, List, [], ◌∷◌, ◌++◌, length, map, get_or, slice_get, Some, Contains, refl, subst, sym, ap, ◌∙◌, inl, inr, arith, length-append}
use Rattle.std.specs.List.Sorted.{IsStrictlyIncreasing}
use Rattle.std.proofs.lemmas.Bool.{cases_eq}
use Rattle.std.proofs.lemmas.List.{get_or-map, length-map, get_or_append_left}
use Rattle.std.proofs.Math.Seq.{get_or-append_seam}
use Rattle.std.proofs.lemmas.Option.{slice_get_within, same_Some, slice_get-get_or}
use Rattle.std.proofs.lemmas.List.Elements.{Contains-get_or}
use Rattle.walk_laws.specs.declared.entry.Entry.{Entry}
use Rattle.walk_laws.specs.Ranking.{IsRanking}
use Rattle.walk_laws.specs.Canonical.{IsCanonical}
use Rattle.walk_laws.specs.Labelling.{IsHubEntry, IsRow, IsChl, label_row}
use Rattle.walk_laws.proofs.Members.{Contains-first, Contains-next, Contains-cons_cases, Contains-empty}
use Rattle.walk_laws.proofs.CanonicalHubs.{IsCanonical-unique}

-- the row holds exactly the hubs of v from the position k on
pub record IsRowFrom (J : ℕ → ℕ → ℕ → Type 0) (at : List ℕ) (v k : ℕ) (row : List Entry) : Type 0 where
  pub rising : IsStrictlyIncreasing (map (λ e. e.pos) row)
  pub each : (e : Entry) → Contains row e ↔ ((k ≤ e.pos) × IsHubEntry J at v e)

abbrev pub entry : ℕ → ℕ → Entry
entry p d = record { pos = p; dist = d }

same_entry : (e : Entry) (p d : ℕ) → p ≡ e.pos → d ≡ e.dist → entry p d ≡ e
same_entry e p d same_pos same_dist = ap (λ q. entry q d) same_pos ∙ ap (entry e.pos) same_dist

-- numbers that are all above one still rise with it before them
rises_in_prefix : (k : ℕ) (row : List Entry) (d : ℕ) → IsStrictlyIncreasing (map (λ e. e.pos) row) → ((e : Entry) → Contains row e → k < e.pos) → IsStrictlyIncreasing (map (λ e. e.pos) (entry k d ∷ row))
rises_in_prefix k row d rising above zero within =
    let inside : 0 < length row = omega (arith, length-map row (λ (e : Entry). e.pos)) in
    let next = above (get_or row 0 (entry 0 0)) (Contains-get_or row 0 (entry 0 0) inside) in
    let is = get_or-map (λ (e : Entry). e.pos) row 0 (entry 0 0) 0 inside in
    omega (arith, next, is)
rises_in_prefix k row d rising above (suc i) within =
    let step : suc i + 1 ≡ suc (i + 1) = omega arith in
    subst (λ n. get_or (map (λ e. e.pos) row) i 0 < get_or (k ∷ map (λ e. e.pos) row) n 0) (sym step) (rising i (omega arith))

module _ (J : ℕ → ℕ → ℕ → Type 0) (at : List ℕ) where
  -- no hub stands past the end of the ranking
  pub row_from_end : (v k : ℕ) → k ≡ length at → IsRowFrom J at v k []
  row_from_end v k is = record {
    rising = λ i within. absurd (omega arith);
    each = λ e. (λ h. absurd (Contains-empty e h), λ h. absurd (omega (arith, h.0, slice_get_within at e.pos h.1.0 h.1.1)));
  }

  same_hub : (v h k : ℕ) (e : Entry) → slice_get at k ≡ Some h → k ≡ e.pos → IsHubEntry J at v e → IsCanonical J at h v e.dist
  same_hub v h k e is place hub =
      let same : hub.0 ≡ h = same_Some hub.0 h (sym hub.1 ∙ ap (slice_get at) (sym place) ∙ is) in
      subst (λ x. IsCanonical J at x v e.dist) same hub.2

  -- the hub at k stands before those after it
  pub row_with : (v h k d : ℕ) (row : List Entry) → slice_get at k ≡ Some h → IsCanonical J at h v d → IsRowFrom J at v (k + 1) row → IsRowFrom J at v k (entry k d ∷ row)
  row_with v h k d row is hub rest = record { rising = rises_in_prefix k row d rest.rising (λ e there. (omega (arith, ((rest.each e).0 there).0))); each = λ e. (there_from e, from_there e) }
    where
      there_from : (e : Entry) → Contains (entry k d ∷ row) e → (k ≤ e.pos) × IsHubEntry J at v e
      there_from e there = elim (Contains-cons_cases (entry k d) e row there) [
        | inl here ↦ subst (λ f. (k ≤ f.pos) × IsHubEntry J at v f) here (omega arith, (h, is, hub))
        | inr later ↦ let known = (rest.each e).0 later in (omega (arith, known.0), known.1)
      ]

      from_there : (e : Entry) → (k ≤ e.pos) × IsHubEntry J at v e → Contains (entry k d ∷ row) e
      from_there e known = elim (cases_eq k e.pos) [
        | inl place ↦ subst (Contains (entry k d ∷ row)) (same_entry e k d place (IsCanonical-unique J at h v d e.dist hub (same_hub v h k e is place known.1))) (Contains-first (entry k d) row)
        | inr beyond ↦ Contains-next (entry k d) e row ((rest.each e).1 (omega (arith, known.0, beyond), known.1))
      ]

  -- where the node at k is no hub, the row from there is that from the next position
  pub row_without : (v h k : ℕ) (row : List Entry) → slice_get at k ≡ Some h → ((d : ℕ) → IsCanonical J at h v d → ⊥) → IsRowFrom J at v (k + 1) row → IsRowFrom J at v k row
  row_without v h k row is no_hub rest =
      record { rising = rest.rising; each = λ e. (λ there. let known = (rest.each e).0 there in (omega (arith, known.0), known.1), from_there e) }
    where
      from_there : (e : Entry) → (k ≤ e.pos) × IsHubEntry J at v e → Contains row e
      from_there e known = elim (cases_eq k e.pos) [
        | inl place ↦ absurd (no_hub e.dist (same_hub v h k e is place known.1))
        | inr beyond ↦ (rest.each e).1 (omega (arith, known.0, beyond), known.1)
      ]

  -- the row from the first position on is the row
  pub row_from_first : (v : ℕ) (row : List Entry) → IsRowFrom J at v 0 row → IsRow J at v row
  row_from_first v row all = record { rising = all.rising; each = λ e. (λ there. ((all.each e).0 there).1, λ hub. (all.each e).1 (omega arith, hub)) }

  module _ (ranking : IsRanking at) (decide : (h v : ℕ) → 1 ≤ h → h ≤ length at → ((d : ℕ) × IsCanonical J at h v d) ⊎ ((d : ℕ) → IsCanonical J at h v d → ⊥)) where
    row_at : (v k : ℕ) → k < length at → (row : List Entry) → IsRowFrom J at v (k + 1) row → (more : List Entry) × IsRowFrom J at v k more
    row_at v k within row rest =
        let h = get_or at k 0 in
        let is = slice_get-get_or at k 0 within in
        let node = ranking.node k 0 within in
        elim (decide h v node.0 node.1) [
          | inl hub ↦ (entry k hub.0 ∷ row, row_with v h k hub.0 row is hub.1 rest)
          | inr no_hub ↦ (row, row_without v h k row is no_hub rest)
        ]

    row_from : (v j k : ℕ) → k + j ≡ length at → (row : List Entry) × IsRowFrom J at v k row
    row_from v zero k is = ([], row_from_end v k (omega arith))
    row_from v (suc j) k is =
        let rest = row_from v j (k + 1) (omega arith) in
        row_at v k (omega arith) rest.0 rest.1

    -- each node has a row
    pub IsRow-exists : (v : ℕ) → (row : List Entry) × IsRow J at v row
    IsRow-exists v =
        let all = row_from v (length at) 0 (omega arith) in (all.0, row_from_first v all.0 all.1)

    with_row : (m : ℕ) (rows : List (List Entry)) (row : List Entry) → length rows ≡ m → ((v : ℕ) → 1 ≤ v → v ≤ m → IsRow J at v (label_row rows v)) → IsRow J at (m + 1) row → (v : ℕ) → 1 ≤ v → v ≤ suc m → IsRow J at v (label_row (rows ++ row ∷ []) v)
    with_row m rows row long before here v from_one up_to = elim (cases_eq v (m + 1)) [
      | inl last ↦
          let place : length rows ≡ v - 1 = omega (arith, long, last) in
          let stands : row ≡ label_row (rows ++ row ∷ []) v = sym (get_or-append_seam rows row [] []) ∙ ap (λ i. get_or (rows ++ row ∷ []) i []) place in
          subst (λ x. IsRow J at x (label_row (rows ++ row ∷ []) v)) (sym last) (subst (IsRow J at (m + 1)) stands here)
      | inr earlier ↦
          let inside : v - 1 < length rows = omega (arith, long, earlier) in
          subst (IsRow J at v) (sym (get_or_append_left rows (row ∷ []) [] (v - 1) inside)) (before v from_one (omega (arith, earlier)))
    ]

    rows_up_to : (m : ℕ) → (rows : List (List Entry)) × (length rows ≡ m) × ((v : ℕ) → 1 ≤ v → v ≤ m → IsRow J at v (label_row rows v))
    rows_up_to zero = ([], refl, λ v from_one up_to. absurd (omega arith))
    rows_up_to (suc m) =
        let before = rows_up_to m in
        let here = IsRow-exists (m + 1) in
        (before.0 ++ here.0 ∷ [], length-append before.0 (here.0 ∷ []) ∙ long before.0 before.1, with_row m before.0 here.0 before.1 before.2 here.1)
      where
        long : (rows : List (List Entry)) → length rows ≡ m → length rows + 1 ≡ suc m
        long rows is = omega arith

    -- there is a canonical hub labelling
    pub IsChl-exists : (rows : List (List Entry)) × IsChl J at rows
    IsChl-exists = let all = rows_up_to (length at) in (all.0, record { size = all.1; row = all.2 })
