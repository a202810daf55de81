-- What a tree that is gone on with has left of the rows at each moment, by the rows alone.
use Rattle.std.proofs.Common.{◌≡◌, ◌≢◌, ◌↔◌, inl, inr, ℕ, ◌<◌, ◌≤◌, Option, List, All, Contains, length, map, sym, subst, ◌∙◌, arith}
use Rattle.std.specs.List.Sorted.{IsStrictlyIncreasing}
use Rattle.std.proofs.lemmas.Bool.{cases_eq}
use Rattle.std.proofs.lemmas.List.Elements.{All-contains, All-contains_itself, All-weaker}
use Rattle.walk_laws.specs.declared.entry.Entry.{Entry}
use Rattle.walk_laws.specs.Labelling.{EntryFits, label_row}
use Rattle.walk_laws.specs.Meet.{HasSum}
use Rattle.hub_index.specs.RootDistances.{HoldsRow}
use Rattle.pruned_tree.proofs.ApartPuts.{IsShorter-uncovered}
use Rattle.resumed_tree.specs.Resumed.{AreWalks, Has, CameToHave}
use Rattle.resumed_tree.specs.Taken.{IsTaken, IsUncovered}

-- by rising position
abbrev RisesStrictly : List Entry → Type 0
RisesStrictly row = IsStrictlyIncreasing (map (λ e. e.pos) row)

-- the rows are lengths of walks; entries of other hubs than the one at p are those of before, none of its own is lost or grows, and one that came is shorter than each way by a hub above
pub record AreKept (J : ℕ → ℕ → ℕ → Type 0) (at : List ℕ) (h p : ℕ) (before now : List (List Entry)) : Type 0 where
  pub walks : AreWalks J at now
  pub others : (v q d : ℕ) → 1 ≤ v → q ≢ p → Has now v q d ↔ Has before v q d
  pub lessens : (v d : ℕ) → 1 ≤ v → Has before v p d → (c : ℕ) × Has now v p c × (c ≤ d)
  pub apart : (v d q s : ℕ) → 1 ≤ v → CameToHave before now v p d → HasSum (label_row before h) (label_row before v) q s → q < p → d < s

module _ (J : ℕ → ℕ → ℕ → Type 0) (at : List ℕ) (h p : ℕ) (before : List (List Entry)) where
  -- nothing has changed yet
  pub AreKept-start : AreWalks J at before → AreKept J at h p before before
  AreKept-start walks = record {
    walks = walks;
    others = λ v q d from_one other. (λ there. there, λ there. there);
    lessens = λ v d from_one there. (d, there, omega arith);
    apart = λ v d q s from_one came. absurd (came.1 came.0);
  }

  -- the row of a node has taken an entry of the hub
  module _ (now : List (List Entry)) (kept : AreKept J at h p before now) (v d : ℕ) (from_one : 1 ≤ v) (next : List (List Entry)) (same : (x : ℕ) → 1 ≤ x → x ≢ v → label_row next x ≡ label_row now x) (taken : IsTaken (label_row now v) (label_row next v) (record { pos = p; dist = d })) where
    -- what another row has
    pub has_other : (x q e : ℕ) → 1 ≤ x → x ≢ v → Has next x q e → Has now x q e
    has_other x q e x_from_one other there = subst (λ row. Contains row (record { pos = q; dist = e })) (same x x_from_one other) there

    pub had_other : (x q e : ℕ) → 1 ≤ x → x ≢ v → Has now x q e → Has next x q e
    had_other x q e x_from_one other there = subst (λ row. Contains row (record { pos = q; dist = e })) (sym (same x x_from_one other)) there

    -- an entry of the row is the one that it took, or stood there
    old_or_new : (P : Entry → Type 0) → All P (label_row now v) → P (record { pos = p; dist = d }) → All P (label_row next v)
    old_or_new P all here = All-weaker (Contains (label_row next v)) P (λ e there. elim (cases_eq e.pos p) [
      | inl own ↦
          let dist : e.dist ≡ d = taken.alone e.dist (subst (λ q. Contains (label_row next v) (record { pos = q; dist = e.dist })) own there) in
          subst (λ q. P (record { pos = q; dist = e.dist })) (sym own) (subst (λ c. P (record { pos = p; dist = c })) (sym dist) here)
      | inr other ↦ All-contains P (label_row now v) e all ((taken.others e.pos e.dist other).0 there)
    ]) (label_row next v) (All-contains_itself (label_row next v))

    AreWalks-taken : length next ≡ length now → EntryFits J at v (record { pos = p; dist = d }) → AreWalks J at next
    AreWalks-taken size fits = record {
      size = size ∙ kept.walks.size;
      fit = λ x x_from_one up. elim (cases_eq x v) [
        | inl here ↦
            let fit : All (EntryFits J at v) (label_row now v) = subst (λ y. All (EntryFits J at y) (label_row now y)) here (kept.walks.fit x x_from_one up) in
            subst (λ y. All (EntryFits J at y) (label_row next y)) (sym here) (old_or_new (EntryFits J at v) fit fits)
        | inr other ↦ subst (All (EntryFits J at x)) (sym (same x x_from_one other)) (kept.walks.fit x x_from_one up)
      ];
      rising = λ x x_from_one up. elim (cases_eq x v) [
        | inl here ↦ subst (λ y. RisesStrictly (label_row next y)) (sym here) taken.rising
        | inr other ↦ subst RisesStrictly (sym (same x x_from_one other)) (kept.walks.rising x x_from_one up)
      ];
    }

    pub AreKept-taken : length next ≡ length now → EntryFits J at v (record { pos = p; dist = d }) → (table : List (Option ℕ)) → HoldsRow table (label_row before h) → IsUncovered table (label_row now v) (record { pos = p; dist = d }) → AreKept J at h p before next
    AreKept-taken size fits table held uncovered = record {
      walks = AreWalks-taken size fits;
      others = λ x q e x_from_one other_hub. elim (cases_eq x v) [
        | inl here ↦
            let was = kept.others v q e from_one other_hub in
            let step = taken.others q e other_hub in
            subst (λ y. Has next y q e ↔ Has before y q e) (sym here) (λ there. was.0 (step.0 there), λ there. step.1 (was.1 there))
        | inr other ↦
            let was = kept.others x q e x_from_one other_hub in
            (λ there. was.0 (has_other x q e x_from_one other there), λ there. had_other x q e x_from_one other (was.1 there))
      ];
      lessens = λ x e x_from_one there.
          let was = kept.lessens x e x_from_one there in
          elim (cases_eq x v) [
            | inl here ↦
                let longer : d < was.0 = taken.longer was.0 (subst (λ y. Has now y p was.0) here was.1) in
                (d, subst (λ y. Has next y p d) (sym here) taken.there, omega (arith, longer, was.2))
            | inr other ↦ (was.0, had_other x p was.0 x_from_one other was.1, was.2)
          ];
      apart = λ x e q s x_from_one came sum above. elim (cases_eq x v) [
        | inl here ↦
            let is : e ≡ d = taken.alone e (subst (λ y. Has next y p e) here came.0) in
            let after : Has before v q sum.after = subst (λ y. Has before y q sum.after) here sum.in_second in
            let stands : Has now v q sum.after = (kept.others v q sum.after from_one (λ own. omega (arith, own, above))).1 after in
            let way : HasSum (label_row before h) (label_row now v) q s = record { before = sum.before; after = sum.after; in_first = sum.in_first; in_second = stands; long = sum.long } in
            omega (arith, is, IsShorter-uncovered p table (label_row before h) (label_row now v) d held uncovered q s way above)
        | inr other ↦ kept.apart x e q s x_from_one (has_other x p e x_from_one other came.0, came.1) sum above
      ];
    }
