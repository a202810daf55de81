-- The rows of ranges, one after another, are the rows of all nodes.
use Rattle.std.specs.Prelude.{Option, Some, None, IfSome}
use Rattle.std.proofs.Common.{◌≡◌, ℕ, ◌+◌, ◌-◌, ◌*◌, ◌/◌, ◌<◌, ◌≤◌, min, List, [], ◌∷◌, ◌++◌, All, length, get_or, refl, sym, ap, subst, ◌∙◌, inl, inr, arith, suc}
use Rattle.std.proofs.Math.Nat.{lt-div-mul-add}
use Rattle.std.proofs.lemmas.Bool.{cases_lt}
use Rattle.std.proofs.lemmas.Nat.{div-mul-add}
use Rattle.std.proofs.lemmas.List.{length-append, get_or_append_left, get_or-append-add}
use Rattle.walk_laws.specs.declared.entry.Entry.{Entry}
use Rattle.walk_laws.specs.Labelling.{label_row}
use Rattle.hub_index.specs.NodeEntries.{IsGatheredRow}
use Rattle.entry_sinks.specs.Sunk.{Sunk, range_width, range_of, all_sunk, ranges_at, all_of_node, IsRangeOf, rows_in, AreJoined}

-- the rows of a part, where they were made
abbrev PartRows : Type 0
PartRows = Option (List (List Entry))

-- what the sinks have at a node stands in its range
pub all_sunk-of_node : (sinks : List Sunk) (n v : ℕ) → All (λ s. s.n ≡ n) sinks → all_sunk sinks v ≡ all_of_node (ranges_at sinks (range_of n v)) v
all_sunk-of_node [] n v all = refl
all_sunk-of_node (s ∷ sinks) n v all =
    let rest = all_sunk-of_node sinks n v (λ k d lt. all (suc k) d (omega arith)) in
    let same : s.n ≡ n = all 0 s (omega arith) in
    rw (same, rest) refl

module _ (sinks : List Sunk) (n : ℕ) where
  -- the part of a range was made of it
  abbrev pub Made : ℕ → PartRows → Type 0
  Made k part = IfSome part (λ rows. length rows ≡ min (range_width n) (n - k * range_width n)) × IfSome part (IsRangeOf (ranges_at sinks k) n k)

  abbrev AllMade : ℕ → List PartRows → Type 0
  AllMade k parts = (i : ℕ) (d : PartRows) → i < length parts → Made (k + i) (get_or parts i d)

  made_first : (k : ℕ) (p : PartRows) (ps : List PartRows) → AllMade k (p ∷ ps) → Made k p
  made_first k p ps all = let same : k + 0 ≡ k = omega arith in subst (λ i. Made i p) same (all 0 p (omega arith))

  made_rest : (k : ℕ) (p : PartRows) (ps : List PartRows) → AllMade k (p ∷ ps) → AllMade (k + 1) ps
  made_rest k p ps all i d lt = let same : k + suc i ≡ k + 1 + i = omega arith in subst (λ j. Made j (get_or ps i d)) same (all (suc i) d (omega arith))

  next_offset : (k a : ℕ) → a ≡ k * range_width n → a + range_width n ≡ (k + 1) * range_width n
  next_offset k a is = let W = range_width n in omega (arith, is, one_more k (range_width n))
    where
      one_more : (k w : ℕ) → (k + 1) * w ≡ k * w + w
      one_more k w = grind arith

  few_from : (parts : List PartRows) (k a : ℕ) → a ≡ k * range_width n → AllMade k parts → rows_in parts + min n a ≤ n
  few_from [] k a is all = omega arith
  few_from (Some p ∷ parts) k a is all =
      let first = made_first k (Some p) parts all in
      let rest = few_from parts (k + 1) (a + range_width n) (next_offset k a is) (made_rest k (Some p) parts all) in
      let long : length p ≡ min (range_width n) (n - k * range_width n) = first.0 in
      omega (arith, rest, long, is)
  few_from (None ∷ parts) k a is all =
      let rest = few_from parts (k + 1) (a + range_width n) (next_offset k a is) (made_rest k None parts all) in
      omega (arith, rest)

  pub parts_few : (parts : List PartRows) → AllMade 0 parts → rows_in parts ≤ n
  parts_few parts all = omega (arith, few_from parts 0 0 (omega arith) all)

  -- the rows after a nodes
  record AreAfter (a : ℕ) (count : ℕ) (rows : List (List Entry)) : Type 0 where
    pub size : length rows + min n a ≡ min n (a + count * range_width n)
    pub right : (v : ℕ) → 1 ≤ v → v ≤ length rows → IsGatheredRow (all_of_node (ranges_at sinks ((a + v - 1) / range_width n)) (a + v)) (label_row rows v)

  counted : (c w : ℕ) → suc c * w ≡ w + c * w
  counted c w = grind arith

  after : (parts : List PartRows) (k a : ℕ) (rows : List (List Entry)) → a ≡ k * range_width n → AllMade k parts → AreJoined parts rows → AreAfter a (length parts) rows
  after [] k a rows is all none = record {
    size = omega (arith, ap length none);
    right = λ v from_one up_to. absurd (omega (arith, ap length none));
  }
  after (None ∷ parts) k a rows is all joined = absurd joined
  after (Some p ∷ parts) k a rows is all (rest, rows_are, joined) =
      let first = made_first k (Some p) parts all in
      let long : length p ≡ min (range_width n) (n - k * range_width n) = first.0 in
      let later = after parts (k + 1) (a + range_width n) rest (next_offset k a is) (made_rest k (Some p) parts all) joined in
      let whole : length rows ≡ length p + length rest = ap length rows_are ∙ length-append p rest in
      record {
        size = omega (arith, long, is, later.size, whole, counted (length parts) (range_width n));
        right = λ v from_one up_to. elim (cases_lt (length p) v) [
          | inr inside ↦
              let range : (a + v - 1) / range_width n ≡ k = let e : a + v - 1 ≡ k * range_width n + (v - 1) = omega (arith, is) in ap (λ x. x / range_width n) e ∙ div-mul-add k (range_width n) (v - 1) (omega (arith, long)) in
              let row : label_row rows v ≡ label_row p v = ap (λ rs. label_row rs v) rows_are ∙ get_or_append_left p rest [] (v - 1) (omega arith) in
              let right : IsGatheredRow (all_of_node (ranges_at sinks k) (k * range_width n + v)) (label_row p v) = first.1 v from_one inside in
              rw (row, range, is) right
          | inl outside ↦
              let full : length p ≡ range_width n = omega (arith, long, is, later.size, whole) in
              let u = v - range_width n in
              let row : label_row rows v ≡ label_row rest (v - range_width n) = ap (λ rs. label_row rs v) rows_are ∙ (let at : v - 1 ≡ length p + (v - range_width n - 1) = omega (arith, full) in ap (λ i. get_or (p ++ rest) i []) at ∙ get_or-append-add p rest (v - range_width n - 1) []) in
              let node : a + range_width n + (v - range_width n) ≡ a + v = omega (arith, full) in
              let right = later.right (v - range_width n) (omega (arith, full)) (omega (arith, full, whole)) in
              subst (λ row. IsGatheredRow (all_of_node (ranges_at sinks ((a + v - 1) / range_width n)) (a + v)) row) (sym row) (subst (λ x. IsGatheredRow (all_of_node (ranges_at sinks ((x - 1) / range_width n)) x) (label_row rest (v - range_width n))) node right)
        ];
      }

  -- all parts together have the rows of all nodes
  pub rows_of_parts : (parts : List PartRows) (rows : List (List Entry)) → All (λ s. s.n ≡ n) sinks → length parts ≡ n / range_width n + 1 → AllMade 0 parts → AreJoined parts rows → (length rows ≡ n) × ((v : ℕ) → 1 ≤ v → v ≤ n → IsGatheredRow (all_sunk sinks v) (label_row rows v))
  rows_of_parts parts rows sizes count all joined =
      let them = after parts 0 0 rows (omega arith) all joined in
      let product : length parts * range_width n ≡ n / range_width n * range_width n + range_width n = ap (λ c. c * range_width n) count ∙ one_more (n / range_width n) (range_width n) in
      let reach : n < n / range_width n * range_width n + range_width n = lt-div-mul-add (omega arith) in
      let whole : length rows ≡ n = omega (arith, them.size, product, reach) in (
        whole,
        λ v from_one up_to.
            subst (λ es. IsGatheredRow es (label_row rows v)) (sym (all_sunk-of_node sinks n v sizes)) (let z : 0 + v ≡ v = omega arith in subst (λ x. IsGatheredRow (all_of_node (ranges_at sinks ((x - 1) / range_width n)) x) (label_row rows v)) z (them.right v from_one (omega (arith, whole)))),
      )
    where
      one_more : (k w : ℕ) → (k + 1) * w ≡ k * w + w
      one_more k w = grind arith
