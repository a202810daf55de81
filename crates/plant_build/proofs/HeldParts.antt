-- Entries that hold parts of the labelling: one tree, one batch more, and all batches.
use Rattle.std.specs.Prelude.{◌↔◌, Result, Ok, Err, IfOk, Some, slice_get, AllPairs}
use Rattle.std.proofs.Common.{◌≡◌, ◌≢◌, ◌⊎◌, ℕ, ◌+◌, ◌-◌, ◌*◌, ◌/◌, ◌%◌, ◌<◌, ◌≤◌, Bool, true, false, true≢false, List, [], ◌∷◌, ◌++◌, Contains, length, map, get_or, set, replicate, refl, sym, ap, subst, ◌∙◌, inl, inr, append_assoc, arith, zero, suc}
use Rattle.std.proofs.Math.ListN.{length-set}
use Rattle.std.proofs.Math.Nat.{mod-eq_of_lt, mod-lt}
use Rattle.std.proofs.lemmas.Nat.{div-add-mod', mul-le}
use Rattle.std.proofs.lemmas.Bool.{cases_lt, cases_eq}
use Rattle.std.proofs.lemmas.List.{append-nil, map-append, length-append, length-map, get_or-map, get_or_append_left, get_or-append-add, get_or-set_same, get_or-set_other}
use Rattle.std.proofs.lemmas.List.Elements.{All-push, Contains-get_or, Contains-append_cases, Contains-append_left, Contains-append_right}
use Rattle.std.proofs.lemmas.Option.{slice_get_within}
use Rattle.walk_laws.proofs.Members.{Contains-first, Contains-empty, Contains-cons_cases}
use Rattle.walk_laws.specs.declared.graph.Edge.{Edge}
use Rattle.walk_laws.specs.declared.entry.Entry.{Entry}
use Rattle.walk_laws.specs.Joined.{Joined}
use Rattle.walk_laws.specs.Canonical.{IsCanonical}
use Rattle.walk_laws.specs.Labelling.{IsHubEntry, IsChl, IsPartChl, label_row}
use Rattle.hub_index.specs.NodeEntries.{IsGatheredRow}
use Rattle.entry_sinks.specs.Sunk.{Sunk, sunk_at, all_sunk, HoldsPart}
use Rattle.entry_sinks.proofs.PartsOfLabellings.{IsPartChl-gathered}
use Rattle.plant_tree.specs.Planted.{NamesEachOnce}
use Rattle.plant_build.specs.TreeEntries.{entries_of}
use Rattle.plant_build.specs.Gains.{GainsPart, HoldsBatches, IsOfBatch, IsOfBatches}
use Rattle.plant_build.specs.Marks.{mark, Adds, HasCome, IsMarked, IsMissing}
use Rattle.plant_build.proofs.PlantedRows.{entry_from, entry_to, one_at_most}

abbrev pos_of : Entry → ℕ
pos_of e = e.pos

abbrev Differ : List ℕ → Type 0
Differ xs = AllPairs (λ x y. x ≢ y) xs

differ_append : (xs ys : List ℕ) → Differ xs → Differ ys → ((x : ℕ) → Contains xs x → Contains ys x → ⊥) → Differ (xs ++ ys)
differ_append xs ys first second apart i j d lt within =
    elim (cases_lt j (length xs)) [
      | inl both ↦ rw (get_or_append_left xs ys d i (omega arith), get_or_append_left xs ys d j both) (first i j d lt both)
      | inr later ↦
          let at : get_or (xs ++ ys) j d ≡ get_or ys (j - length xs) d = (let e : j ≡ length xs + (j - length xs) = omega arith in ap (λ k. get_or (xs ++ ys) k d) e ∙ get_or-append-add xs ys (j - length xs) d) in
          let inside : j - length xs < length ys = omega (arith, length-append xs ys) in
          elim (cases_lt i (length xs)) [
            | inl early ↦ λ same.
                let x_is : get_or xs i d ≡ get_or ys (j - length xs) d = sym (get_or_append_left xs ys d i early) ∙ same ∙ at in
                apart (get_or xs i d) (Contains-get_or xs i d early) (subst (Contains ys) (sym x_is) (Contains-get_or ys (j - length xs) d inside))
            | inr late ↦
                let at_i : get_or (xs ++ ys) i d ≡ get_or ys (i - length xs) d = (let e : i ≡ length xs + (i - length xs) = omega arith in ap (λ k. get_or (xs ++ ys) k d) e ∙ get_or-append-add xs ys (i - length xs) d) in
                rw (at_i, at) (second (i - length xs) (j - length xs) d (omega arith) inside)
          ]
    ]

-- the prefix differs, too, and the last number from it
differ_prefix : (xs : List ℕ) (x : ℕ) → Differ (xs ++ x ∷ []) → Differ xs
differ_prefix xs x all i j d lt within = let h = all i j d lt (omega (arith, length-append xs (x ∷ []))) in rw (get_or_append_left xs (x ∷ []) d i (omega arith), get_or_append_left xs (x ∷ []) d j within) at h

differ_last : (xs : List ℕ) (x : ℕ) → Differ (xs ++ x ∷ []) → Contains xs x → ⊥
differ_last xs x all (k, within, is) =
    all k (length xs) x within (omega (arith, length-append xs (x ∷ []))) (get_or_append_left xs (x ∷ []) x k within ∙ is ∙ sym (let e : length xs ≡ length xs + 0 = omega arith in ap (λ i. get_or (xs ++ x ∷ []) i x) e ∙ get_or-append-add xs (x ∷ []) 0 x))

-- a position of entries is that of one of them
position_there : (es : List Entry) (x : ℕ) → Contains (map pos_of es) x → (e : Entry) × Contains es e × (e.pos ≡ x)
position_there es x (k, within, is) =
    let none : Entry = record { pos = x; dist = 0 } in
    let inside : k < length es = omega (arith, length-map es pos_of) in
    (get_or es k none, Contains-get_or es k none inside, sym (get_or-map pos_of es k none x inside) ∙ is)

module _ (edges : List Edge) (at : List ℕ) where
  pub HoldsPart-none : HoldsPart edges at (λ p. ⊥) (λ v. [])
  HoldsPart-none = record {
    once = λ v _ _ i j d lt within. absurd (omega (arith, within));
    each = λ v _ _ e. (λ there. absurd (Contains-empty e there), λ hub. absurd hub.1);
  }

  module _ (P Q : ℕ → Type 0) where
    pub HoldsPart-append : (f g : ℕ → List Entry) → HoldsPart edges at P f → HoldsPart edges at Q g → ((p : ℕ) → P p → Q p → ⊥) → HoldsPart edges at (λ p. P p ⊎ Q p) (λ v. f v ++ g v)
    HoldsPart-append f g first second apart = record {
      once = λ v low high. subst Differ (sym (map-append pos_of (f v) (g v))) (differ_append (map pos_of (f v)) (map pos_of (g v)) (first.once v low high) (second.once v low high)
          (λ x in_f in_g.
          let a = position_there (f v) x in_f in
          let b = position_there (g v) x in_g in
          apart x (subst P a.2 ((first.each v low high a.0).0 a.1).1) (subst Q b.2 ((second.each v low high b.0).0 b.1).1)));
      each = λ v low high e. (
        λ there. elim (Contains-append_cases (f v) (g v) e there) [
          | inl here ↦ let hub = (first.each v low high e).0 here in (hub.0, inl hub.1)
          | inr here ↦ let hub = (second.each v low high e).0 here in (hub.0, inr hub.1)
        ],
        λ hub. elim hub.1 [
          | inl p ↦ Contains-append_left (f v) (g v) e ((first.each v low high e).1 (hub.0, p))
          | inr q ↦ Contains-append_right (f v) (g v) e ((second.each v low high e).1 (hub.0, q))
        ],
      );
    }

    -- the same positions of the ranking
    pub HoldsPart-same : (f : ℕ → List Entry) → ((p : ℕ) → p < length at → P p → Q p) → ((p : ℕ) → p < length at → Q p → P p) → HoldsPart edges at P f → HoldsPart edges at Q f
    HoldsPart-same f there back holds = record {
      once = holds.once;
      each = λ v low high e. (
        λ h. let hub = (holds.each v low high e).0 h in (hub.0, there e.pos (slice_get_within at e.pos hub.0.0 hub.0.1) hub.1),
        λ hub. (holds.each v low high e).1 (hub.0, back e.pos (slice_get_within at e.pos hub.0.0 hub.0.1) hub.1),
      );
    }

  -- the same entries
  pub HoldsPart-rows : (P : ℕ → Type 0) (f g : ℕ → List Entry) → ((v : ℕ) → f v ≡ g v) → HoldsPart edges at P f → HoldsPart edges at P g
  HoldsPart-rows P f g same holds = record {
    once = λ v low high. subst (λ es. Differ (map pos_of es)) (same v) (holds.once v low high);
    each = λ v low high. subst (λ es. (e : Entry) → Contains es e ↔ (IsHubEntry (Joined edges) at v e × P e.pos)) (same v) (holds.each v low high);
  }

  -- a planted tree gives the hub at its root's position
  pub HoldsPart-tree : (p h : ℕ) (planted : List (ℕ × ℕ)) → slice_get at p ≡ Some h → NamesEachOnce planted → ((v d : ℕ) → Contains planted (v, d) ↔ IsCanonical (Joined edges) at h v d) → HoldsPart edges at (λ q. q ≡ p) (λ v. entries_of p v planted)
  HoldsPart-tree p h planted root once exact = record {
    once = λ v low high. elim (one_at_most p v planted once) [
      | inl none ↦ rw none (λ i j d lt within. absurd (omega (arith, within)))
      | inr one ↦ rw one.1 (λ i j d lt within. absurd (omega (arith, within, lt)))
    ];
    each = λ v low high e. (
      λ there. let from = entry_from p v planted e there in ((h, ap (slice_get at) from.0 ∙ root, (exact v e.dist).0 from.1), from.0),
      λ hub.
          let same : Some hub.0.0 ≡ Some h = sym hub.0.1 ∙ ap (slice_get at) hub.1 ∙ root in
          let node : hub.0.0 ≡ h = cc in
          let canonical : IsCanonical (Joined edges) at h v e.dist = subst (λ x. IsCanonical (Joined edges) at x v e.dist) node hub.0.2 in
          subst (λ x. Contains (entries_of p v planted) x) (λ i. record { pos = sym hub.1 i; dist = e.dist }) (entry_to p v e.dist planted ((exact v e.dist).1 canonical)),
    );
  }

  pub GainsPart-none : (sink : Sunk) → GainsPart edges at (λ p. ⊥) sink sink
  GainsPart-none sink = record { n = refl; gained = λ v. []; part = HoldsPart-none; grown = λ v. sym (append-nil (sunk_at sink v)) }

  pub GainsPart-then : (P Q R : ℕ → Type 0) (a b c : Sunk) → GainsPart edges at P a b → GainsPart edges at Q b c → ((p : ℕ) → P p → Q p → ⊥) → ((p : ℕ) → p < length at → P p ⊎ Q p → R p) → ((p : ℕ) → p < length at → R p → P p ⊎ Q p) → GainsPart edges at R a c
  GainsPart-then P Q R a b c first second apart there back = record {
    n = second.n ∙ first.n;
    gained = λ v. first.gained v ++ second.gained v;
    part = HoldsPart-same (λ p. P p ⊎ Q p) R (λ v. first.gained v ++ second.gained v) there back (HoldsPart-append P Q first.gained second.gained first.part second.part apart);
    grown = λ v. second.grown v ∙ ap (λ es. es ++ second.gained v) (first.grown v) ∙ append_assoc (sunk_at a v) (first.gained v) (second.gained v);
  }

  pub GainsPart-same : (P Q : ℕ → Type 0) (a b : Sunk) → GainsPart edges at P a b → ((p : ℕ) → p < length at → P p → Q p) → ((p : ℕ) → p < length at → Q p → P p) → GainsPart edges at Q a b
  GainsPart-same P Q a b g there back = record { n = g.n; gained = g.gained; part = HoldsPart-same P Q g.gained there back g.part; grown = g.grown }

  -- what a sink holds, once it has gained another part
  pub HoldsPart-gains : (P Q R : ℕ → Type 0) (a b : Sunk) → HoldsPart edges at P (sunk_at a) → GainsPart edges at Q a b → ((p : ℕ) → P p → Q p → ⊥) → ((p : ℕ) → p < length at → P p ⊎ Q p → R p) → ((p : ℕ) → p < length at → R p → P p ⊎ Q p) → HoldsPart edges at R (sunk_at b)
  HoldsPart-gains P Q R a b holds gains apart there back =
      HoldsPart-rows R (λ v. sunk_at a v ++ gains.gained v) (sunk_at b) (λ v. sym (gains.grown v))
      (HoldsPart-same (λ p. P p ⊎ Q p) R (λ v. sunk_at a v ++ gains.gained v) there back (HoldsPart-append P Q (sunk_at a) gains.gained holds gains.part apart))

  -- one batch more
  pub HoldsBatches-more : (roots batches b : ℕ) (numbers : List ℕ) (old new : Sunk) → HoldsBatches edges at roots batches numbers old → GainsPart edges at (IsOfBatch roots batches b) old new → HoldsBatches edges at roots batches (numbers ++ b ∷ []) new
  HoldsBatches-more roots batches b numbers old new holds gains once =
      HoldsPart-gains (IsOfBatches roots batches numbers) (IsOfBatch roots batches b) (IsOfBatches roots batches (numbers ++ b ∷ [])) old new (holds (differ_prefix numbers b once)) gains
      (λ p there here. differ_last numbers b once (subst (Contains numbers) here.1 there.1))
      (λ p _ either. elim either [
        | inl there ↦ (there.0, Contains-append_left numbers (b ∷ []) (p % batches) there.1)
        | inr here ↦ (here.0, Contains-append_right numbers (b ∷ []) (p % batches) (subst (Contains (b ∷ [])) (sym here.1) (Contains-first b [])))
      ])
      (λ p _ there. elim (Contains-append_cases numbers (b ∷ []) (p % batches) there.1) [
        | inl before ↦ inl (there.0, before)
        | inr now ↦ inr (there.0, sym (elim (Contains-cons_cases b (p % batches) [] now) [ inl is ↦ is | inr none ↦ absurd (Contains-empty (p % batches) none) ]))
      ])

  pub HoldsBatches-none : (roots batches : ℕ) (numbers : List ℕ) (sink : Sunk) → numbers ≡ [] → ((v : ℕ) → sunk_at sink v ≡ []) → HoldsBatches edges at roots batches numbers sink
  HoldsBatches-none roots batches numbers sink none empty once =
      HoldsPart-rows (IsOfBatches roots batches numbers) (λ v. []) (sunk_at sink) (λ v. sym (empty v))
      (HoldsPart-same (λ p. ⊥) (IsOfBatches roots batches numbers) (λ v. []) (λ p _ never. absurd never) (λ p _ there. Contains-empty (p % batches) (subst (λ ns. Contains ns (p % batches)) none there.1)) HoldsPart-none)

-- the positions of a batch: the next one is so many further
pub next_of_batch : (batches b p q : ℕ) → p % batches ≡ b → q % batches ≡ b → p ≤ q → q < p + batches → q ≡ p
next_of_batch batches b p q p_is q_is low high =
    let p_parts = div-add-mod' p batches in
    let q_parts = div-add-mod' q batches in
    elim (cases_lt (p / batches) (q / batches)) [
      | inl above ↦
          let more : (p / batches + 1) * batches ≤ q / batches * batches = mul-le (p / batches + 1) batches (q / batches) batches (omega arith) (omega arith) in
          let one : (p / batches + 1) * batches ≡ p / batches * batches + batches = one_more (p / batches) batches in
          absurd (omega (arith, more, one, p_parts, q_parts, p_is, q_is, high))
      | inr below ↦
          let less : q / batches * batches ≤ p / batches * batches = mul-le (q / batches) batches (p / batches) batches below (omega arith) in
          omega (arith, less, p_parts, q_parts, p_is, q_is, low)
    ]
  where
    one_more : (k w : ℕ) → (k + 1) * w ≡ k * w + w
    one_more k w = grind arith

-- marks: none, and one more
pub Adds-none : (old new : List Bool) → new ≡ old → Adds old [] new
Adds-none old new is = record {
  size = ap length is;
  once = λ i j d lt within. absurd (omega (arith, within));
  fresh = λ b there. absurd (Contains-empty b there);
  now = λ b. (λ h. inl (subst (λ marks. mark marks b ≡ true) is h), λ h. elim h [ inl old_is ↦ subst (λ marks. mark marks b ≡ true) (sym is) old_is | inr there ↦ absurd (Contains-empty b there) ]);
}

pub both_false : (b : Bool) → b ≡ true → b ≡ false → ⊥
both_false b is_true is_false = true≢false (sym is_true ∙ is_false)

pub unmarked : (b : Bool) → (b ≡ true → ⊥) → b ≡ false
unmarked true never = absurd (never refl)
unmarked false never = refl

pub Adds-more : (old mid : List Bool) (numbers : List ℕ) (x : ℕ) → Adds old numbers mid → x < length mid → mark mid x ≡ false → Adds old (numbers ++ x ∷ []) (set mid x true)
Adds-more old mid numbers x so_far within free = record {
  size = length-set mid x true ∙ so_far.size;
  once = differ_append numbers (x ∷ []) so_far.once (λ i j d lt inside. absurd (omega (arith, inside, lt)))
      (λ y there here. both_false (mark mid x) ((so_far.now x).1 (inr (subst (Contains numbers) (sym (only y here)) there))) free);
  fresh = λ b there. elim (Contains-append_cases numbers (x ∷ []) b there) [
    | inl before ↦ so_far.fresh b before
    | inr now ↦ unmarked (mark old b) (λ marked. both_false (mark mid x) (subst (λ k. mark mid k ≡ true) (sym (only b now)) ((so_far.now b).1 (inl marked))) free)
  ];
  now = λ b. elim (cases_eq b x) [
    | inl here ↦ (λ _. inr (Contains-append_right numbers (x ∷ []) b (subst (Contains (x ∷ [])) (sym here) (Contains-first x []))), λ _. subst (λ k. mark (set mid x true) k ≡ true) (sym here) (get_or-set_same mid x true false within))
    | inr other ↦
        let stays : mark (set mid x true) b ≡ mark mid b = get_or-set_other mid x b true false other in (
          λ h. elim ((so_far.now b).0 (sym stays ∙ h)) [ inl was ↦ inl was | inr there ↦ inr (Contains-append_left numbers (x ∷ []) b there) ],
          λ h. stays ∙ (so_far.now b).1 (elim h [
            | inl was ↦ inl was
            | inr there ↦ elim (Contains-append_cases numbers (x ∷ []) b there) [ inl before ↦ inr before | inr now ↦ absurd (other (sym (only b now))) ]
          ]),
        )
  ];
}
  where
    only : (y : ℕ) → Contains (x ∷ []) y → x ≡ y
    only y here = elim (Contains-cons_cases x y [] here) [ inl is ↦ is | inr none ↦ absurd (Contains-empty y none) ]

pub marks_none : (count b : ℕ) → mark (replicate count false) b ≡ false
marks_none zero b = refl
marks_none (suc count) zero = refl
marks_none (suc count) (suc b) = marks_none count b

pub all_sunk-push : (sinks : List Sunk) (s : Sunk) (v : ℕ) → all_sunk (sinks ++ s ∷ []) v ≡ all_sunk sinks v ++ sunk_at s v
all_sunk-push [] s v = append-nil (sunk_at s v)
all_sunk-push (t ∷ sinks) s v = ap (λ es. sunk_at t v ++ es) (all_sunk-push sinks s v) ∙ sym (append_assoc (sunk_at t v) (all_sunk sinks v) (sunk_at s v))

module _ (edges : List Edge) (at : List ℕ) (roots n : ℕ) where
  pub HasCome-none : (marks : List Bool) → ((b : ℕ) → mark marks b ≡ false) → HasCome edges at roots n marks []
  HasCome-none marks none = record {
    sizes = λ k d lt. absurd (omega (arith, lt));
    holds = HoldsPart-same edges at (λ p. ⊥) (IsMarked roots marks) (λ v. []) (λ p _ never. absurd never) (λ p _ marked. both_false (mark marks (p % length marks)) marked.1 (none (p % length marks))) (HoldsPart-none edges at);
  }

  -- one worker more
  pub HasCome-more : (old new : List Bool) (numbers : List ℕ) (sinks : List Sunk) (sink : Sunk) → sink.n ≡ n → HoldsBatches edges at roots (length old) numbers sink → Adds old numbers new → HasCome edges at roots n old sinks → HasCome edges at roots n new (sinks ++ sink ∷ [])
  HasCome-more old new numbers sinks sink size holds adds come = record {
    sizes = All-push (λ s. s.n ≡ n) sinks sink come.sizes size;
    holds = subst (λ len. HoldsPart edges at (λ p. (p < roots) × (mark new (p % len) ≡ true)) (all_sunk (sinks ++ sink ∷ []))) (sym adds.size)
        (HoldsPart-rows edges at (λ p. (p < roots) × (mark new (p % length old) ≡ true)) (λ v. all_sunk sinks v ++ sunk_at sink v) (all_sunk (sinks ++ sink ∷ [])) (λ v. sym (all_sunk-push sinks sink v))
        (HoldsPart-same edges at (λ p. IsMarked roots old p ⊎ IsOfBatches roots (length old) numbers p) (λ p. (p < roots) × (mark new (p % length old) ≡ true)) (λ v. all_sunk sinks v ++ sunk_at sink v)
        (λ p _ either. elim either [ inl was ↦ (was.0, (adds.now (p % length old)).1 (inl was.1)) | inr there ↦ (there.0, (adds.now (p % length old)).1 (inr there.1)) ])
        (λ p _ marked. elim ((adds.now (p % length old)).0 marked.1) [ inl was ↦ inl (marked.0, was) | inr there ↦ inr (marked.0, there) ])
        (HoldsPart-append edges at (IsMarked roots old) (IsOfBatches roots (length old) numbers) (all_sunk sinks) (sunk_at sink) come.holds (holds adds.once)
        (λ p marked there. both_false (mark old (p % length old)) marked.1 (adds.fresh (p % length old) there.1)))));
  }

  bool_cases : (b : Bool) → (b ≡ true) ⊎ (b ≡ false)
  bool_cases true = inl refl
  bool_cases false = inr refl

  -- with what came from nobody it is the labelling at the first so many positions
  pub IsPartChl-whole : (marks : List Bool) (sinks : List Sunk) (own : Sunk) (rows : List (List Entry)) → n ≡ length at → HasCome edges at roots n marks sinks → own.n ≡ n → HoldsPart edges at (IsMissing roots marks) (sunk_at own) → length rows ≡ n → ((v : ℕ) → 1 ≤ v → v ≤ n → IsGatheredRow (all_sunk (sinks ++ own ∷ []) v) (label_row rows v)) → IsPartChl (Joined edges) at (λ p. p < roots) rows
  IsPartChl-whole marks sinks own rows nodes come size missing long gathered =
      let holds : HoldsPart edges at (λ p. p < roots) (all_sunk (sinks ++ own ∷ [])) =
      HoldsPart-rows edges at (λ p. p < roots) (λ v. all_sunk sinks v ++ sunk_at own v) (all_sunk (sinks ++ own ∷ [])) (λ v. sym (all_sunk-push sinks own v))
      (HoldsPart-same edges at (λ p. IsMarked roots marks p ⊎ IsMissing roots marks p) (λ p. p < roots) (λ v. all_sunk sinks v ++ sunk_at own v)
      (λ p _ either. elim either [ inl marked ↦ marked.0 | inr missed ↦ missed.0 ])
      (λ p _ low. elim (bool_cases (mark marks (p % length marks))) [ inl marked ↦ inl (low, marked) | inr missed ↦ inr (low, missed) ])
      (HoldsPart-append edges at (IsMarked roots marks) (IsMissing roots marks) (all_sunk sinks) (sunk_at own) come.holds missing (λ p marked missed. both_false (mark marks (p % length marks)) marked.1 missed.1))) in
      IsPartChl-gathered edges at (λ p. p < roots) (all_sunk (sinks ++ own ∷ [])) rows (long ∙ nodes) (λ v low high. gathered v low (omega (arith, nodes))) holds

-- all positions are the whole labelling
pub IsChl-from_part : (edges : List Edge) (at : List ℕ) (n : ℕ) (rows : List (List Entry)) → length at ≡ n → IsPartChl (Joined edges) at (λ p. p < n) rows → IsChl (Joined edges) at rows
IsChl-from_part edges at n rows is part = record {
  size = part.size;
  row = λ v low high. let row = part.row v low high in record {
    rising = row.rising;
    each = λ e. (λ there. ((row.each e).0 there).0, λ hub. (row.each e).1 (hub, let within = slice_get_within at e.pos hub.0 hub.1 in omega (arith, within, is)));
  };
}

-- of the batches that are missing those before b are planted
abbrev pub IsMissingBelow : ℕ → List Bool → ℕ → ℕ → Type 0
IsMissingBelow roots marks b p = IsMissing roots marks p × (p % length marks < b)

-- the positions of a batch so far
abbrev pub IsBatchBelow : ℕ → ℕ → ℕ → ℕ → ℕ → Type 0
IsBatchBelow roots batches b p q = IsOfBatch roots batches b q × (q < p)

module _ (edges : List Edge) (at : List ℕ) (roots : ℕ) where
  pub missing_none : (marks : List Bool) (sink : Sunk) → ((v : ℕ) → sunk_at sink v ≡ []) → HoldsPart edges at (IsMissingBelow roots marks 0) (sunk_at sink)
  missing_none marks sink empty =
      HoldsPart-rows edges at (IsMissingBelow roots marks 0) (λ v. []) (sunk_at sink) (λ v. sym (empty v))
      (HoldsPart-same edges at (λ p. ⊥) (IsMissingBelow roots marks 0) (λ v. []) (λ p _ never. absurd never) (λ p _ below. omega (arith, below.1)) (HoldsPart-none edges at))

  pub missing_skip : (marks : List Bool) (b : ℕ) (sink : Sunk) → mark marks b ≡ true → HoldsPart edges at (IsMissingBelow roots marks b) (sunk_at sink) → HoldsPart edges at (IsMissingBelow roots marks (b + 1)) (sunk_at sink)
  missing_skip marks b sink marked =
      HoldsPart-same edges at (IsMissingBelow roots marks b) (IsMissingBelow roots marks (b + 1)) (sunk_at sink) (λ p _ h. (h.0, omega (arith, h.1)))
      (λ p _ h. (
        h.0,
        elim (cases_eq (p % length marks) b) [
          | inl same ↦ absurd (both_false (mark marks b) marked (subst (λ k. mark marks k ≡ false) same h.0.1))
          | inr other ↦ lesser (p % length marks) b h.1 other
        ],
      ))
    where
      lesser : (x y : ℕ) → x < y + 1 → x ≢ y → x < y
      lesser x y le other = elim (cases_lt x y) [ inl lt ↦ lt | inr ge ↦ absurd (other (omega arith)) ]

  pub missing_planted : (marks : List Bool) (b : ℕ) (old new : Sunk) → mark marks b ≡ false → HoldsPart edges at (IsMissingBelow roots marks b) (sunk_at old) → GainsPart edges at (IsOfBatch roots (length marks) b) old new → HoldsPart edges at (IsMissingBelow roots marks (b + 1)) (sunk_at new)
  missing_planted marks b old new missed holds gains =
      HoldsPart-gains edges at (IsMissingBelow roots marks b) (IsOfBatch roots (length marks) b) (IsMissingBelow roots marks (b + 1)) old new holds gains
      (λ p below here. omega (arith, below.1, here.1))
      (λ p _ either. elim either [
        | inl below ↦ (below.0, omega (arith, below.1))
        | inr here ↦ ((here.0, subst (λ k. mark marks k ≡ false) (sym here.1) missed), omega (arith, here.1))
      ])
      (λ p _ below. elim (cases_lt (p % length marks) b) [ inl less ↦ inl (below.0, less) | inr more ↦ inr (below.0.0, omega (arith, more, below.1)) ])

  pub missing_all : (marks : List Bool) (b : ℕ) (sink : Sunk) → 1 ≤ length marks → length marks ≤ b → HoldsPart edges at (IsMissingBelow roots marks b) (sunk_at sink) → HoldsPart edges at (IsMissing roots marks) (sunk_at sink)
  missing_all marks b sink some past =
      HoldsPart-same edges at (IsMissingBelow roots marks b) (IsMissing roots marks) (sunk_at sink) (λ p _ h. h.0) (λ p _ h. (h, omega (arith, mod-lt p some)))

  pub batch_none : (batches b : ℕ) (sink : Sunk) → b < batches → GainsPart edges at (IsBatchBelow roots batches b b) sink sink
  batch_none batches b sink lt = GainsPart-same edges at (λ p. ⊥) (IsBatchBelow roots batches b b) sink sink (GainsPart-none edges at sink) (λ p _ never. absurd never)
      (λ p _ h. omega (arith, h.0.1, h.1, mod-eq_of_lt {n = p} {m = batches} (omega (arith, h.1, lt))))

  pub batch_more : (batches b p : ℕ) (first old new : Sunk) → 1 ≤ batches → p < roots → p % batches ≡ b → GainsPart edges at (IsBatchBelow roots batches b p) first old → GainsPart edges at (λ q. q ≡ p) old new → GainsPart edges at (IsBatchBelow roots batches b (p + batches)) first new
  batch_more batches b p first old new some low p_is so_far now =
      GainsPart-then edges at (IsBatchBelow roots batches b p) (λ q. q ≡ p) (IsBatchBelow roots batches b (p + batches)) first old new so_far now
      (λ q below here. omega (arith, below.1, here))
      (λ q _ either. elim either [
        | inl below ↦ (below.0, omega (arith, below.1))
        | inr here ↦ ((omega (arith, here, low), ap (λ x. x % batches) here ∙ p_is), omega (arith, here, some))
      ])
      (λ q _ h. elim (cases_lt q p) [ inl less ↦ inl (h.0, less) | inr more ↦ inr (next_of_batch batches b p q p_is h.0.1 more h.1) ])

  pub batch_all : (batches b p : ℕ) (first new : Sunk) → roots ≤ p → GainsPart edges at (IsBatchBelow roots batches b p) first new → GainsPart edges at (IsOfBatch roots batches b) first new
  batch_all batches b p first new past gains = GainsPart-same edges at (IsBatchBelow roots batches b p) (IsOfBatch roots batches b) first new gains (λ q _ h. h.0) (λ q _ h. (h, omega (arith, h.0, past)))

-- what holds of rows where they were made
pub both_ok : {E : Type 0} (r : Result (List (List Entry)) E) (P Q R : List (List Entry) → Type 0) → ((rows : List (List Entry)) → P rows → Q rows → R rows) → IfOk r P → IfOk r Q → IfOk r R
both_ok (Ok rows) P Q R both p q = both rows p q
both_ok (Err e) P Q R both p q = p
