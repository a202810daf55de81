-- What trees put at a node: of no root, of one, of some and then of others.
use Rattle.std.proofs.Common.{◌≡◌, inl, inr, true, false, ℕ, zero, suc, ◌≤◌, eqb, eq-eqb, List, [], ◌∷◌, ◌++◌, All, Contains, length, map, sym, ap, subst, ◌∙◌, append_assoc, arith}
use Rattle.std.specs.Prelude.{Some, slice_get, Result, Ok, Err, IsOk, IsErr, IfOk}
use Rattle.std.specs.List.{IsDistinct}
use Rattle.std.specs.declared.alloc.AllocError.{AllocError}
use Rattle.std.proofs.lemmas.List.{append-nil, append_cancel_left, map-append, length-append}
use Rattle.std.proofs.lemmas.List.Elements.{All-append, All-contains, All-contains_itself, All-from_recursion, All-map, All-weaker, recursion_from_All, Contains-append_left, Contains-append_right, Contains-append_cases}
use Rattle.std.proofs.lemmas.Bool.{ne_eqb}
use mathlib.Core.Bool.{true≢false}
use Rattle.std.proofs.lemmas.Map.Keys.{IsDistinct-head, IsDistinct-tail, IsDistinct-cons}
use Rattle.walk_laws.specs.declared.graph.Edge.{Edge}
use Rattle.walk_laws.specs.declared.entry.Entry.{Entry}
use Rattle.walk_laws.specs.Joined.{Joined}
use Rattle.walk_laws.specs.Labelling.{EntryFits, IsHubEntry}
use Rattle.walk_laws.proofs.Members.{Contains-first, Contains-next, Contains-cons_cases, Contains-empty}
use Rattle.pruned_tree.specs.Grown.{Gains, IsGrown}
use Rattle.pruned_tree.specs.GrownBy.{IsGrownBy, HasGrown}

abbrev pub pos_of : Entry → ℕ
pos_of e = e.pos

abbrev entry : ℕ → ℕ → Entry
entry p d = record { pos = p; dist = d }

-- what holds where a result is a value holds of a value
pub when_ok : {T E : Type 0} (r : Result T E) (P : Type 0) → IsOk r → IfOk r (λ _. P) → P
when_ok (Ok x) P ok h = h
when_ok (Err e) P ok h = absurd (true≢false (sym ok))

pub not_ok : {T E : Type 0} (r : Result T E) → IsOk r → IsErr r → ⊥
not_ok (Ok x) ok err = true≢false (sym err)
not_ok (Err e) ok err = true≢false (sym ok)

-- no number stands in both lists
abbrev pub AreApart : List ℕ → List ℕ → Type 0
AreApart xs ys = (x : ℕ) → Contains xs x → Contains ys x → ⊥

-- the parts of a list whose numbers differ are apart
pub AreApart-distinct : (xs ys : List ℕ) → IsDistinct eqb (xs ++ ys) → AreApart xs ys
AreApart-distinct [] ys once x here there = absurd (Contains-empty x here)
AreApart-distinct (y ∷ xs) ys once x here there = elim (Contains-cons_cases y x xs here) [
  | inl is ↦
      let others : All (λ z. eqb y z ≡ false) (xs ++ ys) = All-from_recursion (λ z. eqb y z ≡ false) (xs ++ ys) (IsDistinct-head eqb y (xs ++ ys) once) in
      let differ : eqb y x ≡ false = All-contains (λ z. eqb y z ≡ false) (xs ++ ys) x others (Contains-append_right xs ys x there) in
      let same : eqb y x ≡ true = eq-eqb y x is in
      absurd cc
  | inr later ↦ AreApart-distinct xs ys (IsDistinct-tail eqb y (xs ++ ys) once) x later there
]

-- lists that are apart, and in each of which no two are the same, are such a list together
pub IsDistinct-both : (xs ys : List ℕ) → IsDistinct eqb xs → IsDistinct eqb ys → AreApart xs ys → IsDistinct eqb (xs ++ ys)
IsDistinct-both [] ys first second apart = second
IsDistinct-both (x ∷ xs) ys first second apart =
    IsDistinct-cons eqb x (xs ++ ys)
    (recursion_from_All (λ z. eqb x z ≡ false) (xs ++ ys) (All-append (λ z. eqb x z ≡ false) xs ys (All-from_recursion (λ z. eqb x z ≡ false) xs (IsDistinct-head eqb x xs first)) (other_all ys apart)))
    (IsDistinct-both xs ys (IsDistinct-tail eqb x xs first) second (λ z here there. apart z (Contains-next x z xs here) there))
  where
    other_all : (zs : List ℕ) → ((z : ℕ) → Contains (x ∷ xs) z → Contains zs z → ⊥) → All (λ z. eqb x z ≡ false) zs
    other_all zs apart = All-weaker (Contains zs) (λ z. eqb x z ≡ false) (λ z there. ne_eqb x z (λ same. apart z (subst (Contains (x ∷ xs)) same (Contains-first x xs)) there)) zs (All-contains_itself zs)

-- where the entries' positions stand
Contains-positions : (roots : List ℕ) (row : List Entry) (p : ℕ) → All (λ e. Contains roots e.pos) row → Contains (map pos_of row) p → Contains roots p
Contains-positions roots row p all there = All-contains (Contains roots) (map pos_of row) p (All-map (Contains roots) pos_of row all) there

-- one entry
All-one : (P : Entry → Type 0) (e : Entry) → P e → All P (e ∷ [])
All-one P e h zero d within = h
All-one P e h (suc k) d within = absurd (omega (arith, within))

module _ (edges : List Edge) (at : List ℕ) where
  -- no tree
  pub IsGrownBy-none : (whole : Type 0) (v : ℕ) (row : List Entry) → IsGrownBy edges at [] whole v row row
  unfolding IsDistinct
  IsGrownBy-none whole v row = record {
    puts = [];
    joined = sym (append-nil row);
    fit = λ k d within. absurd (omega (arith, within));
    once = tt;
    of_roots = λ k d within. absurd (omega (arith, within));
    hubs = λ w e hub there. absurd (Contains-empty e.pos there);
  }

  one_entry : (p d : ℕ) → All (λ e. Contains (p ∷ []) e.pos) (entry p d ∷ [])
  one_entry p d zero x within = Contains-first p []
  one_entry p d (suc k) x within = absurd (omega (arith, within))

  -- the tree of one root
  pub IsGrownBy-tree : (p : ℕ) (seen before after : ℕ → List Entry) (result : Result ℕ AllocError) → IsGrown edges at p seen before after result → (whole : Type 0) → (whole → IsOk result) → (v : ℕ) → 1 ≤ v → IsGrownBy edges at (p ∷ []) whole v (before v) (after v)
  unfolding IsDistinct
  IsGrownBy-tree p seen before after result grown whole ok v from_one = elim (grown.pruned.one v from_one) [
    | inl same ↦ record {
      puts = [];
      joined = same ∙ sym (append-nil (before v));
      fit = λ k d within. absurd (omega (arith, within));
      once = tt;
      of_roots = λ k d within. absurd (omega (arith, within));
      hubs = λ w e hub there. absurd (not_longer (before v) (entry p e.dist) (sym (gained w e hub there) ∙ same));
    }
    | inr got ↦ record {
      puts = entry p got.0 ∷ [];
      joined = got.1;
      fit = All-one (EntryFits (Joined edges) at v) (entry p got.0) (grown.pruned.fits v got.0 from_one got.1);
      once = (tt, tt);
      of_roots = one_entry p got.0;
      hubs = λ w e hub there.
          let one : entry p e.dist ∷ [] ≡ entry p got.0 ∷ [] = append_cancel_left (before v) (entry p e.dist ∷ []) (entry p got.0 ∷ []) (sym (gained w e hub there) ∙ got.1) in
          let own : entry p e.dist ≡ e = ap (λ q. entry q e.dist) (sym (is_root e there)) in
          subst (λ row. Contains row e) one (subst (Contains (entry p e.dist ∷ [])) own (Contains-first (entry p e.dist) []));
    }
  ]
    where
      not_longer : (xs : List Entry) (e : Entry) → xs ++ e ∷ [] ≡ xs → ⊥
      not_longer xs e same = omega (arith, length-append xs (e ∷ []), ap length same)

      is_root : (e : Entry) → Contains (p ∷ []) e.pos → e.pos ≡ p
      is_root e there = elim (Contains-cons_cases p e.pos [] there) [ inl is ↦ sym is | inr none ↦ absurd (Contains-empty e.pos none) ]

      gained : whole → (e : Entry) → IsHubEntry (Joined edges) at v e → Contains (p ∷ []) e.pos → Gains before after p v e.dist
      gained w e hub there = when_ok result _ (ok w) grown.complete hub.0 v e.dist (subst (λ q. slice_get at q ≡ Some hub.0) (is_root e there) hub.1) hub.2

  -- trees of some roots, and then of others
  pub IsGrownBy-then : (first second : List ℕ) (one two whole : Type 0) (v : ℕ) (before mid after : List Entry) → IsGrownBy edges at first one v before mid → IsGrownBy edges at second two v mid after → AreApart first second → (whole → one × two) → IsGrownBy edges at (first ++ second) whole v before after
  IsGrownBy-then first second one two whole v before mid after a b apart both = record {
    puts = a.puts ++ b.puts;
    joined = b.joined ∙ ap (λ row. row ++ b.puts) a.joined ∙ append_assoc before a.puts b.puts;
    fit = All-append (EntryFits (Joined edges) at v) a.puts b.puts a.fit b.fit;
    once =
        subst (IsDistinct eqb) (sym (map-append pos_of a.puts b.puts))
        (IsDistinct-both (map pos_of a.puts) (map pos_of b.puts) a.once b.once (λ p here there. apart p (Contains-positions first a.puts p a.of_roots here) (Contains-positions second b.puts p b.of_roots there)));
    of_roots =
        All-append (λ e. Contains (first ++ second) e.pos) a.puts b.puts
        (All-weaker (λ (e : Entry). Contains first e.pos) (λ e. Contains (first ++ second) e.pos) (λ e there. Contains-append_left first second e.pos there) a.puts a.of_roots)
        (All-weaker (λ (e : Entry). Contains second e.pos) (λ e. Contains (first ++ second) e.pos) (λ e there. Contains-append_right first second e.pos there) b.puts b.of_roots);
    hubs = λ w e hub there. elim (Contains-append_cases first second e.pos there) [
      | inl here ↦ Contains-append_left a.puts b.puts e (a.hubs (both w).0 e hub here)
      | inr later ↦ Contains-append_right a.puts b.puts e (b.hubs (both w).1 e hub later)
    ];
  }

  -- the same entries after others
  pub IsGrownBy-after : (roots : List ℕ) (whole : Type 0) (v : ℕ) (row after : List Entry) → IsGrownBy edges at roots whole v [] after → IsGrownBy edges at roots whole v row (row ++ after)
  IsGrownBy-after roots whole v row after g = record {
    puts = g.puts;
    joined = ap (λ xs. row ++ xs) g.joined;
    fit = g.fit;
    once = g.once;
    of_roots = g.of_roots;
    hubs = g.hubs;
  }

  -- trees of roots that were claimed, and then of others
  pub HasGrown-then : (one two whole : Type 0) (got mid now : List ℕ) (a b c : ℕ → List Entry) → HasGrown edges at one got mid a b → HasGrown edges at two mid now b c → IsDistinct eqb now → (whole → one × two) → HasGrown edges at whole got now a c
  HasGrown-then one two whole got mid now a b c first second once both =
      let all : now ≡ (got ++ first.0) ++ second.0 = second.1 ∙ ap (λ xs. xs ++ second.0) first.1 in
      let apart : AreApart first.0 second.0 = λ x here there. AreApart-distinct (got ++ first.0) second.0 (subst (IsDistinct eqb) all once) x (Contains-append_right got first.0 x here) there in
      (first.0 ++ second.0, all ∙ append_assoc got first.0 second.0, λ v node. IsGrownBy-then first.0 second.0 one two whole v (a v) (b v) (c v) (first.2 v node) (second.2 v node) apart both)
