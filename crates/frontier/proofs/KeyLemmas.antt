-- HeapEntries that stand as numbers: the numbers rise with the distances, and a list of them gains what its heap entries gain.
use Rattle.std.proofs.Common.{◌≡◌, ◌⊎◌, ℕ, zero, suc, ◌^◌, ◌/◌, ◌<◌, ◌≤◌, false, inl, inr, List, [], ◌∷◌, ◌++◌, All, Contains, length, get_or, map, refl, sym, ap, subst, ◌∙◌, arith}
use Rattle.std.specs.declared.cmp.Reverse.{Reverse}
use Rattle.std.specs.Ordering.{nat_cmp, is_lt}
use Rattle.std.specs.BinaryHeap.{IsUpperBound}
use Rattle.std.specs.List.Sorted.{IsPermutation}
use Rattle.std.proofs.lemmas.Bool.Decides.{nat_tests}
use Rattle.std.proofs.lemmas.List.{get_or-map, length-map, length-append}
use Rattle.std.proofs.lemmas.List.Elements.{All-append, All-cons, All-contains_itself, All-from_recursion, All-head, All-map, All-tail, All-weaker, Contains-append_left, Contains-append_right}
use Rattle.std.proofs.lemmas.List.Sorted.{All-permutation, Contains-permutation, length_permutation, IsPermutation-sym}
use Rattle.std.proofs.lemmas.Nat.{le-div, div-mul-add, mod-mul-add}
use Rattle.std.proofs.Math.Nat.{div-mul-le_self}
use Rattle.frontier.specs.declared.heap_entry.HeapEntry.{HeapEntry}
use Rattle.frontier.specs.HeapEntryOf.{heap_entry_of, heap_entry_at, key_of}
use Rattle.frontier.specs.HeapEntryLists.{heap_entries_of, Gains, Loses}

module _ {X : Type 0} where
  first_of : (x : X) (xs : List X) → Contains (x ∷ xs) x
  first_of x xs = (0, omega arith, refl)

  first_or : (x y : X) (xs : List X) (k : ℕ) → k < length (x ∷ xs) → get_or (x ∷ xs) k y ≡ y → (y ≡ x) ⊎ Contains xs y
  first_or x y xs zero lt is = inl (sym is)
  first_or x y xs (suc k) lt is = inr (k, omega arith, is)

  -- a list that has the elements of another and x, in any order
  pub Gains-permutation : (old new : List X) (x : X) → IsPermutation (x ∷ old) new → Gains old new x
  Gains-permutation old new x moved =
      let all : All (Contains new) (x ∷ old) = All-weaker (Contains (x ∷ old)) (Contains new) (λ y there. Contains-permutation (x ∷ old) new y moved there) (x ∷ old) (All-contains_itself (x ∷ old)) in
      record {
        there = Contains-permutation (x ∷ old) new x moved (first_of x old);
        still = All-tail (Contains new) x old all;
        only = All-weaker (Contains new) (λ y. (y ≡ x) ⊎ Contains old y) (λ y there. one y (Contains-permutation new (x ∷ old) y (IsPermutation-sym (x ∷ old) new moved) there)) new (All-contains_itself new);
      }
    where
      one : (y : X) → Contains (x ∷ old) y → (y ≡ x) ⊎ Contains old y
      one y there = first_or x y old there.0 there.1 there.2

  -- others stand before both
  pub Gains-after : (prefix old new : List X) (x : X) → Gains old new x → Gains (prefix ++ old) (prefix ++ new) x
  Gains-after prefix old new x more = record {
    there = Contains-append_right prefix new x more.there;
    still = All-append (Contains (prefix ++ new)) prefix old
        (All-weaker (Contains prefix) (Contains (prefix ++ new)) (λ y there. Contains-append_left prefix new y there) prefix (All-contains_itself prefix))
        (All-weaker (Contains new) (Contains (prefix ++ new)) (λ y there. Contains-append_right prefix new y there) old more.still);
    only = All-append (λ y. (y ≡ x) ⊎ Contains (prefix ++ old) y) prefix new
        (All-weaker (Contains prefix) (λ y. (y ≡ x) ⊎ Contains (prefix ++ old) y) (λ y there. inr (Contains-append_left prefix old y there)) prefix (All-contains_itself prefix))
        (All-weaker (λ y. (y ≡ x) ⊎ Contains old y) (λ y. (y ≡ x) ⊎ Contains (prefix ++ old) y) (λ y one. elim one [
          | inl this ↦ inl this
          | inr there ↦ inr (Contains-append_right prefix old y there)
        ]) new more.only);
  }

  -- others stand after both
  pub Gains-before : (old new back : List X) (x : X) → Gains old new x → Gains (old ++ back) (new ++ back) x
  Gains-before old new back x more = record {
    there = Contains-append_left new back x more.there;
    still = All-append (Contains (new ++ back)) old back
        (All-weaker (Contains new) (Contains (new ++ back)) (λ y there. Contains-append_left new back y there) old more.still)
        (All-weaker (Contains back) (Contains (new ++ back)) (λ y there. Contains-append_right new back y there) back (All-contains_itself back));
    only = All-append (λ y. (y ≡ x) ⊎ Contains (old ++ back) y) new back
        (All-weaker (λ y. (y ≡ x) ⊎ Contains old y) (λ y. (y ≡ x) ⊎ Contains (old ++ back) y) (λ y one. elim one [
          | inl this ↦ inl this
          | inr there ↦ inr (Contains-append_left old back y there)
        ]) new more.only)
        (All-weaker (Contains back) (λ y. (y ≡ x) ⊎ Contains (old ++ back) y) (λ y there. inr (Contains-append_right old back y there)) back (All-contains_itself back));
  }

module _ {X Y : Type 0} (f : X → Y) where
  mapped : (xs : List X) (x : X) → Contains xs x → Contains (map f xs) (f x)
  mapped xs x there =
      let long = length-map xs f in
      let lt = there.1 in
      (there.0, omega arith, get_or-map f xs there.0 x (f x) lt ∙ ap f there.2)

  -- what stands for the elements of both
  pub Gains-map : (old new : List X) (x : X) → Gains old new x → Gains (map f old) (map f new) (f x)
  Gains-map old new x more = record {
    there = mapped new x more.there;
    still = All-map (Contains (map f new)) f old (All-weaker (Contains new) (λ y. Contains (map f new) (f y)) (λ y there. mapped new y there) old more.still);
    only = All-map (λ z. (z ≡ f x) ⊎ Contains (map f old) z) f new (All-weaker (λ y. (y ≡ x) ⊎ Contains old y) (λ y. (f y ≡ f x) ⊎ Contains (map f old) (f y)) (λ y one. elim one [
      | inl this ↦ inl (ap f this)
      | inr there ↦ inr (mapped old y there)
    ]) new more.only);
  }

-- the heap entry that a number stands for
abbrev pub heap_entry_of_key : Reverse ℕ → HeapEntry
heap_entry_of_key key = heap_entry_at key.0

pub heap_entry_at-key : (node dist : ℕ) → node < 2 ^ 32 → heap_entry_at (key_of node dist) ≡ heap_entry_of node dist
heap_entry_at-key node dist small = λ i. heap_entry_of (mod-mul-add dist (2 ^ 32) node small i) (div-mul-add dist (2 ^ 32) node small i)

-- a lesser number is of a heap entry that is no farther
nearer_key : (a b : ℕ) → a ≤ b → a / 2 ^ 32 ≤ b / 2 ^ 32
nearer_key a b le =
    let whole = div-mul-le_self a (2 ^ 32) in
    le-div (a / 2 ^ 32) b (2 ^ 32) (omega arith) (omega (arith, whole, le))

-- the number of a short heap entry
short_key : (a : ℕ) → a < 2 ^ 64 → a / 2 ^ 32 < 2 ^ 32
short_key a small = omega (arith, small, div-mul-le_self a (2 ^ 32))

no_nearer_key : (k m : Reverse ℕ) → is_lt (nat_cmp m.0 k.0) ≡ false → k.0 ≤ m.0
no_nearer_key k m h = grind (arith, nat_tests)

no_nearer : (t s : HeapEntry) → is_lt (nat_cmp s.dist.0 t.dist.0) ≡ false → t.dist.0 ≤ s.dist.0
no_nearer t s h = grind (arith, nat_tests)

-- a short heap entry is added
pub Gains-short : (short now : List (Reverse ℕ)) (far : List HeapEntry) (node dist : ℕ) → node < 2 ^ 32 → IsPermutation (record { 0 = key_of node dist } ∷ short) now → Gains (heap_entries_of short far) (heap_entries_of now far) (heap_entry_of node dist)
Gains-short short now far node dist small moved =
    subst (Gains (heap_entries_of short far) (heap_entries_of now far)) (heap_entry_at-key node dist small)
    (Gains-before (map heap_entry_of_key short) (map heap_entry_of_key now) far (heap_entry_at (key_of node dist))
    (Gains-map heap_entry_of_key short now (record { 0 = key_of node dist }) (Gains-permutation short now (record { 0 = key_of node dist }) moved)))

-- a far heap entry is added
pub Gains-far : (short : List (Reverse ℕ)) (far now : List HeapEntry) (t : HeapEntry) → IsPermutation (t ∷ far) now → Gains (heap_entries_of short far) (heap_entries_of short now) t
Gains-far short far now t moved = Gains-after (map heap_entry_of_key short) far now t (Gains-permutation far now t moved)

-- a far heap entry that is added is far off, as the others are
pub far_off-more : (far now : List HeapEntry) (t : HeapEntry) → All (λ s. 2 ^ 32 ≤ s.dist.0) far → 2 ^ 32 ≤ t.dist.0 → IsPermutation (t ∷ far) now → All (λ s. 2 ^ 32 ≤ s.dist.0) now
far_off-more far now t off this moved = All-permutation (λ s. 2 ^ 32 ≤ s.dist.0) (t ∷ far) now moved (All-cons (λ s. 2 ^ 32 ≤ s.dist.0) t far this off)

-- the far heap entries that are left are far off
pub far_off-left : (far now : List HeapEntry) (t : HeapEntry) → All (λ s. 2 ^ 32 ≤ s.dist.0) far → IsPermutation far (t ∷ now) → All (λ s. 2 ^ 32 ≤ s.dist.0) now
far_off-left far now t off moved = All-tail (λ s. 2 ^ 32 ≤ s.dist.0) t now (All-permutation (λ s. 2 ^ 32 ≤ s.dist.0) far (t ∷ now) moved off)

-- the number of a short heap entry fits
pub short_by-more : (short now : List (Reverse ℕ)) (node dist : ℕ) → All (λ k. k.0 < 2 ^ 64) short → node < 2 ^ 32 → dist < 2 ^ 32 → IsPermutation (record { 0 = key_of node dist } ∷ short) now → All (λ k. k.0 < 2 ^ 64) now
short_by-more short now node dist by small this moved = All-permutation (λ k. k.0 < 2 ^ 64) (record { 0 = key_of node dist } ∷ short) now moved (All-cons (λ k. k.0 < 2 ^ 64) (record { 0 = key_of node dist }) short (omega (arith, small, this)) by)

-- the numbers that are left fit
pub short_by-left : (short now : List (Reverse ℕ)) (key : Reverse ℕ) → All (λ k. k.0 < 2 ^ 64) short → IsPermutation short (key ∷ now) → All (λ k. k.0 < 2 ^ 64) now
short_by-left short now key by moved = All-tail (λ k. k.0 < 2 ^ 64) key now (All-permutation (λ k. k.0 < 2 ^ 64) short (key ∷ now) moved by)

-- the nearest of the short heap entries is taken out
pub Loses-short : (short now : List (Reverse ℕ)) (far : List HeapEntry) (key : Reverse ℕ) → All (λ s. 2 ^ 32 ≤ s.dist.0) far → All (λ k. k.0 < 2 ^ 64) short → IsUpperBound (λ a b. nat_cmp b.0 a.0) key short → IsPermutation short (key ∷ now) → Loses (heap_entries_of short far) (heap_entries_of now far) (heap_entry_at key.0)
Loses-short short now far key off by least moved =
    let small : key.0 < 2 ^ 64 = All-head (λ k. k.0 < 2 ^ 64) key now (All-permutation (λ k. k.0 < 2 ^ 64) short (key ∷ now) moved by) in
    record {
      others = Gains-before (map heap_entry_of_key now) (map heap_entry_of_key short) far (heap_entry_at key.0)
          (Gains-map heap_entry_of_key now short key (Gains-permutation now short key (IsPermutation-sym short (key ∷ now) moved)));
      nearest = All-append (λ s. key.0 / 2 ^ 32 ≤ s.dist.0) (map heap_entry_of_key short) far
          (All-map (λ s. key.0 / 2 ^ 32 ≤ s.dist.0) heap_entry_of_key short (All-weaker (λ m. is_lt (nat_cmp m.0 key.0) ≡ false) (λ m. key.0 / 2 ^ 32 ≤ m.0 / 2 ^ 32) (λ m h. nearer_key key.0 m.0 (no_nearer_key key m h)) short (All-from_recursion (λ m. is_lt (nat_cmp m.0 key.0) ≡ false) short least)))
          (All-weaker (λ s. 2 ^ 32 ≤ s.dist.0) (λ s. key.0 / 2 ^ 32 ≤ s.dist.0) (λ s h. omega (arith, h, short_key key.0 small)) far off);
      fewer = omega (arith, length_permutation short (key ∷ now) moved, length-map short heap_entry_of_key, length-map now heap_entry_of_key, length-append (map heap_entry_of_key short) far, length-append (map heap_entry_of_key now) far);
    }

-- the nearest of the far heap entries is taken out, where none is short
pub Loses-far : (short : List (Reverse ℕ)) (far now : List HeapEntry) (t : HeapEntry) → short ≡ [] → IsUpperBound (λ a b. nat_cmp b.dist.0 a.dist.0) t far → IsPermutation far (t ∷ now) → Loses (heap_entries_of short far) (heap_entries_of short now) t
Loses-far short far now t none least moved = rw none (record {
  others = Gains-permutation now far t (IsPermutation-sym far (t ∷ now) moved);
  nearest = All-weaker (λ s. is_lt (nat_cmp s.dist.0 t.dist.0) ≡ false) (λ s. t.dist.0 ≤ s.dist.0) (λ s h. no_nearer t s h) far (All-from_recursion (λ s. is_lt (nat_cmp s.dist.0 t.dist.0) ≡ false) far least);
  fewer = omega (arith, length_permutation far (t ∷ now) moved);
})
