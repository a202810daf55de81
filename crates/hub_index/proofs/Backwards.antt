-- Entries that come from the last one on.
use Rattle.std.proofs.Common.{◌≡◌, ◌↔◌, List, [], ◌∷◌, ◌++◌, Contains, reverse, sym, ap, subst, ◌∙◌}
use Rattle.std.specs.Iterator.{Yields, YieldsFirst}
use Rattle.std.proofs.lemmas.List.{append-nil}
use Rattle.std.proofs.lemmas.List.Elements.{Contains-append_right}
use Rattle.std.proofs.lemmas.List.Sorted.{Contains-permutation, IsPermutation-reverse, IsPermutation-sym}
use Rattle.walk_laws.specs.declared.entry.Entry.{Entry}
use Rattle.walk_laws.proofs.Members.{Contains-first}

-- the entries are the same ones from the last one on
pub Contains-backwards : (entries : List Entry) (e : Entry) → Contains entries e ↔ Contains (reverse entries) e
Contains-backwards entries e =
    let moved = IsPermutation-reverse entries in (
      λ h. Contains-permutation entries (reverse entries) e moved h,
      λ h. Contains-permutation (reverse entries) entries e (IsPermutation-sym entries (reverse entries) moved) h,
    )

-- calls on an iterator whose rest is `rest` gave these entries, and `left` is left
abbrev pub Came : List Entry → List Entry → List Entry → Type 0
Came rest came left = Yields (YieldsFirst (λ (es : List Entry). es)) rest came left

-- what came, and then what is left, is all
pub came_by : (rest came left : List Entry) → Came rest came left → rest ≡ came ++ left
came_by rest [] left y = y
came_by rest (e ∷ es) left y = y.1 ∙ ap (λ fs. e ∷ fs) (came_by y.0 es left y.2)

module _ (entries rest came left : List Entry) (whole : rest ≡ reverse entries) (y : Came rest came left) where
  -- where nothing is left all entries came, from the last one on
  pub all_came : left ≡ [] → came ≡ reverse entries
  all_came none = sym (came_by rest came left y ∙ ap (λ es. came ++ es) none ∙ append-nil came) ∙ whole

  -- the next one that comes is one of the entries
  pub next_stands : (e : Entry) (es : List Entry) → left ≡ e ∷ es → Contains entries e
  next_stands e es next =
      let there : Contains left e = subst (λ fs. Contains fs e) (sym next) (Contains-first e es) in
      (Contains-backwards entries e).1 (subst (λ fs. Contains fs e) (sym (came_by rest came left y) ∙ whole) (Contains-append_right came left e there))
