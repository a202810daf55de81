-- The ends of chains.
use Rattle.std.proofs.Common.{◌≡◌, ℕ, ◌≤◌, Bool, true, false, eqb-true, List, [], ◌∷◌, ◌++◌, All, refl, sym, ap, ◌∙◌, arith}
use Rattle.std.specs.Prelude.{Option, Some, None, nat_eq, if◌then◌else◌}
use Rattle.std.proofs.lemmas.List.{append_assoc, append-nil}
use Rattle.std.proofs.lemmas.List.Elements.{All-head, All-tail}
use Rattle.label_pool.specs.declared.rule.Linked.{Linked}
use Rattle.label_pool.specs.declared.rule.Look.{Look}
use Rattle.label_pool.specs.Chains.{named, first_cell, HoldsCell, IsChain, IsWithin, IsTailOf, seen_of}
use Rattle.label_pool.specs.Lawful.{StillIn}

pub tail-self : (chain : List Linked) → IsTailOf chain chain
tail-self chain = record { prefix = []; parted = refl }

pub tail-nothing : (chain : List Linked) → IsTailOf [] chain
tail-nothing chain = record { prefix = chain; parted = sym (append-nil chain) }

pub tail-under : (tail chain : List Linked) (l : Linked) → IsTailOf tail chain → IsTailOf tail (l ∷ chain)
tail-under tail chain l t = record { prefix = l ∷ t.prefix; parted = ap (λ ls. l ∷ ls) t.parted }

pub tail-further : (tail whole chain : List Linked) → IsTailOf tail whole → IsTailOf whole chain → IsTailOf tail chain
tail-further tail whole chain t u = record { prefix = u.prefix ++ t.prefix; parted = u.parted ∙ ap (λ ls. u.prefix ++ ls) t.parted ∙ sym (append_assoc u.prefix t.prefix tail) }

-- the end after the first cell of an end
pub tail-rest : (l : Linked) (ls chain : List Linked) → IsTailOf (l ∷ ls) chain → IsTailOf ls chain
tail-rest l ls chain t = record { prefix = t.prefix ++ l ∷ []; parted = t.parted ∙ sym (append_assoc t.prefix (l ∷ []) ls) }

-- the cell at which an end begins holds its entry, and the name of the next
pub cell-at : (n : ℕ) (words : List ℕ) (prefix : List Linked) (l : Linked) (ls : List Linked) → IsChain n words (prefix ++ l ∷ ls) → HoldsCell n words l (named (first_cell ls))
cell-at n words [] l ls chain = chain.0
cell-at n words (m ∷ prefix) l ls chain = cell-at n words prefix l ls chain.1

pub all-at : (P : Linked → Type 0) (prefix : List Linked) (l : Linked) (ls : List Linked) → All P (prefix ++ l ∷ ls) → P l
all-at P [] l ls all = All-head P l ls all
all-at P (m ∷ prefix) l ls all = all-at P prefix l ls (All-tail P m (prefix ++ l ∷ ls) all)

pub all-after : (P : Linked → Type 0) (prefix ls : List Linked) → All P (prefix ++ ls) → All P ls
all-after P [] ls all = all
all-after P (m ∷ prefix) ls all = all-after P prefix ls (All-tail P m (prefix ++ ls) all)

-- the name of the first of so many cells is small
pub named-small : (cells : ℕ) (chain : List Linked) → All (IsWithin cells) chain → named (first_cell chain) ≤ cells
named-small cells [] within = omega arith
named-small cells (l ∷ ls) within = let here = (All-head (IsWithin cells) l ls within).cell in omega (arith, here)

pub named-same : (a b : Option ℕ) → named a ≡ named b → a ≡ b
named-same None None same = refl
named-same None (Some b) same = absurd (omega (arith, same))
named-same (Some a) None same = absurd (omega (arith, same))
named-same (Some a) (Some b) same = ap Some (omega (arith, same))

-- what was last seen of a node is still the end of its chain
pub seen-still : (v : ℕ) (chain : List Linked) (marks : List Look) → StillIn v chain marks → IsTailOf (seen_of marks v) chain
seen-still v chain [] still = tail-nothing chain
seen-still v chain (m ∷ ms) still =
    by_test (nat_eq m.node v) (λ is. All-head (λ look. look.node ≡ v → IsTailOf look.found chain) m ms still (eqb-true m.node v is))
    (seen-still v chain ms (All-tail (λ look. look.node ≡ v → IsTailOf look.found chain) m ms still))
  where
    by_test : (t : Bool) → (t ≡ true → IsTailOf m.found chain) → IsTailOf (seen_of ms v) chain → IsTailOf (if t then m.found else seen_of ms v) chain
    by_test true here rest = here refl
    by_test false here rest = rest
