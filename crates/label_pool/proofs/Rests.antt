-- A walk that stands at a cell: what is left of it, and what it gives next.
use Rattle.std.proofs.Common.{◌≡◌, ◌<◌, ℕ, List, [], ◌∷◌, All, sym, ap, subst, refl}
use Rattle.std.specs.Prelude.{Option, Some, None, Contains}
use Rattle.std.proofs.lemmas.List.Elements.{All-contains}
use Rattle.walk_laws.specs.declared.entry.Entry.{Entry}
use Rattle.label_pool.specs.declared.rule.Linked.{Linked}
use Rattle.label_pool.specs.declared.rule.Look.{Look}
use Rattle.label_pool.specs.Chains.{first_cell, IsTailOf, IsRest, IsNext}
use Rattle.label_pool.proofs.Tails.{tail-rest, all-at}

-- the cell stands in a chain that was found
pub record IsAt (looks : List Look) (cell : ℕ) : Type 0 where
  pub look : Look
  pub l : Linked
  pub ls : List Linked
  pub there : Contains looks look
  pub tail : IsTailOf (l ∷ ls) look.found
  pub is : l.cell ≡ cell

number_of : Option ℕ → ℕ
number_of None = 0
number_of (Some x) = x

pub rest-at : (looks : List Look) (cell : ℕ) (rest : List Linked) → IsRest looks (Some cell) rest → IsAt looks cell
unfolding number_of
rest-at looks cell [] r = let wrong : Some cell ≡ None = r.at_first in absurd cc
rest-at looks cell (l ∷ ls) r = record { look = r.look; l = l; ls = ls; there = r.there; tail = r.tail; is = ap number_of (sym r.at_first) }

pub cell-within : (looks : List Look) (cells cell : ℕ) → All (λ look. All (λ l. l.cell < cells) look.found) looks → IsAt looks cell → cell < cells
cell-within looks cells cell within at =
    let found = All-contains (λ look. All (λ l. l.cell < cells) look.found) looks at.look within at.there in
    subst (λ c. c < cells) at.is (all-at (λ l. l.cell < cells) at.tail.prefix at.l at.ls (subst (All (λ l. l.cell < cells)) at.tail.parted found))

-- what a walk gives that stands at a cell
pub next-given : (looks : List Look) (cell : ℕ) (given : Option Entry) (at : Option ℕ) (rest : List Linked)
    → ((look : Look) (l : Linked) (ls : List Linked) → Contains looks look → IsTailOf (l ∷ ls) look.found → l.cell ≡ cell → (given ≡ Some l.entry) × (at ≡ first_cell ls))
    → IsRest looks (Some cell) rest → IsNext looks rest given at
unfolding number_of
next-given looks cell given at [] told r = let wrong : Some cell ≡ None = r.at_first in absurd cc
next-given looks cell given at (l ∷ ls) told r =
    let t = told r.look l ls r.there r.tail (ap number_of (sym r.at_first)) in
    (t.0, record { look = r.look; there = r.there; tail = tail-rest l ls r.look.found r.tail; at_first = t.1 })

-- what a walk gives that stands at the end
pub end-given : (looks : List Look) (rest : List Linked) → IsRest looks None rest → IsNext looks rest None None
end-given looks [] r = (refl, r)
end-given looks (l ∷ ls) r = let wrong : None ≡ Some l.cell = r.at_first in absurd cc
