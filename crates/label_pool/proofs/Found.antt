-- What the load of a head tells is the whole chain that stands there.
use Rattle.std.proofs.Common.{◌≡◌, ℕ, List, [], ◌∷◌, ◌++◌, refl, sym, ap, ◌∙◌, subst, arith}
use Rattle.std.specs.Prelude.{Contains, slice_index}
use Rattle.std.proofs.lemmas.List.Elements.{All-contains, Contains-push}
use Rattle.atomic_table.proofs.Lists.{set_here}
use Rattle.walk_laws.specs.declared.entry.Entry.{Entry}
use Rattle.table_seats.specs.Seats.{knowing}
use Rattle.table_seats.proofs.EachSeat.{within}
use Rattle.label_pool.specs.declared.rule.Linked.{Linked}
use Rattle.label_pool.specs.declared.rule.Look.{Look}
use Rattle.label_pool.specs.Chains.{named, first_cell, IsChain, IsTailOf}
use Rattle.label_pool.specs.Laws.{FindsAll}
use Rattle.label_pool.specs.Layout.{next_at, dist_at, name_in, pos_in}
use Rattle.label_pool.specs.Steps.{Found, with_look}

-- two chains that the words lead along from one cell are the same
chain-unique : (n : ℕ) (words : List ℕ) (xs ys : List Linked) → named (first_cell xs) ≡ named (first_cell ys) → IsChain n words xs → IsChain n words ys → xs ≡ ys
chain-unique n words [] [] same a b = refl
chain-unique n words [] (y ∷ ys) same a b = absurd (omega (arith, same))
chain-unique n words (x ∷ xs) [] same a b = absurd (omega (arith, same))
chain-unique n words (x ∷ xs) (y ∷ ys) same a b =
    let cell : x.cell ≡ y.cell = omega (arith, same) in
    let nexts : named (first_cell xs) ≡ named (first_cell ys) = sym a.0.next ∙ ap (λ c. name_in (slice_index words (next_at n c))) cell ∙ b.0.next in
    let pos : x.entry.pos ≡ y.entry.pos = sym a.0.pos ∙ ap (λ c. pos_in (slice_index words (next_at n c))) cell ∙ b.0.pos in
    let dist : x.entry.dist ≡ y.entry.dist = sym a.0.dist ∙ ap (λ c. slice_index words (dist_at n c)) cell ∙ b.0.dist in
    let rest = chain-unique n words xs ys nexts a.1 b.1 in
    (λ k. record { cell = cell k; entry = record { pos = pos k; dist = dist k } } ∷ rest k)

chain-after : (n : ℕ) (words : List ℕ) (prefix ls : List Linked) → IsChain n words (prefix ++ ls) → IsChain n words ls
chain-after n words [] ls chain = chain
chain-after n words (m ∷ prefix) ls chain = chain-after n words prefix ls chain.1

module _ {F : Type 0} (fact : F → ℕ → Entry → Type 0) where
  pub finds-all : FindsAll fact (Found fact)
  finds-all about s id v step me after lawful seat node at tells kept =
      let f = tells v at in
      let look : Look = record { node = v; found = f.found } in
      let there : Contains after.0.knows.looks look = subst (λ ls. Contains ls look) (sym (ap (λ a. a.knows.looks) f.view)) (Contains-push me.0.knows.looks look) in
      let last = kept.chains v node in
      let found = last.1.found id after.0 (set_here s.views id after.0 (within s.views id me.0 seat.0)) in
      let tail : IsTailOf f.found last.0 = All-contains (λ l. l.node ≡ v → IsTailOf l.found last.0) after.0.knows.looks look found there refl in
      let linked : IsChain about.n s.words f.found = chain-after about.n s.words tail.prefix f.found (subst (IsChain about.n s.words) tail.parted last.1.linked) in
      let c = lawful.chains v node in
      let whole : c.0 ≡ f.found = chain-unique about.n s.words c.0 f.found (sym c.1.head ∙ f.first) c.1.linked linked in
      (c.0, c.1, f.view ∙ ap (λ ls. knowing me.0 (with_look me.0.knows v ls)) (sym whole))
