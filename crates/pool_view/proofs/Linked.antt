-- What a link leads to, and the entries of a chain.
use Rattle.std.proofs.Common.{◌≡◌, ℕ, zero, suc, ◌-◌, ◌<◌, ◌≤◌, List, [], ◌∷◌, ◌++◌, get_or, refl, sym, ap, subst, ◌∙◌, arith}
use Rattle.std.proofs.lemmas.List.{get_or_append_left, length-append}
use Rattle.walk_laws.specs.declared.entry.Entry.{Entry}
use Rattle.hub_index.specs.declared.node_entry.NodeEntry.{NodeEntry}
use Rattle.hub_index.specs.NodeEntries.{entry_of}
use Rattle.pool_view.specs.Links.{IsChain, IsLink, chain_from}

module _ (entries : List NodeEntry) (nexts : List ℕ) where
  -- a chain goes on where links are put after the others
  pub IsChain-more : (x link : ℕ) (es : List Entry) → IsChain entries nexts link es → IsChain entries (nexts ++ x ∷ []) link es
  IsChain-more x link [] is = is
  IsChain-more x link (e ∷ es) is =
      let here = is.0 in
      let same : get_or (nexts ++ x ∷ []) (link - 1) 0 ≡ get_or nexts (link - 1) 0 = get_or_append_left nexts (x ∷ []) 0 (link - 1) (omega (arith, here.from_one, here.within)) in (
        record { from_one = here.from_one; within = omega (arith, here.within, length-append nexts (x ∷ [])); back = omega (arith, same, here.back); entry_is = here.entry_is },
        subst (λ k. IsChain entries (nexts ++ x ∷ []) k es) (sym same) (IsChain-more x (get_or nexts (link - 1) 0) es is.1),
      )

  -- what a link that is not the end leads to
  pub record IsOneMore (link : ℕ) (rest : List Entry) : Type 0 where
    pub e : Entry
    pub es : List Entry
    pub rest_is : rest ≡ e ∷ es
    pub here : IsLink entries nexts link e
    pub on : IsChain entries nexts (get_or nexts (link - 1) 0) es

  pub one_more : (link : ℕ) (rest : List Entry) → IsChain entries nexts link rest → 0 < link → IsOneMore link rest
  one_more link [] is some = absurd (omega (arith, is, some))
  one_more link (e ∷ es) is some = record { e = e; es = es; rest_is = refl; here = is.0; on = is.1 }

  -- the end leads to nothing
  pub no_more : (link : ℕ) (rest : List Entry) → IsChain entries nexts link rest → link ≤ 0 → rest ≡ []
  no_more link [] is none = refl
  no_more link (e ∷ es) is none = absurd (omega (arith, is.0.from_one, none))

  -- a chain has its entries, however many steps are allowed beyond those that its first link allows
  pub chain_from-is : (link many : ℕ) (es : List Entry) → IsChain entries nexts link es → link ≤ many → chain_from entries nexts link many ≡ es
  chain_from-is zero zero [] is enough = refl
  chain_from-is zero (suc many) [] is enough = refl
  chain_from-is (suc place) many [] is enough = absurd (omega (arith, is))
  chain_from-is zero many (e ∷ es) is enough = absurd (omega (arith, is.0.from_one))
  chain_from-is (suc place) zero (e ∷ es) is enough = absurd (omega (arith, enough))
  chain_from-is (suc place) (suc many) (e ∷ es) is enough =
      let at : suc place - 1 ≡ place = omega arith in
      let next : get_or nexts (suc place - 1) 0 ≡ get_or nexts place 0 = ap (λ k. get_or nexts k 0) at in
      let here = subst (λ k. (d : NodeEntry) → entry_of (get_or entries k d) ≡ e) at is.0.entry_is (record { node = 0; pos = 0; dist = 0 }) in
      let rest = chain_from-is (get_or nexts place 0) many es (subst (λ k. IsChain entries nexts k es) next is.1) (omega (arith, next, is.0.back, enough)) in
      ap (λ f. f ∷ chain_from entries nexts (get_or nexts place 0) many) here ∙ ap (λ fs. e ∷ fs) rest

  pub chain_from_head : (link : ℕ) (es : List Entry) → IsChain entries nexts link es → chain_from entries nexts link link ≡ es
  chain_from_head link es is = chain_from-is link link es is (omega arith)

  pub IsChain-from : (link : ℕ) (es : List Entry) → IsChain entries nexts link es → IsChain entries nexts link (chain_from entries nexts link link)
  IsChain-from link es is = subst (IsChain entries nexts link) (sym (chain_from_head link es is)) is
