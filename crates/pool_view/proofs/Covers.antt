-- What is told of the entries that a walk gave: the first that covers, or that none does.
use Rattle.std.proofs.Common.{◌≡◌, ℕ, Bool, true, false, not, is_some, Option, List, [], ◌∷◌, ◌++◌, All, Contains, refl, sym, subst}
use Rattle.std.specs.Prelude.{Some, None, IfSome, IfNone}
use Rattle.std.proofs.lemmas.List.{map-append}
use Rattle.std.proofs.lemmas.List.Elements.{All-push, Contains-append_left, Contains-push}
use Rattle.walk_laws.specs.declared.entry.Entry.{Entry}
use Rattle.hub_index.specs.RootDistances.{IsCover}
use Rattle.label_pool.specs.declared.rule.Linked.{Linked}
use Rattle.label_pool.specs.Chains.{entries_of}

abbrev pub IsTold : List (Option ℕ) → Entry → Option Entry → List Linked → Type 0
IsTold table e cover prefix = IfSome cover (λ c. Contains (entries_of prefix) c × IsCover table e.pos e.dist c) × IfNone cover (All (λ c. ¬ IsCover table e.pos e.dist c) (entries_of prefix))

module _ (table : List (Option ℕ)) (e : Entry) (prefix : List Linked) (l : Linked) where
  grown : entries_of (prefix ++ l ∷ []) ≡ entries_of prefix ++ l.entry ∷ []
  grown = map-append (λ (m : Linked). m.entry) prefix (l ∷ [])

  -- the entry that is given now covers
  pub told-now : (cover : Option Entry) (c : Entry) → l.entry ≡ c → IsCover table e.pos e.dist c → cover ≡ Some c → IsTold table e cover (prefix ++ l ∷ [])
  told-now cover c is covers now =
      let there : Contains (entries_of (prefix ++ l ∷ [])) c = subst (λ es. Contains es c) (sym grown) (subst (Contains (entries_of prefix ++ l.entry ∷ [])) is (Contains-push (entries_of prefix) l.entry)) in
      subst (λ o. IsTold table e o (prefix ++ l ∷ [])) (sym now) ((there, covers), tt)

  -- it doesn't, or another did before
  pub told-still : (before cover : Option Entry) → IsTold table e before prefix → (before ≡ None → ¬ IsCover table e.pos e.dist l.entry) → cover ≡ before → IsTold table e cover (prefix ++ l ∷ [])
  told-still None cover told uncovered now =
      subst (λ o. IsTold table e o (prefix ++ l ∷ [])) (sym now) (tt, subst (All (λ c. ¬ IsCover table e.pos e.dist c)) (sym grown) (All-push (λ c. ¬ IsCover table e.pos e.dist c) (entries_of prefix) l.entry told.1 (uncovered refl)))
  told-still (Some c) cover told uncovered now =
      subst (λ o. IsTold table e o (prefix ++ l ∷ [])) (sym now) ((subst (λ es. Contains es c) (sym grown) (Contains-append_left (entries_of prefix) (l.entry ∷ []) c told.0.0), told.0.1), tt)

-- where there is one before, nothing more is asked
pub some-before : (o : Option Entry) (test : Bool) → is_some o ≡ not test → test ≡ false → o ≡ None → ⊥
some-before None true told failed none = absurd cc
some-before None false told failed none = absurd cc
some-before (Some c) test told failed none = absurd cc
