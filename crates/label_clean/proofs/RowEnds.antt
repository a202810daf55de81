-- The last entry of a row, which comes first from the last one on.
use Rattle.std.proofs.Common.{◌≡◌, ◌↔◌, ℕ, ◌<◌, List, [], ◌∷◌, reverse, sym, ap, subst, ◌∙◌}
use Rattle.std.proofs.lemmas.List.{reverse-append, reverse-reverse}
use Rattle.walk_laws.specs.declared.entry.Entry.{Entry}
use Rattle.label_clean.specs.RootRuns.{EndsBelow}

module _ (p : ℕ) (row : List Entry) where
  -- the entry that comes first is the last one
  pub EndsBelow-first : (last : Entry) (rest : List Entry) → reverse row ≡ last ∷ rest → last.pos < p ↔ EndsBelow p row
  EndsBelow-first last rest is = (
    λ below front e row_is.
        let both : last ∷ rest ≡ e ∷ reverse front = sym is ∙ ap reverse row_is ∙ reverse-append front (e ∷ []) in
        let same : last ≡ e = cc in
        subst (λ (x : Entry). x.pos < p) same below,
    λ ends. ends (reverse rest) last (sym (reverse-reverse row) ∙ ap reverse is ∙ reverse-append (last ∷ []) rest),
  )

  -- where none comes the row is empty
  pub EndsBelow-none : reverse row ≡ [] → EndsBelow p row
  EndsBelow-none none front e row_is =
      let both : [] ≡ e ∷ reverse front = sym none ∙ ap reverse row_is ∙ reverse-append front (e ∷ []) in
      absurd cc
