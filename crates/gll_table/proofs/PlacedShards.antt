-- Shards that come one after another.
use Rattle.std.proofs.Common.{◌≡◌, inl, inr, ℕ, ◌<◌, List, [], ◌∷◌, ◌++◌, length, sym, ap, subst, ◌∙◌, arith}
use Rattle.std.proofs.lemmas.Bool.{cases_lt}
use Rattle.std.proofs.lemmas.List.{get_or_append_left, get_or-append-add, length_push}
use Rattle.walk_laws.specs.declared.entry.Entry.{Entry}
use Rattle.hub_index.specs.Shards.{shard_at}

-- what holds of each shard at its place holds with one more
pub placed_next : (P : ℕ → List (List Entry) → Type 0) (shards : List (List (List Entry))) (number : ℕ) (rows : List (List Entry)) → ((k : ℕ) → k < length shards → P k (shard_at shards k)) → number ≡ length shards → P number rows → (k : ℕ) → k < length (shards ++ rows ∷ []) → P k (shard_at (shards ++ rows ∷ []) k)
placed_next P shards number rows before is next k within = elim (cases_lt k (length shards)) [
  | inl earlier ↦ subst (P k) (sym (get_or_append_left shards (rows ∷ []) [] k earlier)) (before k earlier)
  | inr last ↦
      let here : number ≡ k = omega (arith, is, last, within, length_push shards rows) in
      let row_is : shard_at (shards ++ rows ∷ []) k ≡ rows = ap (λ i. shard_at (shards ++ rows ∷ []) i) (sym here ∙ is ∙ omega arith) ∙ get_or-append-add shards (rows ∷ []) 0 [] in
      subst (P k) (sym row_is) (subst (λ i. P i rows) here next)
]
