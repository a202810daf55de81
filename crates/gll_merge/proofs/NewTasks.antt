-- The tasks of shards, made one after another, the last shard's first.
use Rattle.std.proofs.Common.{◌≡◌, inl, inr, ℕ, ◌+◌, List, [], ◌∷◌, ◌++◌, Contains, length, sym, ap, subst, ◌∙◌, arith}
use Rattle.std.specs.Prelude.{Option, Some}
use Rattle.std.proofs.lemmas.Bool.{cases_lt}
use Rattle.std.proofs.lemmas.List.{length_push}
use Rattle.std.proofs.lemmas.List.Elements.{Contains-append_left, Contains-push}
use Rattle.walk_laws.specs.declared.entry.Entry.{Entry}
use Rattle.hub_index.specs.Shards.{shard_at}
use Rattle.label_clean.specs.declared.runs.RunList.{RunList}
use Rattle.gll_merge.specs.Merging.{AreTasksFrom, OneTask, lists_at, task_of}

module _ (first next : ℕ) (shards : List (List (List Entry))) (parts : List (List RunList)) where
  -- none is made yet
  pub AreTasksFrom-none : AreTasksFrom (length shards) first next shards parts []
  AreTasksFrom-none = record {
    count = omega arith;
    each = λ number from below. absurd (omega (arith, from, below));
  }

  -- one more is made
  pub AreTasksFrom-next : (from number : ℕ) (tasks : List (Option OneTask)) (task : OneTask) (rows : List (List Entry)) (lists : List RunList) → AreTasksFrom from first next shards parts tasks → from ≡ number + 1
      → task ≡ record { shard = record { number = number; first = first; rows = rows }; next = next; lists = lists } → shard_at shards number ≡ rows → lists ≡ lists_at parts number → AreTasksFrom number first next shards parts (tasks ++ Some task ∷ [])
  AreTasksFrom-next from number tasks task rows lists were last task_is rows_are lists_are =
      let is : task ≡ task_of first next shards parts number =
      task_is ∙ ap (λ (rs : List (List Entry)). record { shard = record { number = number; first = first; rows = rs }; next = next; lists = lists }) (sym rows_are)
      ∙ ap (λ (ls : List RunList). record { shard = record { number = number; first = first; rows = shard_at shards number }; next = next; lists = ls }) lists_are in
      record {
        count = omega (arith, length_push tasks (Some task), were.count, last);
        each = λ k from_here below. elim (cases_lt number k) [
          | inl later ↦ Contains-append_left tasks (Some task ∷ []) (Some (task_of first next shards parts k)) (were.each k (omega (arith, later, last)) below)
          | inr here ↦
              let same : number ≡ k = omega (arith, here, from_here) in
              subst (λ i. Contains (tasks ++ Some task ∷ []) (Some (task_of first next shards parts i))) same
              (subst (λ t. Contains (tasks ++ Some task ∷ []) (Some t)) is (Contains-push tasks (Some task)))
        ];
      }
