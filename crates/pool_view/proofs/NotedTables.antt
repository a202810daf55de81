-- Tables in which the entries of several lists are noted one after another.
use Rattle.std.proofs.Common.{◌≡◌, ℕ, ◌<◌, Option, List, [], ◌++◌, All, Contains, length, replicate, refl, sym, subst, ◌∙◌}
use Rattle.std.specs.Prelude.{None}
use Rattle.std.proofs.lemmas.List.{length-replicate}
use Rattle.walk_laws.specs.declared.entry.Entry.{Entry}
use Rattle.hub_index.specs.RootDistances.{noted, IsLeastAt, HoldsRow}
use Rattle.hub_index.proofs.NotedRows.{HoldsEach-none, HoldsEach-noted_all, HoldsRow-from_each, length-noted}

-- two rows with the same entries are held alike
least-same : (row other : List Entry) (p d : ℕ) → ((e : Entry) → Contains row e → Contains other e) → ((e : Entry) → Contains other e → Contains row e) → IsLeastAt row p d → IsLeastAt other p d
least-same row other p d to from least = record { there = to (record { pos = p; dist = d }) least.there; least = λ e there. least.least e (from (record { pos = p; dist = e }) there) }

pub HoldsRow-same : (table : List (Option ℕ)) (row other : List Entry) → ((e : Entry) → Contains row e → Contains other e) → ((e : Entry) → Contains other e → Contains row e) → HoldsRow table row → HoldsRow table other
HoldsRow-same table row other to from held p d = (λ is. least-same row other p d to from ((held p d).0 is), λ least. (held p d).1 (least-same other row p d from to least))

-- three lists that are noted in an empty table
pub HoldsRow-three : (n : ℕ) (first second third : List Entry) → All (λ e. e.pos < n) first → All (λ e. e.pos < n) second → All (λ e. e.pos < n) third
    → HoldsRow (noted (noted (noted (replicate n None) first) second) third) ((first ++ second) ++ third)
HoldsRow-three n first second third in_first in_second in_third =
    let none = replicate {A = Option ℕ} n None in
    let size : length none ≡ n = length-replicate n None in
    let one = HoldsEach-noted_all none [] first (subst (λ k. All (λ e. e.pos < k) first) (sym size) in_first) (HoldsEach-none n none refl) in
    let size_one = length-noted none first ∙ size in
    let two = HoldsEach-noted_all (noted none first) first second (subst (λ k. All (λ e. e.pos < k) second) (sym size_one) in_second) one in
    let size_two = length-noted (noted none first) second ∙ size_one in
    HoldsRow-from_each _ _ (HoldsEach-noted_all (noted (noted none first) second) (first ++ second) third (subst (λ k. All (λ e. e.pos < k) third) (sym size_two) in_third) two)
