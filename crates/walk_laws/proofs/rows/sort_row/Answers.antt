use Rattle.std.proofs.Common.{rules}
use Rattle.std.proofs.lemmas.List.Sorted.{answers_always}
use Rattle.walk_laws.proofs.Sorting.{IsRowOf-sorted}
use Rattle.walk_laws.proofs.rows.sort_row.Goals as goal

pub returns-clause-row : goal.returns-clause-row
returns-clause-row c =
    let keys = answers_always _ _ _ (λ f a r g h. search rules) in
    IsRowOf-sorted _ _ (c.in_ok-sort_by_key.ensures.sorted (λ a. a.to) keys) (c.sort_by_key.ensures.stable (λ a. a.to) keys)
