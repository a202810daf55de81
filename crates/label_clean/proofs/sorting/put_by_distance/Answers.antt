use Rattle.std.proofs.Common.{rules}
use Rattle.std.proofs.lemmas.List.Sorted.{answers_always, IsNonDecreasingBy-from_sort}
use Rattle.label_clean.proofs.TestedRows.{dist_of, HasEntriesOf-moved}
use Rattle.label_clean.proofs.sorting.put_by_distance.Goals as goal

pub returns-then-pos-count_by_distance-clause-rows : goal.returns-then-pos-count_by_distance-clause-rows
returns-then-pos-count_by_distance-clause-rows c = HasEntriesOf-moved c.args.row.now.items c.sort_unstable_by_key.new.self.items c.requires.once c.sort_unstable_by_key.ensures.permutation

pub returns-then-pos-count_by_distance-clause-rising : goal.returns-then-pos-count_by_distance-clause-rising
returns-then-pos-count_by_distance-clause-rising c = λ _. IsNonDecreasingBy-from_sort dist_of c.sort_unstable_by_key.new.self.items (c.sort_unstable_by_key.ensures.sorted dist_of (answers_always _ _ _ (λ f a r g h. search rules)))
