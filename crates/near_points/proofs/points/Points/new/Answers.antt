use Rattle.std.proofs.Common.{◌+◌, ap, ◌∙◌}
use Rattle.std.proofs.lemmas.List.Sorted.{IsNonDecreasingBy-from_sort}
use Rattle.near_points.proofs.PointLists.{AreWordsOf-sorted}
use Rattle.near_points.proofs.points.Points.new.Goals as goal

pub starts_of-requires-clause-rising : goal.starts_of-requires-clause-rising
starts_of-requires-clause-rising c = rw c.deref.ensures.value (IsNonDecreasingBy-from_sort (λ x. x) c.sort_unstable.new.self.items c.sort_unstable.ensures.sorted)

pub invariant_of-result : goal.invariant_of-result
invariant_of-result c =
    rw (c.of.ensures, c.in_ok-from_slice.ensures.items) (record {
      within = c.requires;
      are = AreWordsOf-sorted c.args.index.now.rows c.args.nodes.now c.in_ok-words.words.items c.sort_unstable.new.self.items c.sort_unstable.ensures.permutation c.in_ok-words.ensures;
      rising = IsNonDecreasingBy-from_sort (λ x. x) c.sort_unstable.new.self.items c.sort_unstable.ensures.sorted;
      size = c.in_ok-starts.ensures.size ∙ ap (λ n. n + 1) c.n.ensures.value;
      starts_are = rw c.deref.ensures.value at c.in_ok-starts.ensures.starts;
    })
