use Rattle.std.proofs.Common.{◌≡◌, ℕ, ◌+◌, ◌<◌, true≢false, [], ◌∷◌, ◌++◌, get_or, length, refl, sym, ap, subst, ◌∙◌, arith}
use Rattle.std.specs.Prelude.{None, is_some}
use Rattle.std.proofs.lemmas.List.{length_push}
use Rattle.hub_index.specs.Shards.{shard_at}
use Rattle.gll_table.specs.Tables.{IsShardBelow}
use Rattle.gll_table.proofs.PlacedShards.{placed_next}
use Rattle.gll_merge.specs.Merging.{are_filled}
use Rattle.gll_merge.proofs.PlacedShards.{filled_first, first_there, others_there}
use Rattle.gll_merge.proofs.putting_together.table_of.Goals as goal

pub loop-place-init : goal.loop-place-init
loop-place-init g c =
    let gives = c.into_iter-place-iterator.ensures.into_iter_gives.0 in
    let none : length c.in_ok-shards.shards.items ≡ 0 = ap length c.in_ok-shards.ensures.items in
    record {
      count = omega (arith, none, ap length gives);
      filled = ap are_filled gives ∙ c.requires.filled;
      to_come = λ k rows within is.
          let here : k ≡ length c.in_ok-shards.shards.items + k = omega (arith, none) in
          subst (λ i. IsShardBelow g.B.Build.edges g.B.Build.order g.B.Build.shift c.args.next i rows) here
          (c.requires.placed.below k rows (omega (arith, within, ap length gives)) (ap (λ ps. get_or ps k None) (sym gives) ∙ is));
      below = λ k within. absurd (omega (arith, within, none));
    }

pub unreachable-requires : goal.unreachable-requires
unreachable-requires g c =
    let here = filled_first c.in-Some.place c.next.new.self.rest.items (ap are_filled (sym c.in-Some.ensures.steps.0) ∙ c.loop-place.invariant.filled) in
    true≢false (sym here.0 ∙ ap is_some c.in_default.is)

pub loop-place-preserved : goal.loop-place-preserved
loop-place-preserved g c =
    let was = c.loop-place.invariant in
    let shards = c.loop-place.shards.items in
    let place = c.in-Some.place in
    let rest = c.next.new.self.rest.items in
    let all = c.loop-place.place-iterator.rest.items in
    let steps = c.in-Some.ensures.steps.0 in
    let long : length c.push.new.self.items ≡ length c.loop-place.shards.items + 1 = omega (arith, ap length c.in_ok-push.ensures.items, length_push c.loop-place.shards.items c.in-Some-place.rows) in
    record {
      count = omega (arith, long, ap length c.in-Some.ensures.steps.0, was.count);
      filled = (filled_first place rest (ap are_filled (sym steps) ∙ was.filled)).1;
      to_come = others_there (IsShardBelow g.B.Build.edges g.B.Build.order g.B.Build.shift c.args.next) (length shards) (length c.push.new.self.items) place rest all steps long was.to_come;
      below =
          subst (λ rows. (k : ℕ) → k < length rows → IsShardBelow g.B.Build.edges g.B.Build.order g.B.Build.shift c.args.next k (shard_at rows k)) {x = c.loop-place.shards.items ++ c.in-Some-place.rows ∷ []} {y = c.push.new.self.items} (sym c.in_ok-push.ensures.items)
          (placed_next (IsShardBelow g.B.Build.edges g.B.Build.order g.B.Build.shift c.args.next) shards (length c.loop-place.shards.items) c.in-Some-place.rows was.below refl
          (first_there (IsShardBelow g.B.Build.edges g.B.Build.order g.B.Build.shift c.args.next) (length shards) (length c.push.new.self.items) place rest all steps long was.to_come c.in-Some-place.rows c.in-Some-place.is));
    }
