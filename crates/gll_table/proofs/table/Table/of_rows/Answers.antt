use Rattle.std.proofs.Common.{◌≡◌, ℕ, ◌<◌, length, sym, ap, ◌∙◌, arith}
use Rattle.std.proofs.lemmas.List.{length_push}
use Rattle.hub_index.specs.Shards.{shard_at, shard_count, shard_of}
use Rattle.gll_table.proofs.PlacedShards.{placed_next}
use Rattle.gll_table.proofs.ShardedTables.{AreShardsBelow-of_table}
use Rattle.gll_table.proofs.table.Table.of_rows.Goals as goal

pub invariant_of-result : goal.invariant_of-result
invariant_of-result g c =
    let context = c.args.context.now in
    let n_is : c.n-n.result ≡ length g.B.Build.order = c.n-n.ensures.value ∙ sym context.nodes in
    let made = c.loop-number.invariant in
    let all : length c.loop-number.shards.items ≡ shard_count g.B.Build.shift (length g.B.Build.order) = omega (arith, made.size, made.up_to, c.loop-number-test.false, context.count_is) in
    let are : (number : ℕ) → number < shard_count g.B.Build.shift (length g.B.Build.order) → shard_at c.loop-number.shards.items number ≡ shard_of g.B.Build.shift number c.args.rows.now = λ number there.
    made.are number (omega (arith, there, all, made.size)) ∙ ap (λ s. shard_of s number c.args.rows.now) context.shards in
    (n_is, context.shards, AreShardsBelow-of_table g.B.Build.edges g.B.Build.order g.B.Build.shift c.args.first c.args.rows.now c.loop-number.shards.items c.requires.below c.requires.first (omega (arith, context.shards, context.shift_is)) all are)

pub loop-number-preserved : goal.loop-number-preserved
loop-number-preserved g c =
    let made = c.loop-number.invariant in
    let shards = c.loop-number.shards.items in
    record {
      size = omega (arith, ap length c.in_ok-push.ensures.items, length_push shards c.in_ok-shard.shard, made.size);
      up_to = omega arith;
      are = λ k low.
          ap (λ made. shard_at made k) c.in_ok-push.ensures.items
          ∙ placed_next (λ i rows. rows ≡ shard_of c.args.context.now.plan.shift i c.args.rows.now) shards c.loop-number.number c.in_ok-shard.shard (λ i there. made.are i (omega (arith, there, made.size))) (sym made.size)
          c.in_ok-shard.ensures k (omega (arith, low, made.size, length_push shards c.in_ok-shard.shard));
    }
