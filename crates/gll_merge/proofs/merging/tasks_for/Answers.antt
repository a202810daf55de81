use Rattle.std.proofs.Common.{◌≡◌, ℕ, ◌+◌, ◌<◌, List, [], ◌∷◌, All, Global, Vec, length, map, refl, sym, ap, subst, ◌∙◌, arith}
use Rattle.std.proofs.lemmas.List.{length-append}
use Rattle.std.proofs.Math.Seq.{take-length}
use Rattle.hub_index.specs.Shards.{shard_count}
use Rattle.label_clean.specs.declared.runs.RunList.{RunList}
use Rattle.gll_merge.specs.Merging.{AreTasksFrom, IsMerge, lists_at}
use Rattle.gll_table.specs.Tables.{IsShardBelow}
use Rattle.gll_merge.proofs.LastParts.{cut_there, last_of_each, last_shard, lists_there, none_cut}
use Rattle.gll_merge.proofs.NewTasks.{AreTasksFrom-next, AreTasksFrom-none}
use Rattle.gll_merge.proofs.merging.tasks_for.Goals as goal

abbrev lists_of : Vec RunList Global → List RunList
lists_of d = d.items

pub loop-rows-init : goal.loop-rows-init
loop-rows-init g c =
    let shards = c.args.shards.items in
    record {
      shards = sym (take-length shards);
      within = omega arith;
      parts = none_cut lists_of c.args.parts.items (length shards) (subst (λ m. All (λ d. length (lists_of d) ≡ m) c.args.parts.items) (sym c.requires.shards.are.count) c.requires.long);
      tasks =
          subst (AreTasksFrom (length c.args.shards.items) c.args.first c.args.next c.args.shards.items (map lists_of c.args.parts.items)) (sym c.in_ok-tasks.ensures.items)
          (AreTasksFrom-none c.args.first c.args.next c.args.shards.items (map lists_of c.args.parts.items));
    }

pub overflow_cast-number : goal.overflow_cast-number
overflow_cast-number g c =
    let size : length c.loop-rows.shards.items ≡ length c.pop.new.self.items + 1 = ap length c.in-Some.ensures.items ∙ length-append c.pop.new.self.items (c.in-Some.rows ∷ []) in
    omega (arith, c.len-number.ensures, c.pop.new.self.ok.0, size, c.loop-rows.invariant.within, c.requires.count, c.ranges.count.fits)

pub task_for-requires-clause-shard : goal.task_for-requires-clause-shard
task_for-requires-clause-shard g c =
    let shards = c.args.shards.items in
    let now = c.loop-rows.shards.items in
    let left = c.pop.new.self.items in
    let number = c.len-number.result in
    let are = c.requires.shards in
    let size : length c.loop-rows.shards.items ≡ length c.pop.new.self.items + 1 = ap length c.in-Some.ensures.items ∙ length-append left (c.in-Some.rows ∷ []) in
    let number_is : c.len-number.result ≡ length c.pop.new.self.items = omega (arith, c.len-number.ensures, c.pop.new.self.ok.0) in
    let is = last_shard shards now left c.in-Some.rows number c.loop-rows.invariant.shards c.in-Some.ensures.items number_is in
    subst (IsShardBelow g.B.Build.edges g.B.Build.order g.B.Build.shift c.args.first c.len-number.result) is.0
    (are.below number (omega (arith, size, number_is, are.are.count, c.loop-rows.invariant.within)))

pub task_for-requires-clause-lists : goal.task_for-requires-clause-lists
task_for-requires-clause-lists g c =
    let parts = c.args.parts.items in
    let now = c.loop-rows.parts.items in
    let m = length c.loop-rows.shards.items in
    let number = c.len-number.result in
    let count = c.requires.shards.are.count in
    let cut = c.loop-rows.invariant.parts in
    let size : length c.loop-rows.shards.items ≡ length c.pop.new.self.items + 1 = ap length c.in-Some.ensures.items ∙ length-append c.pop.new.self.items (c.in-Some.rows ∷ []) in
    let last : length c.loop-rows.shards.items ≡ c.len-number.result + 1 = omega (arith, size, c.len-number.ensures, c.pop.new.self.ok.0) in
    let low : c.len-number.result < shard_count g.B.Build.shift (length g.B.Build.order) = omega (arith, last, count, c.loop-rows.invariant.within) in
    let long = last_of_each lists_of parts now m number last cut (shard_count g.B.Build.shift (length g.B.Build.order)) c.requires.long (omega (arith, low, last)) in
    let lists_are : c.in_ok-lists.lists.items ≡ lists_at (map lists_of c.args.parts.items) c.len-number.result = lists_there lists_of parts now m number last cut c.in_ok-lists.lists.items (c.in_ok-lists.ensures.lists number long) in
    subst (λ lists. IsMerge g.B.Build.edges g.B.Build.order g.B.Build.shift c.len-number.result c.args.first c.args.next lists c.args.hub_rows.now.value) (sym lists_are)
    (c.requires.each number low)

pub loop-rows-preserved : goal.loop-rows-preserved
loop-rows-preserved g c =
    let shards = c.args.shards.items in
    let parts = c.args.parts.items in
    let now = c.loop-rows.parts.items in
    let m = length c.loop-rows.shards.items in
    let left = c.pop.new.self.items in
    let number = length left in
    let cut = c.loop-rows.invariant.parts in
    let last : length c.loop-rows.shards.items ≡ length c.pop.new.self.items + 1 = ap length c.in-Some.ensures.items ∙ length-append left (c.in-Some.rows ∷ []) in
    let long = last_of_each lists_of parts now m number last cut (shard_count g.B.Build.shift (length g.B.Build.order)) c.requires.long (omega (arith, c.requires.shards.are.count, c.loop-rows.invariant.within)) in
    let number_is : c.len-number.result ≡ length c.pop.new.self.items = omega (arith, c.len-number.ensures, c.pop.new.self.ok.0) in
    let lists_are : c.in_ok-lists.lists.items ≡ lists_at (map lists_of c.args.parts.items) c.len-number.result =
    subst (λ (k : ℕ). c.in_ok-lists.lists.items ≡ lists_at (map lists_of c.args.parts.items) k) (sym number_is) (lists_there lists_of parts now m number last cut c.in_ok-lists.lists.items (c.in_ok-lists.ensures.lists number long)) in
    record {
      shards = (last_shard shards c.loop-rows.shards.items left c.in-Some.rows number c.loop-rows.invariant.shards c.in-Some.ensures.items refl).1;
      within = omega (arith, last, c.loop-rows.invariant.within);
      parts = cut_there lists_of parts now m number last cut c.last_lists.new.parts.items (c.in_ok-lists.ensures.left number long);
      tasks =
          subst (λ from. AreTasksFrom from c.args.first c.args.next c.args.shards.items (map lists_of c.args.parts.items) c.push.new.self.items) number_is
          (subst (AreTasksFrom c.len-number.result c.args.first c.args.next c.args.shards.items (map lists_of c.args.parts.items)) (sym c.in_ok-push.ensures.items)
          (AreTasksFrom-next c.args.first c.args.next shards (map lists_of parts) m c.len-number.result c.loop-rows.tasks.items c.in_ok-task_for.field-0 c.in-Some.rows c.in_ok-lists.lists.items c.loop-rows.invariant.tasks (omega (arith, last, number_is)) c.in_ok-task_for.ensures
          (last_shard shards c.loop-rows.shards.items left c.in-Some.rows c.len-number.result c.loop-rows.invariant.shards c.in-Some.ensures.items number_is).0 lists_are));
    }
