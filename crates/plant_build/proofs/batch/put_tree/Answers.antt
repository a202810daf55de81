use Rattle.std.proofs.Common.{ℕ, ◌++◌, take, get_or, sym, ap, ◌∙◌, append_assoc}
use Rattle.std.proofs.lemmas.List.{get_or_read}
use Rattle.walk_laws.specs.declared.entry.Entry.{Entry}
use Rattle.hub_index.specs.NodeEntries.{entry_if}
use Rattle.entry_sinks.specs.Sunk.{sunk_at}
use Rattle.plant_build.specs.TreeEntries.{entries_of}
use Rattle.plant_build.proofs.PlantedRows.{entries_more, entries_of_one}
use Rattle.plant_build.proofs.batch.put_tree.Goals as goal

pub loop-v-preserved : goal.loop-v-preserved
loop-v-preserved c =
    let i : ℕ = c.loop-v.v-index in
    let pair : ℕ × ℕ = c.loop-v-item.result in
    let entry : Entry = record { pos = c.args.p; dist = pair.1 } in
    let item = get_or_read c.args.planted.now i _ c.loop-v-test.true c.loop-v-item.is (0, 0) in
    record {
      n = c.in_ok-push.ensures.n ∙ c.loop-v.invariant.n;
      grows = λ v.
          c.in_ok-push.ensures.put v
          ∙ ap (λ es. es ++ entry_if pair.0 v entry) (c.loop-v.invariant.grows v)
          ∙ append_assoc (sunk_at c.args.sink.now v) (entries_of c.args.p v (take i c.args.planted.now)) (entry_if pair.0 v entry)
          ∙ ap (λ (x : ℕ × ℕ). sunk_at c.args.sink.now v ++ (entries_of c.args.p v (take i c.args.planted.now) ++ entry_if x.0 v (record { pos = c.args.p; dist = x.1 }))) item
          ∙ ap (λ es. sunk_at c.args.sink.now v ++ es) (sym (entries_more c.args.p v i c.args.planted.now (0, 0) c.loop-v-test.true ∙ ap (λ es. entries_of c.args.p v (take i c.args.planted.now) ++ es) (entries_of_one c.args.p v (get_or c.args.planted.now i (0, 0)))));
    }
