use Rattle.std.proofs.Common.{[], All, get_or, take, sym, ap, subst, ◌∙◌, arith}
use Rattle.std.proofs.Math.ListN.{length-set}
use Rattle.std.proofs.lemmas.List.{take_more_set}
use Rattle.std.proofs.lemmas.List.Elements.{All-push}
use Rattle.label_clean.specs.RunLists.{HasItsRuns}
use Rattle.gll_table.proofs.PartLists.{entries_stay}
use Rattle.gll_table.proofs.partitioning.list_all_runs.Goals as goal

pub returns-in_err-list_runs-clause-entries : goal.returns-in_err-list_runs-clause-entries
returns-in_err-list_runs-clause-entries c number =
    ap (λ lists. get_or lists number []) (entries_stay c.loop-k.lists c.loop-k.k c.list_runs.new.self c.index-lists-k.result c.list_runs.ensures.entries ∙ c.loop-k.invariant.entries)

pub loop-k-preserved : goal.loop-k-preserved
loop-k-preserved c =
    let lists = c.loop-k.lists in
    let k = c.loop-k.k in
    let new = c.list_runs.new.self in
    record {
      size = length-set lists k new ∙ c.loop-k.invariant.size;
      entries = entries_stay lists k new c.index-lists-k.result c.list_runs.ensures.entries ∙ c.loop-k.invariant.entries;
      runs = subst (All HasItsRuns) (sym (take_more_set lists k new (omega arith))) (All-push HasItsRuns (take k lists) new c.loop-k.invariant.runs c.in_ok-list_runs.ensures.runs);
    }
