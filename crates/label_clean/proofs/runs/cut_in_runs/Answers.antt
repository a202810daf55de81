use Rattle.std.proofs.Common.{◌∷◌, [], ◌∙◌, sym, ap, subst, flat_map, All, get_or, refl, ◌≡◌, ◌++◌, arith}
use Rattle.std.proofs.lemmas.List.{take_all}
use Rattle.std.proofs.lemmas.List.Elements.{All-push}
use Rattle.hub_index.specs.declared.node_entry.NodeEntry.{NodeEntry}
use Rattle.label_clean.specs.declared.runs.Run.{Run}
use Rattle.label_clean.specs.RootRuns.{IsRunIn, entries_of_run}
use Rattle.label_clean.proofs.ListedRuns.{IsRunIn-made, whole-more}
use Rattle.label_clean.proofs.runs.cut_in_runs.Goals as goal

pub loop-from-preserved : goal.loop-from-preserved
loop-from-preserved c =
    let entries = c.args.entries.now in
    let first : NodeEntry = c.index-entries-from.result in
    let run : Run = record { pos = (get_or entries c.loop-from.from first).pos; from = c.loop-from.from; to = c.end_of_run-to.result } in
    let put : c.push.new.self.items ≡ c.loop-from.runs.items ++ run ∷ [] = c.in_ok-push.ensures.items in
    record {
      within = c.end_of_run-to.ensures.within;
      whole = ap (flat_map (λ run. entries_of_run entries run)) put ∙ whole-more entries run first c.end_of_run-to.ensures.more c.end_of_run-to.ensures.within c.loop-from.runs.items c.loop-from.invariant.whole;
      each = subst (All (IsRunIn entries)) (sym put) (All-push (IsRunIn entries) c.loop-from.runs.items run c.loop-from.invariant.each (IsRunIn-made entries run first c.end_of_run-to.ensures.more c.end_of_run-to.ensures.within refl c.end_of_run-to.ensures.one));
    }

pub returns : goal.returns
returns c = record {
  whole = c.loop-from.invariant.whole ∙ take_all c.loop-from.from c.args.entries.now (omega (arith, c.loop-from-test.false));
  each = c.loop-from.invariant.each;
}
