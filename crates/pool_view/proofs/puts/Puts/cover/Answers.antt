use Rattle.std.proofs.Common.{◌∙◌, false, List, Contains, refl, sym, subst}
use Rattle.std.specs.Prelude.{IsTrue}
use Rattle.std.proofs.lemmas.List.Elements.{All-contains, All-push}
use Rattle.hub_index.specs.declared.node_entry.NodeEntry.{NodeEntry}
use Rattle.hub_index.specs.RootDistances.{IsCover}
use Rattle.hub_index.specs.NodeEntries.{entries_of_node}
use Rattle.hub_index.proofs.Backwards.{Contains-backwards, all_came, next_stands}
use Rattle.pool_view.proofs.puts.Puts.cover.Goals as goal

pub returns-then-covers-clause-some : goal.returns-then-covers-clause-some
returns-then-covers-clause-some c =
    let entries = entries_of_node c.kept.result.now c.args.v in
    let here = next_stands entries _ c.loop-entry.yielded _ (c.into_iter-entry-iterator.ensures.into_iter_gives ∙ c.of_node-entry-items.ensures) c.loop-entry.yielded_by c.in-Some.entry _ c.in-Some.ensures.steps in (
      subst (λ (es : List NodeEntry). Contains (entries_of_node es c.args.v) c.in-Some.entry) c.kept.ensures here,
      c.if-covers.ensures.0 refl,
    )

pub loop-entry-preserved : goal.loop-entry-preserved
loop-entry-preserved c =
    All-push (λ e. ¬ IsCover c.args.table.now c.args.pos c.args.dist e) c.loop-entry.yielded c.in-Some.entry c.loop-entry.invariant
    (λ cover. let found : IsTrue false = c.if-covers.ensures.1 cover in absurd cc)

pub returns-clause-none : goal.returns-clause-none
returns-clause-none c e there cover =
    let entries = entries_of_node c.kept.result.now c.args.v in
    let came = all_came entries _ c.loop-entry.yielded _ (c.into_iter-entry-iterator.ensures.into_iter_gives ∙ c.of_node-entry-items.ensures) c.loop-entry.yielded_by c.in-None.ensures.steps.0 in
    let here = subst (λ (es : List NodeEntry). Contains (entries_of_node es c.args.v) e) (sym c.kept.ensures) there in
    All-contains (λ e. ¬ IsCover c.args.table.now c.args.pos c.args.dist e) c.loop-entry.yielded e c.loop-entry.invariant (subst (λ es. Contains es e) (sym came) ((Contains-backwards entries e).0 here)) cover
