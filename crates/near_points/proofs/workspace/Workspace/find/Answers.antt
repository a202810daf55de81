use Rattle.std.specs.Prelude.{Result, Ok, Err, OnOk}
use Rattle.std.proofs.Common.{◌≡◌, ◌+◌, ◌++◌, Bool, ℕ, List, length, map, take, drop, heap_items, sym, ap, subst, rules, ◌∙◌, arith}
use Rattle.std.proofs.lemmas.List.{take-append-le, take_all}
use Rattle.std.proofs.lemmas.List.Kept.{AllPairs-from_increasing}
use Rattle.std.proofs.lemmas.Result.{on_ok_weaker}
use Rattle.walk_laws.specs.declared.entry.Entry.{Entry}
use Rattle.walk_laws.specs.Labelling.{label_row}
use Rattle.hub_index.specs.HubIndex.{HubIndex}
use Rattle.hub_query.proofs.RowFacts.{row_rises, row_fits, row_positions}
use Rattle.near_points.specs.declared.hit.Hit.{Hit}
use Rattle.near_points.specs.Merging.{AreMarked}
use Rattle.near_points.specs.Nearest.{IsNearest}
use Rattle.near_points.specs.PointSets.{PointSet, IsNearestOf}
use Rattle.near_points.specs.PointWords.{IsInverted}
use Rattle.near_points.proofs.Merges.{IsMerged-start}
use Rattle.near_points.proofs.PointLists.{words_nodes, nearest_from_lists}
use Rattle.near_points.proofs.workspace.Workspace.find.Goals as goal

-- what is written over all of a list is what stands there
written : (n : ℕ) (now old : List Bool) → length now ≡ n → take n (now ++ drop (length now) old) ≡ now
written n now old long = take-append-le n now (drop (length now) old) (omega (arith, long)) ∙ take_all n now (omega (arith, long))

-- what holds whether memory ran out or not
anyway : {A E : Type 0} (r : Result A E) (P : Type 0) → P → OnOk r P
anyway (Ok a) P p = p
anyway (Err e) P p = tt

-- the points are of the index
of_index : (points : PointSet) (index : HubIndex) (words starts : List ℕ) → points.index ≡ index → IsInverted points.index points.nodes words starts → IsInverted index points.nodes words starts
of_index points index words starts same is = subst (λ ix. IsInverted ix points.nodes words starts) same is

told : (points : PointSet) (index : HubIndex) (k source : ℕ) (hits : List Hit) → points.index ≡ index → IsNearest index.order index.rows points.nodes source k hits → IsNearestOf points k source hits
told points index k source hits same is = subst (λ ix. IsNearest ix.order ix.rows points.nodes source k hits) (sym same) is

pub begin-requires-clause-within : goal.begin-requires-clause-within
begin-requires-clause-within c =
    let index = c.args.index.now in
    let inverted = of_index c.args.points.now index c.lists.result.0.now c.lists.result.1.now c.requires.index c.lists.ensures in
    let size = inverted.size in
    rw c.row-row.ensures.value (λ k d lt.
    let within = row_positions index.order index.rows c.args.source c.row-row.ensures.well_formed c.requires.source.0 c.requires.source.1 k d lt in
    omega (arith, within, size))

pub begin-requires-clause-short : goal.begin-requires-clause-short
begin-requires-clause-short c =
    rw c.row-row.ensures.value (row_fits c.args.index.now.order c.args.index.now.rows c.args.source c.row-row.ensures.well_formed c.requires.source.0 c.requires.source.1)

pub merge-requires : goal.merge-requires
merge-requires c =
    let index = c.args.index.now in
    let words = c.lists.result.0.now in
    let row = label_row index.rows c.args.source in
    let well = c.row-row.ensures.well_formed in
    let inverted = of_index c.args.points.now index words c.lists.result.1.now c.requires.index c.lists.ensures in
    let rises = row_rises index.order index.rows c.args.source well c.requires.source.0 c.requires.source.1 in
    let long : length c.unmark.new.given ≡ c.args.self.now.given.len = search (rules, c.unmark.ensures.size, c.deref_mut.ensures.value) in
    let given : c.deref_mut-2.result.now ≡ c.unmark.new.given = c.deref_mut-2.ensures.value ∙ written c.args.self.now.given.len c.unmark.new.given c.args.self.now.given.items long in
    let size : length c.deref_mut-2.result.now ≡ length index.order + 1 = omega (arith, ap length given, c.unmark.ensures.size, ap length c.deref_mut.ensures.value, c.requires.size) in
    rw (c.row-row.ensures.value, c.clear.ensures.items, given) (record {
      rising = inverted.rising;
      row = rises;
      short = row_fits index.order index.rows c.args.source well c.requires.source.0 c.requires.source.1;
      nodes = λ k d lt. let node = words_nodes index c.args.points.now.nodes words c.lists.result.1.now inverted well k d lt in omega (arith, node, size, ap length given);
      heap = c.in_ok-begin.ensures.heap;
      merged = IsMerged-start words row inverted.rising (AllPairs-from_increasing (map (λ (e : Entry). e.pos) row) rises) (heap_items c.begin.new.cursors) c.unmark.new.given (rw c.row-row.ensures.value at c.in_ok-begin.ensures.begun) c.unmark.ensures.marked;
      few = omega arith;
    })

pub returns : goal.returns
returns c =
    let index = c.args.index.now in
    let words = c.lists.result.0.now in
    let row = label_row index.rows c.args.source in
    let well = c.row-row.ensures.well_formed in
    let hits = c.merge.new.hits.items in
    let inverted = of_index c.args.points.now index words c.lists.result.1.now c.requires.index c.lists.ensures in
    let long : length c.unmark.new.given ≡ c.args.self.now.given.len = search (rules, c.unmark.ensures.size, c.deref_mut.ensures.value) in
    let given : c.deref_mut-2.result.now ≡ c.unmark.new.given = c.deref_mut-2.ensures.value ∙ written c.args.self.now.given.len c.unmark.new.given c.args.self.now.given.items long in
    let size : length c.deref_mut-2.result.now ≡ length index.order + 1 = omega (arith, ap length given, c.unmark.ensures.size, ap length c.deref_mut.ensures.value, c.requires.size) in
    let old = take c.args.self.now.given.len (c.unmark.new.given ++ drop (length c.unmark.new.given) c.args.self.now.given.items) in
    let last : take c.args.self.now.given.len (c.merge.new.given ++ drop (length c.merge.new.given) old) ≡ c.merge.new.given = written c.args.self.now.given.len c.merge.new.given old (omega (arith, c.merge.ensures.size, ap length given, long)) in
    record {
      size = anyway c.merge.result _ (ap length last ∙ c.merge.ensures.size ∙ size);
      marked = on_ok_weaker c.merge.result (subst (λ marks. AreMarked marks hits) (sym last)) c.merge.ensures.marked;
      nearest = on_ok_weaker c.merge.result (λ first. told c.args.points.now index c.args.k c.args.source hits c.requires.index (nearest_from_lists index c.args.points.now.nodes words c.lists.result.1.now inverted well c.args.source c.requires.source.0 c.requires.source.1 c.args.k hits (rw c.row-row.ensures.value at first))) c.merge.ensures.first;
    }
