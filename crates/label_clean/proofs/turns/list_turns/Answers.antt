use Rattle.std.proofs.Common.{◌≡◌, ◌∙◌, ◌++◌, ap, sym, subst, All, get_or, map, flat_map, arith, rules}
use Rattle.std.proofs.lemmas.List.{take_all}
use Rattle.std.proofs.lemmas.List.Elements.{All-get_or}
use Rattle.std.proofs.lemmas.List.Sorted.{All-permutation, answers_always, IsNonDecreasingBy-from_sort}
use Rattle.label_clean.specs.declared.runs.RunList.{RunList}
use Rattle.label_clean.specs.declared.turns.Turn.{Turn}
use Rattle.label_clean.specs.RunLists.{HasItsRuns, IsTurnOf, all_entries, part_of, turn_of}
use Rattle.label_clean.proofs.JoinedLists.{each_more, turns_more}
use Rattle.label_clean.proofs.turns.list_turns.Goals as goal

pub loop-place-preserved : goal.loop-place-preserved
loop-place-preserved c =
    let lists = c.args.lists.now in
    let place = c.loop-place.place in
    let list : RunList = c.index-lists-place.result in
    let there : get_or c.args.lists.now c.loop-place.place c.index-lists-place.result ≡ c.index-lists-place.result = sym c.index-lists-place.is in
    let listed : HasItsRuns (get_or c.args.lists.now c.loop-place.place c.index-lists-place.result) = All-get_or HasItsRuns lists place list c.loop-place-test.true c.requires in
    let more : c.add_turns.new.turns.items ≡ c.loop-place.turns.items ++ map (turn_of c.loop-place.place) (get_or c.args.lists.now c.loop-place.place c.index-lists-place.result).runs.items =
    c.in_ok-add_turns.ensures ∙ ap (λ runs. c.loop-place.turns.items ++ map (turn_of place) runs) (c.as_slice.ensures.value ∙ ap (λ (list : RunList). list.runs.items) (sym there)) in
    record {
      whole = ap (flat_map (part_of lists)) more ∙ turns_more lists place list c.loop-place-test.true listed c.loop-place.turns.items c.loop-place.invariant.whole;
      each = subst (All (IsTurnOf lists)) (sym more) (each_more lists place list c.loop-place-test.true listed c.loop-place.turns.items c.loop-place.invariant.each);
    }

pub returns : goal.returns
returns c =
    let lists = c.args.lists.now in
    let was = c.loop-place.turns.items in
    let now = c.sort_unstable_by_key.new.self.items in
    record {
      pieces = was;
      whole = c.loop-place.invariant.whole ∙ ap all_entries (take_all c.loop-place.place lists (omega (arith, c.loop-place-test.false)));
      moved = c.sort_unstable_by_key.ensures.permutation;
      each = All-permutation (IsTurnOf lists) was now c.sort_unstable_by_key.ensures.permutation c.loop-place.invariant.each;
      rising = IsNonDecreasingBy-from_sort (λ (turn : Turn). turn.run.pos) now (c.sort_unstable_by_key.ensures.sorted (λ (turn : Turn). turn.run.pos) (answers_always _ _ _ (λ f a r g h. search rules)));
    }
