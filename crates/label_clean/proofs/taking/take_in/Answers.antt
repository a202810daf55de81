use Rattle.std.proofs.Common.{◌≡◌, ◌∙◌, ℕ, ◌+◌, ◌<◌, ◌≤◌, ◌++◌, List, All, length, get_or, map, refl, sym, ap, subst, flat_map, take, drop, arith}
use Rattle.std.specs.List.Sorted.{IsStrictlyIncreasing}
use Rattle.std.proofs.lemmas.List.{take_all}
use Rattle.std.proofs.lemmas.List.Elements.{All-get_or, Contains-get_or}
use Rattle.walk_laws.specs.declared.graph.Edge.{Edge}
use Rattle.walk_laws.specs.declared.entry.Entry.{Entry}
use Rattle.walk_laws.specs.Labelling.{label_row}
use Rattle.hub_index.specs.declared.node_entry.NodeEntry.{NodeEntry}
use Rattle.hub_index.specs.NodeEntries.{entries_of_node}
use Rattle.hub_index.specs.Views.{IsNode}
use Rattle.label_clean.specs.declared.turns.Turn.{Turn}
use Rattle.label_clean.specs.Below.{IsRowBelow}
use Rattle.label_clean.specs.Joining.{JoinsRow, JoinsUnder}
use Rattle.label_clean.specs.RootRuns.{HasHubs, JoinsNext}
use Rattle.label_clean.specs.RunLists.{AreTurnsOf, IsTurnOf, all_entries, part_of}
use Rattle.label_clean.specs.Sorted.{IsSortedRow}
use Rattle.label_clean.proofs.Covering.{pos_of}
use Rattle.label_clean.proofs.JoinedRows.{HasHubs-none, IsRowBelow-joined}
use Rattle.label_clean.proofs.RunOrder.{IsSortedRow-turns, JoinsRow-sorted, all_in_turn, row_done, row_parted, run_has_one, turn_has}
use Rattle.label_clean.proofs.TakenRuns.{GoesOnFrom-more, GoesOnFrom-same}
use Rattle.label_clean.proofs.taking.take_in.Goals as goal
use Rattle.label_clean.proofs.taking.take_in.Goals.{After-deref-turn-items, After-row}

abbrev nothing : Turn
nothing = record { list = 0; run = record { pos = 0; from = 0; to = 0 } }

-- the turns are those of the lists
are : (c : After-deref-turn-items) → AreTurnsOf c.args.lists.now c.deref-turn-items.result.now
are c = subst (AreTurnsOf c.args.lists.now) (sym c.deref-turn-items.ensures.value) c.in_ok-list_turns.ensures

pub loop-turn-init : goal.loop-turn-init
loop-turn-init c = record {
  size = refl;
  stays = λ k k_in. GoesOnFrom-same (label_row c.args.rows.now k);
  hubs = λ edges at c' k v k_in under is joins. HasHubs-none edges at c.args.hub_rows.now.first v (label_row c.args.rows.now k) is;
}

pub entries_in_turn-part-requires : goal.entries_in_turn-part-requires
entries_in_turn-part-requires c =
    let listed = are (goal.at.entries_in_turn-part-requires c).After-deref-turn-items in
    All-get_or (IsTurnOf c.args.lists.now) c.deref-turn-items.result.now c.loop-turn.turn-index nothing c.loop-turn-test.true listed.each

pub row-requires-clause-from : goal.row-requires-clause-from
row-requires-clause-from c =
    let listed = are (goal.at.row-requires-clause-from c).After-deref-turn-items in
    let turns = c.deref-turn-items.result.now in
    turn_has c.args.lists.now turns listed (λ q. c.args.hub_rows.now.first ≤ q) c.requires.from (get_or turns c.loop-turn.turn-index nothing) (Contains-get_or turns c.loop-turn.turn-index nothing c.loop-turn-test.true)

pub row-requires-clause-within : goal.row-requires-clause-within
row-requires-clause-within c =
    let listed = are (goal.at.row-requires-clause-within c).After-deref-turn-items in
    let turns = c.deref-turn-items.result.now in
    turn_has c.args.lists.now turns listed (λ q. q < c.args.hub_rows.now.first + length c.args.hub_rows.now.rows) c.requires.within (get_or turns c.loop-turn.turn-index nothing) (Contains-get_or turns c.loop-turn.turn-index nothing c.loop-turn-test.true)

pub take_run-requires : goal.take_run-requires
take_run-requires c =
    let listed = are (goal.at.take_run-requires c).After-deref-turn-items in
    let turns = c.deref-turn-items.result.now in
    let IsOfRow = λ (e : NodeEntry). IsNode (length c.args.rows.now) e.node in
    subst (λ n. All (λ (e : NodeEntry). IsNode n e.node) c.entries_in_turn-part.result.now) (sym c.loop-turn.invariant.size)
    (subst (All IsOfRow) (sym c.entries_in_turn-part.ensures)
    (all_in_turn c.args.lists.now turns listed IsOfRow c.requires.nodes (get_or turns c.loop-turn.turn-index nothing) (Contains-get_or turns c.loop-turn.turn-index nothing c.loop-turn-test.true)))

-- the next run comes next at each row
module _ (c : After-row) (listed : AreTurnsOf c.args.lists.now c.deref-turn-items.result.now) (edges : List Edge) (at : List ℕ) (c' k v : ℕ) (under : JoinsUnder edges at c.args.hub_rows.now.first c' c.args.hub_rows.now.rows v) (is : IsRowBelow edges at c.args.hub_rows.now.first v (label_row c.args.rows.now k)) (joins : JoinsRow edges at c.args.hub_rows.now.first c' v (entries_of_node (all_entries c.args.lists.now) k)) where
  abbrev turns : List Turn
  turns = c.deref-turn-items.result.now

  abbrev i : ℕ
  i = c.loop-turn.turn-index

  abbrev turn : Turn
  turn = get_or c.deref-turn-items.result.now c.loop-turn.turn-index nothing

  abbrev row_of : List NodeEntry → List Entry
  row_of es = entries_of_node es k

  sorted : IsSortedRow (row_of (all_entries c.args.lists.now)) (row_of (flat_map (part_of c.args.lists.now) turns))
  sorted = IsSortedRow-turns c.args.lists.now turns listed k joins.once

  part : c.entries_in_turn-part.result.now ≡ part_of c.args.lists.now (get_or c.deref-turn-items.result.now c.loop-turn.turn-index nothing)
  part = c.entries_in_turn-part.ensures

  parted : row_of (flat_map (part_of c.args.lists.now) turns) ≡ row_of (flat_map (part_of c.args.lists.now) (take i turns)) ++ (row_of c.entries_in_turn-part.result.now ++ row_of (flat_map (part_of c.args.lists.now) (drop (i + 1) turns)))
  parted =
      row_parted c.args.lists.now turns listed k i nothing c.loop-turn-test.true
      ∙ ap (λ es. row_of (flat_map (part_of c.args.lists.now) (take i turns)) ++ (row_of es ++ row_of (flat_map (part_of c.args.lists.now) (drop (i + 1) turns)))) (sym part)

  comes_next : JoinsNext edges at c.first-first.result c' turn.run.pos v c.row.result.now (label_row c.args.rows.now k) (row_of (flat_map (part_of c.args.lists.now) (take i turns))) (row_of c.entries_in_turn-part.result.now) (row_of (flat_map (part_of c.args.lists.now) (drop (i + 1) turns)))
  comes_next =
      let first = c.args.hub_rows.now.first in
      let done = row_of (flat_map (part_of c.args.lists.now) (take i turns)) in
      let run = row_of c.entries_in_turn-part.result.now in
      let more = row_of (flat_map (part_of c.args.lists.now) (drop (i + 1) turns)) in
      let there = Contains-get_or turns i nothing c.loop-turn-test.true in
      let from = turn_has c.args.lists.now turns listed (λ q. first ≤ q) c.requires.from turn there in
      let low = turn_has c.args.lists.now turns listed (λ q. q < first + length c.args.hub_rows.now.rows) c.requires.within turn there in
      subst (λ p. JoinsNext edges at p c' turn.run.pos v c.row.result.now (label_row c.args.rows.now k) done run more) (sym c.first-first.ensures)
      (subst (λ row. JoinsNext edges at first c' turn.run.pos v row (label_row c.args.rows.now k) done run more) (sym c.row.ensures) (record {
        weights = under.weights;
        ranking = under.ranking;
        node = under.node;
        hub = λ h hub_is. under.each turn.run.pos h from (omega (arith, low, from, under.size, under.up)) hub_is;
        before_is = is;
        joins = subst (JoinsRow edges at first c' v) parted (JoinsRow-sorted edges at first c' v (row_of (all_entries c.args.lists.now)) (row_of (flat_map (part_of c.args.lists.now) turns)) joins sorted);
        rising = subst (λ es. IsStrictlyIncreasing (map pos_of es)) parted sorted.rising;
        one = subst (λ es. All (λ (e : Entry). e.pos ≡ turn.run.pos) (row_of es)) (sym part) (run_has_one c.args.lists.now turns listed k i nothing c.loop-turn-test.true);
      }))

pub loop-turn-preserved : goal.loop-turn-preserved
loop-turn-preserved c =
    let a = (goal.at.loop-turn-preserved c).After-row in
    let listed = are (goal.at.loop-turn-preserved c).After-deref-turn-items in
    let lists = c.args.lists.now in
    let turns = c.deref-turn-items.result.now in
    let i = c.loop-turn.turn-index in
    record {
      size = c.in_ok-take_run.ensures.size ∙ c.loop-turn.invariant.size;
      stays = λ k k_in. GoesOnFrom-more (label_row c.args.rows.now k) (label_row c.loop-turn.rows k) (label_row c.take_run.new.rows k) (c.loop-turn.invariant.stays k k_in) (c.in_ok-take_run.ensures.stays k (subst (λ n. IsNode n k) (sym c.loop-turn.invariant.size) k_in));
      hubs = λ edges at c' k v k_in under is joins.
          let before = label_row c.args.rows.now k in
          let done = entries_of_node (flat_map (part_of c.args.lists.now) (take c.loop-turn.turn-index c.deref-turn-items.result.now)) k in
          let more = entries_of_node (flat_map (part_of c.args.lists.now) (drop (c.loop-turn.turn-index + 1) c.deref-turn-items.result.now)) k in
          let k_there = subst (λ n. IsNode n k) (sym c.loop-turn.invariant.size) k_in in
          let has = c.in_ok-take_run.ensures.hubs edges at c' k v before done more k_there (comes_next a listed edges at c' k v under is joins) (c.loop-turn.invariant.hubs edges at c' k v k_in under is joins) in
          subst (λ es. HasHubs edges at v (label_row c.args.rows.now k) es (label_row c.take_run.new.rows k)) (ap (λ es. done ++ entries_of_node es k) (part a listed edges at c' k v under is joins) ∙ sym (row_done lists turns listed k i nothing c.loop-turn-test.true)) has;
    }

pub returns-clause-rows : goal.returns-clause-rows
returns-clause-rows c edges at c' k v k_in under is joins =
    let first = c.args.hub_rows.now.first in
    let lists = c.args.lists.now in
    let turns = c.deref-turn-items.result.now in
    let listed = are (goal.at.returns-clause-rows c).After-deref-turn-items in
    let all = entries_of_node (all_entries c.args.lists.now) k in
    let in_turn = entries_of_node (flat_map (part_of c.args.lists.now) c.deref-turn-items.result.now) k in
    let has = subst (λ ts. HasHubs edges at v (label_row c.args.rows.now k) (entries_of_node (flat_map (part_of lists) ts) k) (label_row c.loop-turn.rows k)) (take_all c.loop-turn.turn-index turns (omega (arith, c.loop-turn-test.false))) (c.loop-turn.invariant.hubs edges at c' k v k_in under is joins) in
    IsRowBelow-joined edges at first c' v (label_row c.args.rows.now k) in_turn (label_row c.loop-turn.rows k) under.up is (JoinsRow-sorted edges at first c' v all in_turn joins (IsSortedRow-turns lists turns listed k joins.once)) has
