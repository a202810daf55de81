use Rattle.std.proofs.Common.{◌≡◌, ◌≢◌, ℕ, ◌+◌, ◌^◌, ◌<◌, ◌≤◌, false, eqb, List, length, get_or, arith, rules, Fits, w32, below_more, get_or-set_other, get_or-set_same, lit<}
use Rattle.std.proofs.Math.ListN.{set}
use Rattle.std.specs.List.{IsDistinct}
use Rattle.std.proofs.lemmas.Bool.{eq-eqb}
use Rattle.std.proofs.lemmas.Map.Keys.{apart_from_distinct}
use Rattle.walk_laws.specs.Ranking.{IsRanking, position_of}
use Rattle.walk_laws.proofs.Positions.{length-lt_from_below, position-lt, get_or-position}
use Rattle.rank_table.proofs.ranking.places_of.Goals as goal

-- each node before p has its place in the table
HasPlaces : List ℕ → List ℕ → ℕ → Type 0
HasPlaces at places p = (k : ℕ) → k < p → get_or places (get_or at k 0) 0 ≡ k

-- the node at p gets its place, and the others keep theirs
one_more : (at places : List ℕ) (p : ℕ) → IsDistinct eqb at → p < length at → get_or at p 0 < length places → HasPlaces at places p → HasPlaces at (set places (get_or at p 0) p) (p + 1)
unfolding HasPlaces
one_more at places p once below room placed =
    below_more _ _
    (λ k h. let apart : get_or at k 0 ≢ get_or at p 0 = λ same. let no : eqb (get_or at k 0) (get_or at p 0) ≡ false = apart_from_distinct eqb at k p 0 once h below in let yes = eq-eqb _ _ same in cc in rw get_or-set_other (placed k h))
    (rw get_or-set_same)

-- with all nodes placed, a node's place is its position
all_placed : (at places : List ℕ) (n v : ℕ) → IsRanking at → length at ≤ n → HasPlaces at places n → 1 ≤ v → v ≤ length at → get_or places v 0 ≡ position_of at v
unfolding HasPlaces
all_placed at places n v r all placed from_one up_to_n =
    let place : position_of at v < length at = position-lt at v r from_one up_to_n in
    let at_place = placed (position_of at v) (omega arith) in
    rw (get_or-position at v 0 place) at at_place

-- nodes that fit 32 bits are fewer than 2 ^ 32
short : (at : List ℕ) → IsRanking at → ((k : ℕ) → Fits w32 (get_or at k 0)) → length at < 2 ^ 32
short at r fits = length-lt_from_below at (2 ^ 32) r (lit< tt) (λ k. omega (arith, fits k))

pub overflow_cast-p : goal.overflow_cast-p
overflow_cast-p c = let few = short c.args.at.now c.requires c.type_inv.at in omega arith

pub loop-p-preserved : goal.loop-p-preserved
unfolding HasPlaces
loop-p-preserved c = record {
  size = search rules;
  placed =
      let node = (c.requires.node c.loop-p.p 0 c.loop-p-test.true).1 in
      one_more c.args.at.now c.loop-p.places.items c.loop-p.p c.requires.once c.loop-p-test.true (omega (arith, node, c.loop-p.invariant.size)) c.loop-p.invariant.placed;
}

pub returns-in_err-places-clause-small : goal.returns-in_err-places-clause-small
returns-in_err-places-clause-small c = short c.args.at.now c.requires c.type_inv.at

pub returns-clause-small : goal.returns-clause-small
returns-clause-small c = short c.args.at.now c.requires c.type_inv.at

pub returns-clause-place : goal.returns-clause-place
unfolding HasPlaces
returns-clause-place c = λ v. all_placed c.args.at.now c.loop-p.places.items c.loop-p.p v c.requires c.loop-p-test.false c.loop-p.invariant.placed
