use Rattle.std.proofs.Common.{◌≡◌, ◌-◌, ◌^◌, ◌<◌, ◌≤◌, ◌∷◌, [], Bool, false, ℕ, List, All, length, map, heap_items, inl, inr, sym, ap, subst, rules, arith}
use Rattle.std.specs.List.{sum_by}
use Rattle.std.specs.List.Sorted.{IsPermutation}
use Rattle.std.specs.BinaryHeap.{IsUpperBound}
use Rattle.std.specs.Ordering.{nat_cmp, is_lt}
use Rattle.std.proofs.lemmas.Bool.Decides.{nat_tests}
use Rattle.std.proofs.lemmas.List.{nil_from_length, length-append}
use Rattle.std.proofs.lemmas.List.Elements.{All-contains, All-from_recursion, All-weaker}
use Rattle.std.proofs.lemmas.List.Kept.{AllPairs-from_increasing}
use Rattle.std.proofs.lemmas.List.Sorted.{All-permutation, sum_by_pushed, sum_by_popped}
use Rattle.walk_laws.specs.declared.entry.Entry.{Entry}
use Rattle.near_points.specs.declared.cursor.Cursor.{Cursor}
use Rattle.near_points.specs.declared.hit.Hit.{Hit}
use Rattle.near_points.specs.PointWords.{word_at, word_dist, word_node}
use Rattle.near_points.specs.Merging.{hit_of, IsCursor, IsTaken}
use Rattle.near_points.proofs.Merges.{of_popped, popped_inside, taken, dropped, went_on, reordered, AreFirst-merged}
use Rattle.near_points.proofs.WordFacts.{key_fits, word_dist-fits, word_node-fits}
use Rattle.near_points.proofs.merging.merge.Goals as goal

no_less : (c x : Cursor) → is_lt (nat_cmp x.key.0 c.key.0) ≡ false → c.key.0 ≤ x.key.0
no_less c x h = grind (arith, nat_tests)

-- the cursor that was taken out has the least key
in_front : (cursors rest : List Cursor) (c : Cursor) → IsUpperBound (λ a b. nat_cmp b.key.0 a.key.0) c cursors → IsPermutation cursors (c ∷ rest) → All (λ x. c.key.0 ≤ x.key.0) (c ∷ rest)
in_front cursors rest c least moved =
    All-permutation (λ x. c.key.0 ≤ x.key.0) cursors (c ∷ rest) moved
    (All-weaker (λ x. is_lt (nat_cmp x.key.0 c.key.0) ≡ false) (λ x. c.key.0 ≤ x.key.0) (no_less c) cursors (All-from_recursion (λ x. is_lt (nat_cmp x.key.0 c.key.0) ≡ false) cursors least))

few_taken : (key k : ℕ) (given given_then : List Bool) (hits hits_then : List Hit) → IsTaken key given hits given_then hits_then → length hits < k → length hits_then ≤ k
few_taken key k given given_then hits hits_then how fewer = elim how [
  | inl old ↦ omega (arith, ap length old.2, fewer)
  | inr new ↦ omega (arith, ap length new.2, length-append hits (hit_of key ∷ []), fewer)
]

cursor_fits : (words : List ℕ) (row : List Entry) (c : Cursor) → IsCursor words row c → All (λ e. e.dist < 2 ^ 64) row → c.key.0 < 2 ^ 97
cursor_fits words row c is short =
    let word = word_at words c.at in
    subst (λ key. key < 2 ^ 97) (sym is.key) (key_fits is.entry.dist (word_dist word) (word_node word) (All-contains (λ e. e.dist < 2 ^ 64) row is.entry short is.hub.entry) (word_dist-fits word) (word_node-fits word))

abbrev left_of : ℕ → Cursor → ℕ
left_of n c = n - c.at

less_left : (n : ℕ) (cursors rest : List Cursor) (c : Cursor) → IsPermutation cursors (c ∷ rest) → c.at < n → sum_by (left_of n) rest < sum_by (left_of n) cursors
less_left n cursors rest c moved inside = let sum = sum_by_popped (left_of n) c cursors rest moved in omega (arith, sum, inside)

less_left_on : (n : ℕ) (cursors rest now : List Cursor) (c next : Cursor) → IsPermutation cursors (c ∷ rest) → IsPermutation (next ∷ rest) now → c.at < next.at → next.at < n → sum_by (left_of n) now < sum_by (left_of n) cursors
less_left_on n cursors rest now c next moved put later inside =
    let sum = sum_by_popped (left_of n) c cursors rest moved in
    let more = sum_by_pushed (left_of n) next rest now put in
    omega (arith, sum, more, later, inside)

pub take-requires : goal.take-requires
take-requires c =
    let row = c.args._row.now in
    let up = AllPairs-from_increasing (map (λ (e : Entry). e.pos) row) c.requires.row in
    popped_inside c.args.words.now row c.requires.rising up (heap_items c.loop-cursors.cursors) (heap_items c.pop.new.self) c.in-Some.cursor c.loop-cursors.given c.loop-cursors.hits.items c.loop-cursors.invariant.merged c.in-Some.ensures.permutation
    (λ k d lt. let node = c.requires.nodes k d lt in omega (arith, node, c.loop-cursors.auto.given))

pub next_of-requires-clause-inside : goal.next_of-requires-clause-inside
next_of-requires-clause-inside c =
    let row = c.args._row.now in
    let up = AllPairs-from_increasing (map (λ (e : Entry). e.pos) row) c.requires.row in
    let is = of_popped c.args.words.now row c.requires.rising up (heap_items c.loop-cursors.cursors) (heap_items c.pop.new.self) c.in-Some.cursor c.loop-cursors.given c.loop-cursors.hits.items c.loop-cursors.invariant.merged c.in-Some.ensures.permutation in
    is.hub.inside

pub next_of-requires-clause-small : goal.next_of-requires-clause-small
next_of-requires-clause-small c =
    let row = c.args._row.now in
    let up = AllPairs-from_increasing (map (λ (e : Entry). e.pos) row) c.requires.row in
    let is = of_popped c.args.words.now row c.requires.rising up (heap_items c.loop-cursors.cursors) (heap_items c.pop.new.self) c.in-Some.cursor c.loop-cursors.given c.loop-cursors.hits.items c.loop-cursors.invariant.merged c.in-Some.ensures.permutation in
    cursor_fits c.args.words.now row c.in-Some.cursor is c.requires.short

pub loop-cursors-preserved : goal.loop-cursors-preserved
loop-cursors-preserved c =
    let row = c.args._row.now in
    let words = c.args.words.now in
    let up = AllPairs-from_increasing (map (λ (e : Entry). e.pos) row) c.requires.row in
    let cursors = heap_items c.loop-cursors.cursors in
    let rest = heap_items c.pop.new.self in
    let given = c.loop-cursors.given in
    let hits = c.loop-cursors.hits.items in
    let popped = c.in-Some.ensures.heap_order c.loop-cursors.invariant.heap in
    let moved = c.in-Some.ensures.permutation in
    let front = in_front cursors rest c.in-Some.cursor popped.1 moved in
    let inside = popped_inside words row c.requires.rising up cursors rest c.in-Some.cursor given hits c.loop-cursors.invariant.merged moved (λ k d lt. let node = c.requires.nodes k d lt in omega (arith, node, c.loop-cursors.auto.given)) in
    let now = taken words row c.requires.rising up cursors rest c.in-Some.cursor given hits c.loop-cursors.invariant.merged moved front c.take.new.given c.take.new.hits.items inside c.in_ok-take.ensures.taken in
    let fewer : length hits < c.args.k = search (rules, c.loop-cursors-test.true, c.len.ensures) in
    record {
      heap = popped.0;
      merged = dropped words row c.requires.rising up rest c.in-Some.cursor c.take.new.given c.take.new.hits.items now.0 now.1 c.in_default-next_of.ensures.last;
      few = few_taken c.in-Some.cursor.key.0 c.args.k given c.take.new.given hits c.take.new.hits.items c.in_ok-take.ensures.taken fewer;
    }

pub loop-cursors-preserved-in-Continue-branch-2 : goal.loop-cursors-preserved-in-Continue-branch-2
loop-cursors-preserved-in-Continue-branch-2 c =
    let row = c.args._row.now in
    let words = c.args.words.now in
    let up = AllPairs-from_increasing (map (λ (e : Entry). e.pos) row) c.requires.row in
    let cursors = heap_items c.loop-cursors.cursors in
    let rest = heap_items c.pop.new.self in
    let given = c.loop-cursors.given in
    let hits = c.loop-cursors.hits.items in
    let next = c.in-Some-next_of.next in
    let popped = c.in-Some.ensures.heap_order c.loop-cursors.invariant.heap in
    let moved = c.in-Some.ensures.permutation in
    let front = in_front cursors rest c.in-Some.cursor popped.1 moved in
    let inside = popped_inside words row c.requires.rising up cursors rest c.in-Some.cursor given hits c.loop-cursors.invariant.merged moved (λ k d lt. let node = c.requires.nodes k d lt in omega (arith, node, c.loop-cursors.auto.given)) in
    let now = taken words row c.requires.rising up cursors rest c.in-Some.cursor given hits c.loop-cursors.invariant.merged moved front c.take.new.given c.take.new.hits.items inside c.in_ok-take.ensures.taken in
    let on = went_on words row c.requires.rising up rest c.in-Some.cursor c.take.new.given c.take.new.hits.items now.0 now.1 next c.in-Some-next_of.ensures.next c.in-Some-next_of.ensures.key in
    let fewer : length hits < c.args.k = search (rules, c.loop-cursors-test.true, c.len.ensures) in
    record {
      heap = c.in_ok-push.ensures.heap_order popped.0;
      merged = reordered words row c.requires.rising up (next ∷ rest) (heap_items c.push.new.self) c.take.new.given c.take.new.hits.items c.in_ok-push.ensures.permutation on;
      few = few_taken c.in-Some.cursor.key.0 c.args.k given c.take.new.given hits c.take.new.hits.items c.in_ok-take.ensures.taken fewer;
    }

pub loop-cursors-smaller : goal.loop-cursors-smaller
loop-cursors-smaller c =
    let row = c.args._row.now in
    let up = AllPairs-from_increasing (map (λ (e : Entry). e.pos) row) c.requires.row in
    let is = of_popped c.args.words.now row c.requires.rising up (heap_items c.loop-cursors.cursors) (heap_items c.pop.new.self) c.in-Some.cursor c.loop-cursors.given c.loop-cursors.hits.items c.loop-cursors.invariant.merged c.in-Some.ensures.permutation in
    less_left (length c.args.words.now) (heap_items c.loop-cursors.cursors) (heap_items c.pop.new.self) c.in-Some.cursor c.in-Some.ensures.permutation is.hub.inside

pub loop-cursors-smaller-in-Continue-branch-2 : goal.loop-cursors-smaller-in-Continue-branch-2
loop-cursors-smaller-in-Continue-branch-2 c =
    let is = c.in-Some-next_of.ensures.next in
    less_left_on (length c.args.words.now) (heap_items c.loop-cursors.cursors) (heap_items c.pop.new.self) (heap_items c.push.new.self) c.in-Some.cursor c.in-Some-next_of.next c.in-Some.ensures.permutation c.in_ok-push.ensures.permutation is.later is.inside

pub returns-clause-first : goal.returns-clause-first
returns-clause-first c =
    let row = c.args._row.now in
    let up = AllPairs-from_increasing (map (λ (e : Entry). e.pos) row) c.requires.row in
    let full : c.args.k ≤ length c.loop-cursors.hits.items = search (rules, c.loop-cursors-test.false, c.len.ensures) in
    AreFirst-merged c.args.words.now row c.requires.rising up (heap_items c.loop-cursors.cursors) c.loop-cursors.given c.loop-cursors.hits.items c.args.k c.loop-cursors.invariant.merged (inr full) c.loop-cursors.invariant.few

pub returns-in_default-clause-first : goal.returns-in_default-clause-first
returns-in_default-clause-first c =
    let row = c.args._row.now in
    let up = AllPairs-from_increasing (map (λ (e : Entry). e.pos) row) c.requires.row in
    let none : heap_items c.loop-cursors.cursors ≡ [] = nil_from_length _ (omega (arith, c.in_default.ensures.none)) in
    AreFirst-merged c.args.words.now row c.requires.rising up (heap_items c.loop-cursors.cursors) c.loop-cursors.given c.loop-cursors.hits.items c.args.k c.loop-cursors.invariant.merged (inl none) c.loop-cursors.invariant.few
