use Rattle.std.proofs.Common.{◌≡◌, List, [], ◌∷◌, ◌++◌, refl, sym, ap, ◌∙◌, arith}
use Rattle.std.specs.Prelude.{slice_index}
use Rattle.std.specs.Slots.{slots_items}
use Rattle.label_pool.specs.declared.rule.Linked.{Linked}
use Rattle.label_pool.specs.Chains.{IsWritten}
use Rattle.label_pool.specs.Layout.{head_at, next_at, name_in}
use Rattle.label_pool.proofs.Tails.{named-small}
use Rattle.label_pool.proofs.Walked.{Stands, begins, stands, goes_on, ended, spent, at_word, as-many}
use Rattle.label_pool.proofs.gathering.cells_in.Goals as goal
use Rattle.label_pool.proofs.gathering.cells_in.Goals.{After-next_word, After-word, After-word-in-loop-count}

-- the head, as it was read
head_is : (c : After-word) → c.word.result ≡ slice_index (slots_items c.args.closed.now.words) (head_at c.args.v)
head_is c = sym (at_word (slots_items c.args.closed.now.words) c.head_word.result c.word.result c.word.ensures) ∙ ap (slice_index (slots_items c.args.closed.now.words)) c.head_word.ensures

pub cell_named-at-requires : goal.cell_named-at-requires
cell_named-at-requires c =
    let w = c.requires.chain.1 in
    let small = named-small c.args.cells c.requires.chain.0 w.within in
    omega (arith, small, head_is c, w.head, c.requires.limits.1)

pub loop-count-init : goal.loop-count-init
loop-count-init c chain w = ([], begins c.args.n c.args.cells (slots_items c.args.closed.now.words) c.args.v chain w c.cell_named-at.result (c.cell_named-at.ensures ∙ head_is (goal.at.loop-count-init c).After-word))

-- the cell at which the walk stands, of any chain that is written there
standing : (c : After-next_word) (chain : List Linked) (w : IsWritten c.args.n c.args.cells (slots_items c.args.closed.now.words) c.args.v chain)
    → Stands c.args.n c.args.cells (slots_items c.args.closed.now.words) c.args.v chain w c.in-Some.cell c.loop-count.count (c.loop-count.invariant chain w).0
standing c chain w = stands c.args.n c.args.cells (slots_items c.args.closed.now.words) c.args.v chain w c.in-Some.cell c.loop-count.at c.loop-count.count (c.loop-count.invariant chain w).0 c.in-Some.is (c.loop-count.invariant chain w).1

pub word-requires-in-loop-count : goal.word-requires-in-loop-count
word-requires-in-loop-count c =
    let s = standing c c.requires.chain.0 c.requires.chain.1 in
    let b = s.within.cell in
    (omega (arith, b, s.is, c.next_word.ensures, c.requires.size), c.requires.full)

-- the name of the next cell, as it was read
next_is : (c : After-word-in-loop-count) (l : Linked) → l.cell ≡ c.in-Some.cell → name_in c.word-in-loop-count.result ≡ name_in (slice_index (slots_items c.args.closed.now.words) (next_at c.args.n l.cell))
next_is c l is = let words = slots_items c.args.closed.now.words in ap name_in (sym (at_word words c.next_word.result c.word-in-loop-count.result c.word-in-loop-count.ensures) ∙ ap (slice_index words) (c.next_word.ensures ∙ ap (next_at c.args.n) (sym is)))

pub cell_in-at-requires : goal.cell_in-at-requires
cell_in-at-requires c =
    let s = standing (goal.at.cell_in-at-requires c).After-next_word c.requires.chain.0 c.requires.chain.1 in
    let read = next_is c s.l s.is ∙ s.holds.next in
    let small = s.small in
    omega (arith, read, small, c.requires.limits.1)

pub loop-count-preserved : goal.loop-count-preserved
loop-count-preserved c chain w =
    let s = standing (goal.at.loop-count-preserved c).After-next_word chain w in
    let words = slots_items c.args.closed.now.words in
    let next = c.cell_in-at.ensures ∙ next_is (goal.at.loop-count-preserved c).After-word-in-loop-count s.l s.is ∙ s.holds.next in
    let entries = (c.loop-count.invariant chain w).0 in
    (entries ++ s.l.entry ∷ [], goes_on c.args.n c.args.cells words c.args.v chain w c.in-Some.cell c.loop-count.count entries s.l.entry c.cell_in-at.result s refl next)

-- a walk of as many steps as there are cells was of the whole chain
pub returns : goal.returns
returns c chain w =
    let t = c.loop-count.invariant chain w in
    let all = c.loop-count-test.false in
    let many = as-many chain c.loop-count.at c.loop-count.count t.0 t.1 (spent c.args.n c.args.cells (slots_items c.args.closed.now.words) c.args.v chain w c.loop-count.at c.loop-count.count t.0 all t.1) in
    omega (arith, many, all, w.most)

-- and so was one that stands at the end
pub returns-in_default : goal.returns-in_default
returns-in_default c chain w =
    let t = c.loop-count.invariant chain w in
    sym (as-many chain c.loop-count.at c.loop-count.count t.0 t.1 (ended c.args.n c.args.cells (slots_items c.args.closed.now.words) c.args.v chain w c.loop-count.at c.loop-count.count t.0 c.in_default.is t.1))
