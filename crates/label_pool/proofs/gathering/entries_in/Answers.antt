use Rattle.std.proofs.Common.{◌≡◌, ◌<◌, ◌+◌, List, sym, ap, ◌∙◌, subst, arith}
use Rattle.std.specs.Prelude.{slice_index}
use Rattle.std.specs.Slots.{slots_items}
use Rattle.label_pool.specs.declared.rule.Linked.{Linked}
use Rattle.label_pool.specs.Chains.{IsWritten}
use Rattle.label_pool.specs.Layout.{head_at, next_at, dist_at, name_in, pos_in}
use Rattle.label_pool.proofs.Tails.{named-small}
use Rattle.label_pool.proofs.Walked.{IsWalked, Stands, begins, stands, goes_on, ended, spent, at_word}
use Rattle.label_pool.proofs.gathering.entries_in.Goals as goal
use Rattle.label_pool.proofs.gathering.entries_in.Goals.{After-next_word, After-word, After-word-next, else-loop-test, then-loop-test+in_default}

-- the head, as it was read
head_is : (c : After-word) → c.word.result ≡ slice_index (slots_items c.args.closed.now.words) (head_at c.args.v)
head_is c = sym (at_word (slots_items c.args.closed.now.words) c.head_word.result c.word.result c.word.ensures) ∙ ap (slice_index (slots_items c.args.closed.now.words)) c.head_word.ensures

pub cell_named-at-requires : goal.cell_named-at-requires
cell_named-at-requires c =
    let w = c.requires.chain.1 in
    let small = named-small c.args.cells c.requires.chain.0 w.within in
    omega (arith, small, head_is c, w.head, c.requires.limits.1)

pub loop-init : goal.loop-init
loop-init c chain w = subst (IsWalked chain c.cell_named-at.result 0) (sym c.in_ok-entries.ensures.items) (begins c.args.n c.args.cells (slots_items c.args.closed.now.words) c.args.v chain w c.cell_named-at.result (c.cell_named-at.ensures ∙ head_is (goal.at.loop-init c).After-word))

-- the cell at which the walk stands, of any chain that is written there
standing : (c : After-next_word) (chain : List Linked) (w : IsWritten c.args.n c.args.cells (slots_items c.args.closed.now.words) c.args.v chain)
    → Stands c.args.n c.args.cells (slots_items c.args.closed.now.words) c.args.v chain w c.in-Some.cell c.loop.counter c.loop.entries.items
standing c chain w = stands c.args.n c.args.cells (slots_items c.args.closed.now.words) c.args.v chain w c.in-Some.cell c.loop.at c.loop.counter c.loop.entries.items c.in-Some.is (c.loop.invariant chain w)

here : (c : After-next_word) → Stands c.args.n c.args.cells (slots_items c.args.closed.now.words) c.args.v c.requires.chain.0 c.requires.chain.1 c.in-Some.cell c.loop.counter c.loop.entries.items
here c = standing c c.requires.chain.0 c.requires.chain.1

low : (c : After-next_word) → c.in-Some.cell < c.args.cells
low c = let s = here c in let b = s.within.cell in omega (arith, b, s.is)

pub word-next-requires : goal.word-next-requires
word-next-requires c = (omega (arith, low c, c.next_word.ensures, c.requires.size), c.requires.full)

-- the word of the next cell and the position, as it was read
next_is : (c : After-word-next) (l : Linked) → l.cell ≡ c.in-Some.cell → c.word-next.result ≡ slice_index (slots_items c.args.closed.now.words) (next_at c.args.n l.cell)
next_is c l is = let words = slots_items c.args.closed.now.words in sym (at_word words c.next_word.result c.word-next.result c.word-next.ensures) ∙ ap (slice_index words) (c.next_word.ensures ∙ ap (next_at c.args.n) (sym is))

pub word-dist-requires : goal.word-dist-requires
word-dist-requires c = (omega (arith, low (goal.at.word-dist-requires c).After-next_word, c.dist_word.ensures, c.requires.size), c.requires.full)

pub cell_in-at-requires : goal.cell_in-at-requires
cell_in-at-requires c =
    let s = here (goal.at.cell_in-at-requires c).After-next_word in
    let read = ap name_in (next_is (goal.at.cell_in-at-requires c).After-word-next s.l s.is) ∙ s.holds.next in
    let small = s.small in
    omega (arith, read, small, c.requires.limits.1)

pub loop-preserved : goal.loop-preserved
loop-preserved c chain w =
    let s = standing (goal.at.loop-preserved c).After-next_word chain w in
    let words = slots_items c.args.closed.now.words in
    let read = next_is (goal.at.loop-preserved c).After-word-next s.l s.is in
    let pos = c.pos_in.ensures ∙ ap pos_in read ∙ s.holds.pos in
    let dist = sym (at_word words c.dist_word.result c.word-dist.result c.word-dist.ensures) ∙ ap (slice_index words) (c.dist_word.ensures ∙ ap (dist_at c.args.n) (sym s.is)) ∙ s.holds.dist in
    let next = c.cell_in-at.ensures ∙ ap name_in read ∙ s.holds.next in
    subst (IsWalked chain c.cell_in-at.result (c.loop.counter + 1)) (sym c.in_ok-push.ensures.items)
    (goes_on c.args.n c.args.cells words c.args.v chain w c.in-Some.cell c.loop.counter c.loop.entries.items (record { pos = c.pos_in.result; dist = c.of_u64.result }) c.cell_in-at.result s (λ k. record { pos = pos k; dist = (c.of_u64.ensures ∙ dist) k }) next)

pub returns : goal.returns
returns c chain w =
    let words = slots_items c.args.closed.now.words in
    elim c.loop-test.branch [
      | else-loop-test t ↦ spent c.args.n c.args.cells words c.args.v chain w c.loop.at c.loop.counter c.loop.entries.items t.loop-test.false (c.loop.invariant chain w)
      | then-loop-test+in_default t ↦ ended c.args.n c.args.cells words c.args.v chain w c.loop.at c.loop.counter c.loop.entries.items t.in_default.is (c.loop.invariant chain w)
    ]
