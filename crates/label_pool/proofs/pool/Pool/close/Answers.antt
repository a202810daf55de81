use Rattle.std.specs.Prelude.{Some}
use Rattle.table_seats.specs.Numbers.{numbers}
use Rattle.std.proofs.Common.{◌*◌, length}
use Rattle.std.proofs.Common.{◌≡◌, ◌+◌, ℕ, List, All, IsPermutation, ap, ◌∙◌, sym, subst}
use Rattle.std.specs.Slots.{slots_items}
use Rattle.walk_laws.specs.declared.entry.Entry.{Entry}
use Rattle.walk_laws.specs.Labelling.{label_row}
use Rattle.hub_index.specs.Views.{IsNode}
use Rattle.label_pool.specs.declared.rule.Linked.{Linked}
use Rattle.label_pool.specs.Chains.{EndsIn, IsWritten, entries_of, entries_at}
use Rattle.label_pool.specs.Seats.{IsMet}
use Rattle.label_pool.proofs.Closes.{drawn, ends_in, written, puts, met, if-ok}
use Rattle.label_pool.proofs.pool.Pool.close.Goals as goal
use Rattle.label_pool.proofs.pool.Pool.close.Given
use Rattle.label_pool.proofs.pool.Pool.close.Goals.{After-close_with-closed}

pub gathered-rows-requires-clause-chains : goal.gathered-rows-requires-clause-chains
gathered-rows-requires-clause-chains g c =
    let i = c.self.invariant in
    let words = slots_items c.close_with-closed.result.words in
    subst (λ (t : ℕ × ℕ). (v : ℕ) → IsNode t.0 v → (chain : List Linked) × IsWritten t.0 t.1 words v chain) (λ k. (i.2 k, i.3 k))
    (written g.F.LinkFact.fact c.self.inside.table.shared.key c.seat.inside.seat.id c.seat.inside.seat.me.0 words (slots_items c.close_with-closed.result.slots) c.close_with-closed.ensures.values.2)

-- rows of the chains that are written there
abbrev AreRows : (n cells : ℕ) (words : List ℕ) (rows : List (List Entry)) → Type 0
AreRows n cells words rows = (v : ℕ) (chain : List Linked) → IsNode n v → IsWritten n cells words v chain → label_row rows v ≡ entries_of chain

rows_of : (g : Given.Over) (c : After-close_with-closed g) (rows : List (List Entry)) → AreRows c.self.inside.n c.self.inside.cells (slots_items c.close_with-closed.result.words) rows
    → AreRows c.self.inside.table.shared.key.n c.self.inside.table.shared.key.cells (slots_items c.close_with-closed.result.words) rows
rows_of g c rows are = let i = c.self.invariant in subst (λ (t : ℕ × ℕ). AreRows t.0 t.1 (slots_items c.close_with-closed.result.words) rows) (λ k. (sym i.2 k, sym i.3 k)) are

node_of : (g : Given.Over) (c : After-close_with-closed g) (v : ℕ) → IsNode c.args.self.n v → IsNode c.self.inside.table.shared.key.n v
node_of g c v node = subst (λ n. IsNode n v) (sym (ap (λ d. d.n) c.self.view_is)) node

ends : (g : Given.Over) (c : After-close_with-closed g) → c.seat.inside.seat.me.0.seats ≡ c.self.inside.table.shared.key.seats
    → (IsPermutation c.seat.inside.seat.me.0.knows.blocks (numbers 0 (length c.seat.inside.seat.me.0.knows.blocks))) × ((cell : ℕ) → c.seat.inside.seat.me.0.knows.past ≡ Some cell → length c.seat.inside.seat.me.0.knows.blocks * c.self.inside.table.shared.key.block ≡ c.self.inside.table.shared.key.cells)
ends g c last = drawn g.F.LinkFact.fact c.self.inside.table.shared.key c.seat.inside.seat.id c.seat.inside.seat.me.0 (slots_items c.close_with-closed.result.words) (slots_items c.close_with-closed.result.slots) c.close_with-closed.ensures.values.2 last

pub returns-clause-drawn : goal.returns-clause-drawn
returns-clause-drawn g c =
    let before = (goal.at.returns-clause-drawn g c).After-close_with-closed in
    let left = ap (λ d. d.left + 1) c.seat.view_is ∙ c.requires.last ∙ sym (ap (λ d. d.seats) c.self.view_is) in
    subst (λ bs. IsPermutation bs (numbers 0 (length bs))) (ap (λ d. d.blocks) c.seat.view_is) (ends g before (c.seat.invariant.0 ∙ left)).0

pub returns-clause-past : goal.returns-clause-past
returns-clause-past g c = λ cell is.
    let before = (goal.at.returns-clause-past g c).After-close_with-closed in
    let left = ap (λ d. d.left + 1) c.seat.view_is ∙ c.requires.last ∙ sym (ap (λ d. d.seats) c.self.view_is) in
    let e = (ends g before (c.seat.invariant.0 ∙ left)).1 cell (ap (λ d. d.past) c.seat.view_is ∙ is) in
    (λ k. length ((sym c.seat.view_is k).blocks) * (sym c.self.view_is k).block) ∙ e ∙ ap (λ d. d.cells) c.self.view_is

pub returns-clause-puts : goal.returns-clause-puts
returns-clause-puts g c =
    let before = (goal.at.returns-clause-puts g c).After-close_with-closed in
    let left = ap (λ d. d.left + 1) c.seat.view_is ∙ c.requires.last ∙ sym (ap (λ d. d.seats) c.self.view_is) in
    let last = c.seat.invariant.0 ∙ left in
    if-ok c.gathered-rows.result _ _
    (λ rows are v node. subst (λ ps. IsPermutation (entries_at ps v) (label_row rows v)) (ap (λ d. d.puts) c.seat.view_is)
    (puts g.F.LinkFact.fact c.self.inside.table.shared.key c.seat.inside.seat.id c.seat.inside.seat.me.0 (slots_items c.close_with-closed.result.words) (slots_items c.close_with-closed.result.slots) c.close_with-closed.ensures.values.2
    (label_row rows) (rows_of g before rows are) v (node_of g before v node) last))
    c.gathered-rows.ensures.rows

pub returns-clause-found : goal.returns-clause-found
returns-clause-found g c =
    let before = (goal.at.returns-clause-found g c).After-close_with-closed in
    if-ok c.gathered-rows.result _ _
    (λ rows are. subst (λ looks. All (λ look. EndsIn (label_row rows look.node) look.found) looks) (ap (λ d. d.looks) c.seat.view_is)
    (ends_in g.F.LinkFact.fact c.self.inside.table.shared.key c.seat.inside.seat.id c.seat.inside.seat.me.0 (slots_items c.close_with-closed.result.words) (slots_items c.close_with-closed.result.slots) c.close_with-closed.ensures.values.2
    (label_row rows) (rows_of g before rows are)))
    c.gathered-rows.ensures.rows

pub returns-clause-fact : goal.returns-clause-fact
returns-clause-fact g c =
    let before = (goal.at.returns-clause-fact g c).After-close_with-closed in
    if-ok c.gathered-rows.result _ _
    (λ rows are v node. subst (λ value. All (IsMet g.F.LinkFact.fact value v) (label_row rows v)) (ap (λ d. d.fact) c.self.view_is)
    (met g.F.LinkFact.fact c.self.inside.table.shared.key c.seat.inside.seat.id c.seat.inside.seat.me.0 (slots_items c.close_with-closed.result.words) (slots_items c.close_with-closed.result.slots) c.close_with-closed.ensures.values.2
    (label_row rows) (rows_of g before rows are) v (node_of g before v node)))
    c.gathered-rows.ensures.rows
