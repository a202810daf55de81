use Rattle.std.proofs.Common.{◌≡◌, ◌<◌, ◌≤◌, ◌^◌, ℕ, List, ◌∷◌, sym, ap, ◌∙◌, subst, arith}
use Rattle.std.specs.Prelude.{Some, Contains}
use Rattle.label_pool.specs.declared.rule.Linked.{Linked}
use Rattle.label_pool.specs.declared.rule.Look.{Look}
use Rattle.label_pool.specs.Chains.{named, first_cell, IsTailOf, IsRest}
use Rattle.label_pool.specs.Layout.{next_at, dist_at, name_in, pos_in}
use Rattle.label_pool.specs.Lawful.{Sitter}
use Rattle.label_pool.proofs.Allowed.{reads_one}
use Rattle.label_pool.proofs.Tails.{named-same}
use Rattle.label_pool.proofs.Rests.{IsAt, rest-at, cell-within, next-given}
use Rattle.label_pool.proofs.visit.Visit.next.Goals as goal
use Rattle.label_pool.proofs.visit.Visit.next.Given
use Rattle.label_pool.proofs.visit.Visit.next.Goals.{After-next_word, After-load-dist}

-- the walk stands at a cell that was found
stands : (g : Given.Over) (c : After-next_word g) → c.args.self.now ≡ Some c.in_ok-cell.cell
stands g c = sym c.self.view_is ∙ c.in_ok-cell.was

here : (g : Given.Over) (c : After-next_word g) → IsAt c.args.seat.now.looks c.in_ok-cell.cell
here g c = rest-at c.args.seat.now.looks c.in_ok-cell.cell c.requires.walk.0 (subst (λ a. IsRest c.args.seat.now.looks a c.requires.walk.0) (stands g c) c.requires.walk.1)

-- which is one of the pool's
inside : (g : Given.Over) (c : After-next_word g) → dist_at c.pool.inside.n c.in_ok-cell.cell < c.pool.inside.table.shared.table_id.words
inside g c =
    let looks = ap (λ d. d.looks) c.seat.view_is in
    let whose = ap (λ d. d.pool) c.seat.view_is ∙ c.requires.seat ∙ sym c.pool.view_is in
    let at = subst (λ ls. IsAt ls c.in_ok-cell.cell) (sym looks) (here g c) in
    let low = cell-within c.seat.inside.seat.me.0.knows.looks c.seat.inside.seat.me.0.knows.cells c.in_ok-cell.cell c.seat.invariant.4 at in
    let cells = ap (λ d. d.cells) whose ∙ c.pool.invariant.3 in
    omega (arith, low, cells, c.pool.invariant.0)

-- the seat is of the pool's table, and a load of any word is allowed
same_table : (g : Given.Over) (c : After-next_word g) → c.seat.inside.seat.table_id ≡ c.pool.inside.table.shared.table_id
same_table g c = ap (λ d. d.pool.table) c.seat.view_is ∙ ap (λ d. d.table) (c.requires.seat ∙ sym c.pool.view_is)

same_n : (g : Given.Over) (c : After-next_word g) → c.seat.inside.seat.me.0.knows.n ≡ c.pool.inside.n
same_n g c = ap (λ d. d.n) (ap (λ d. d.pool) c.seat.view_is ∙ c.requires.seat ∙ sym c.pool.view_is) ∙ c.pool.invariant.2

pub load-next-requires : goal.load-next-requires
load-next-requires g c =
    let low = inside g c in
    (same_table g c, omega (arith, low, c.next_word.ensures), reads_one _ _ _ _ _ (omega (arith, c.seat.invariant.0)) c.next_word.result)

pub load-dist-requires : goal.load-dist-requires
load-dist-requires g c =
    let before = (goal.at.load-dist-requires g c).After-next_word in
    let low = inside g before in
    let e = c.load-next.ensures in
    let live = ap (λ (m : Sitter g.row.F.Denot). m.0.seats) e.2.0 ∙ c.seat.invariant.0 in
    (e.0 ∙ same_table g before, omega (arith, low, c.dist_word.ensures), reads_one _ _ _ _ _ (omega (arith, live)) c.dist_word.result)

-- what the two loads told of the cell
record IsCell (next dist : ℕ) (l : Linked) (ls : List Linked) : Type 0 where
  next_is : name_in next ≡ named (first_cell ls)
  next_small : name_in next ≤ 2 ^ 31
  pos_is : pos_in next ≡ l.entry.pos
  dist_is : dist ≡ l.entry.dist

told : (g : Given.Over) (c : After-load-dist g) (look : Look) (l : Linked) (ls : List Linked) → Contains c.args.seat.now.looks look → IsTailOf (l ∷ ls) look.found → l.cell ≡ c.in_ok-cell.cell → IsCell c.load-next.result c.load-dist.result l ls
told g c look l ls there tail is =
    let before = (goal.at-After-load-dist g c).After-next_word in
    let n = same_n g before in
    let there' = subst (λ looks. Contains looks look) (sym (ap (λ d. d.looks) c.seat.view_is)) there in
    let first = c.load-next.ensures.2 in
    let second = c.load-dist.ensures.2 in
    let me1 = first.0 in
    let a = (first.1 look l ls there' tail).next (c.next_word.ensures ∙ (λ k. next_at (sym n k) (sym is k))) in
    let d = (second.1 look l ls (subst (λ (m : Sitter g.row.F.Denot). Contains m.0.knows.looks look) (sym me1) there') tail).dist (c.dist_word.ensures ∙ (λ k. dist_at (sym (ap (λ (m : Sitter g.row.F.Denot). m.0.knows.n) me1 ∙ n) k) (sym is k))) in
    record { next_is = a.0; next_small = a.1; pos_is = a.2; dist_is = d }

told_here : (g : Given.Over) (c : After-load-dist g) (at : IsAt c.args.seat.now.looks c.in_ok-cell.cell) → IsCell c.load-next.result c.load-dist.result at.l at.ls
told_here g c at = told g c at.look at.l at.ls at.there at.tail at.is

pub cell_in-self-inside-requires : goal.cell_in-self-inside-requires
cell_in-self-inside-requires g c = (told_here g c (here g (goal.at-After-load-dist g c).After-next_word)).next_small

pub returns-clause-next : goal.returns-clause-next
returns-clause-next g c rest r =
    let before = (goal.at.returns-clause-next g c).After-load-dist in
    let first = (goal.at.returns-clause-next g c).After-next_word in
    next-given c.args.seat.now.looks c.in_ok-cell.cell _ _ rest
    (λ look l ls there tail is.
    let t = told g before look l ls there tail is in
    ((λ k. Some (record { pos = (c.pos_in.ensures ∙ t.pos_is) k; dist = (c.of_u64.ensures ∙ t.dist_is) k })), named-same c.cell_in-self-inside.result (first_cell ls) (c.cell_in-self-inside.ensures ∙ t.next_is)))
    (subst (λ a. IsRest c.args.seat.now.looks a rest) (stands g first) r)
