use Rattle.std.proofs.Common.{◌≡◌, ◌+◌, ◌≤◌, List, ℕ, All, IsPermutation, length, sym, ap, subst, ◌∙◌, arith}
use Rattle.walk_laws.specs.declared.graph.Edge.{Edge}
use Rattle.walk_laws.specs.Joined.{Joined}
use Rattle.walk_laws.specs.Labelling.{EntryFits, label_row}
use Rattle.hub_index.specs.Views.{IsNode, GoesOnFrom}
use Rattle.label_rows.specs.Visits.{left_by, puts_of, seen_of, visits_of}
use Rattle.label_rows.proofs.Closes.{IsClosed, closes}
use Rattle.label_rows.proofs.rows.Rows.close.Goals as goal
use Rattle.label_rows.proofs.rows.Rows.close.Goals.{In_ok-list}
use Rattle.label_rows.proofs.rows.Rows.close.Goals.{After-taken_out}

closed_of : (c : In_ok-list) → IsClosed c.self.inside.table.shared.key c.seat.inside.seat.me.0 c.in_ok-list.list
closed_of c =
    let i = c.seat.invariant in
    let about = c.self.inside.table.shared.key in
    let left = ap (λ d. d.left + 1) c.seat.view_is ∙ c.requires.last ∙ sym (ap (λ d. d.seats) c.self.view_is) in
    let live : 1 ≤ c.seat.inside.seat.me.0.seats = omega (arith, i.0) in
    subst (IsClosed about c.seat.inside.seat.me.0) (sym (c.in_ok-list.ensures ∙ c.taken_out.ensures))
    (closes about c.seat.inside.seat.id c.seat.inside.seat.me.0 _ _ live (i.0 ∙ left) i.2 c.close_with-closed.ensures.values.2)

order_is : (c : In_ok-list) → c.self.inside.table.shared.key.ranking.value ≡ c.args.self.order
order_is c = ap (λ d. d.order) c.self.view_is

node_of : (c : In_ok-list) (v : ℕ) → IsNode (length c.args.self.order) v → IsNode (length c.self.inside.table.shared.key.ranking.value) v
node_of c v node = subst (λ order. IsNode (length order) v) (sym (order_is c)) node

pub returns-clause-size : goal.returns-clause-size
returns-clause-size c = (closed_of c).size ∙ ap length (order_is c)

pub returns-clause-puts : goal.returns-clause-puts
returns-clause-puts c v node = subst (λ visits. IsPermutation (puts_of visits v) (label_row c.in_ok-list.list v)) (ap (λ d. d.visits) c.seat.view_is) ((closed_of c).puts v (node_of c v node))

pub returns-clause-seen : goal.returns-clause-seen
returns-clause-seen c v node = (closed_of c).seen v (node_of c v node) ∙ ap (λ d. seen_of d.visits v) c.seat.view_is

pub returns-clause-visited : goal.returns-clause-visited
returns-clause-visited c v node =
    subst (λ visits. All (λ x. GoesOnFrom (left_by x) (label_row c.in_ok-list.list v)) (visits_of visits v)) (ap (λ d. d.visits) c.seat.view_is) ((closed_of c).visited v (node_of c v node))

pub returns-clause-fit : goal.returns-clause-fit
returns-clause-fit c v node =
    subst (λ (t : List Edge × List ℕ). All (EntryFits (Joined t.0) t.1 v) (label_row c.in_ok-list.list v)) (λ k. (ap (λ d. d.edges) c.self.view_is k, order_is c k)) ((closed_of c).fit v (node_of c v node))
