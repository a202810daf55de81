use Rattle.std.proofs.Common.{◌≡◌, true, [], ◌∷◌, ◌++◌, refl, sym, ap, ◌∙◌}
use mathlib.Core.Bool.{true≢false}
use Rattle.std.proofs.lemmas.List.{append-nil}
use Rattle.pruned_tree.proofs.GrownPuts.{IsGrownBy-none, HasGrown-then, not_ok}
use Rattle.pool_view.specs.Fitting.{edges_of, order_of}
use Rattle.pool_view.specs.Viewing.{ViewKept, puts_row}
use Rattle.gll_superstep.proofs.JoinedOutputs.{stays_at}
use Rattle.gll_superstep.proofs.UncoveredPuts.{StayUncovered-none, StayUncovered-then}
use Rattle.gll_superstep.proofs.growing.grow_trees.Goals as goal

pub next_tree-requires-clause-seat : goal.next_tree-requires-clause-seat
next_tree-requires-clause-seat g c = stays_at c.args.context.now.claims.now c.args.seat.now c.loop.seat c.loop.invariant.3 c.requires.seat

pub loop-init : goal.loop-init
loop-init g c = (
  tt,
  tt,
  c.requires.work,
  refl,
  refl,
  c.requires.over,
  c.requires.edges,
  c.requires.order,
  refl,
  λ same. same,
  ([], sym (append-nil c.args.seat.now.got), λ v node. IsGrownBy-none c.args.context.now.graph.now.edges c.args.context.now.ranking.now (true ≡ true) v (puts_row c.args.view.now v)),
  StayUncovered-none c.args.context.now.ranking.now c.args.view.now.global (puts_row c.args.view.now),
)

pub loop-preserved : goal.loop-preserved
loop-preserved g c = (
  tt,
  tt,
  c.next_tree.ensures.work ∙ c.loop.invariant.2,
  c.next_tree.ensures.seat ∙ c.loop.invariant.3,
  c.next_tree.ensures.left ∙ c.loop.invariant.4,
  rw c.in-Ok-Some.field-0-is at c.in-Ok-Some.ensures.goes_on,
  ap (λ (k : ViewKept). edges_of k.pool.fact) c.next_tree.ensures.kept ∙ c.loop.invariant.6,
  ap (λ (k : ViewKept). order_of k.pool.fact) c.next_tree.ensures.kept ∙ c.loop.invariant.7,
  c.next_tree.ensures.kept ∙ c.loop.invariant.8,
  λ same. c.in_ok-push-in-Ok-Some.ensures.items ∙ ap (λ got. got ++ c.in-Ok-Some.tree.root ∷ []) (c.loop.invariant.9 same) ∙ sym (rw c.in-Ok-Some.field-0-is at c.in-Ok-Some.ensures.root),
  HasGrown-then c.args.context.now.graph.now.edges c.args.context.now.ranking.now _ _ _ c.args.seat.now.got c.loop.seat.got c.next_tree.new.seat.got (puts_row c.args.view.now) (puts_row c.loop.view) (puts_row c.next_tree.new.view) c.loop.invariant.10 c.in-Ok-Some.ensures.grown c.next_tree.ensures.once (λ t. (t, t)),
  StayUncovered-then c.args.context.now.ranking.now c.args.view.now.global c.loop.view.global (puts_row c.args.view.now) (puts_row c.loop.view) (puts_row c.next_tree.new.view) (ap (λ (k : ViewKept). k.global) c.loop.invariant.8) c.loop.invariant.11 c.next_tree.ensures.apart,
)

pub returns-in-Ok-None-clause-grown : goal.returns-in-Ok-None-clause-grown
returns-in-Ok-None-clause-grown g c =
    HasGrown-then c.args.context.now.graph.now.edges c.args.context.now.ranking.now _ _ _ c.args.seat.now.got c.loop.seat.got c.next_tree.new.seat.got (puts_row c.args.view.now) (puts_row c.loop.view) (puts_row c.next_tree.new.view) c.loop.invariant.10 c.in-Ok-None.ensures.grown c.next_tree.ensures.once (λ t. (t, t))

pub returns-in-Err-clause-grown : goal.returns-in-Err-clause-grown
returns-in-Err-clause-grown g c =
    HasGrown-then c.args.context.now.graph.now.edges c.args.context.now.ranking.now _ _ _ c.args.seat.now.got c.loop.seat.got c.next_tree.new.seat.got (puts_row c.args.view.now) (puts_row c.loop.view) (puts_row c.next_tree.new.view) c.loop.invariant.10 c.in-Err.ensures.grown c.next_tree.ensures.once (λ t. absurd (true≢false (sym t)))

pub returns-then-is_done-clause-grown : goal.returns-then-is_done-clause-grown
returns-then-is_done-clause-grown g c =
    HasGrown-then c.args.context.now.graph.now.edges c.args.context.now.ranking.now _ _ _ c.args.seat.now.got c.loop.seat.got c.next_tree.new.seat.got (puts_row c.args.view.now) (puts_row c.loop.view) (puts_row c.next_tree.new.view) c.loop.invariant.10 c.in-Ok-Some.ensures.grown c.next_tree.ensures.once (λ t. (t, t))

pub returns-in-Ok-None-clause-apart : goal.returns-in-Ok-None-clause-apart
returns-in-Ok-None-clause-apart g c =
    StayUncovered-then c.args.context.now.ranking.now c.args.view.now.global c.loop.view.global (puts_row c.args.view.now) (puts_row c.loop.view) (puts_row c.next_tree.new.view) (ap (λ (k : ViewKept). k.global) c.loop.invariant.8) c.loop.invariant.11 c.next_tree.ensures.apart

pub returns-in-Err-clause-apart : goal.returns-in-Err-clause-apart
returns-in-Err-clause-apart g c =
    StayUncovered-then c.args.context.now.ranking.now c.args.view.now.global c.loop.view.global (puts_row c.args.view.now) (puts_row c.loop.view) (puts_row c.next_tree.new.view) (ap (λ (k : ViewKept). k.global) c.loop.invariant.8) c.loop.invariant.11 c.next_tree.ensures.apart

pub returns-then-is_done-clause-apart : goal.returns-then-is_done-clause-apart
returns-then-is_done-clause-apart g c =
    StayUncovered-then c.args.context.now.ranking.now c.args.view.now.global c.loop.view.global (puts_row c.args.view.now) (puts_row c.loop.view) (puts_row c.next_tree.new.view) (ap (λ (k : ViewKept). k.global) c.loop.invariant.8) c.loop.invariant.11 c.next_tree.ensures.apart

pub returns-then-is_done-clause-listed : goal.returns-then-is_done-clause-listed
returns-then-is_done-clause-listed g c same = c.in_ok-push-in-Ok-Some.ensures.items ∙ ap (λ got. got ++ c.in-Ok-Some.tree.root ∷ []) (c.loop.invariant.9 same) ∙ sym (rw c.in-Ok-Some.field-0-is at c.in-Ok-Some.ensures.root)

pub returns-in-Ok-None-clause-listed : goal.returns-in-Ok-None-clause-listed
returns-in-Ok-None-clause-listed g c same = c.loop.invariant.9 same ∙ sym (rw c.in-Ok-None.field-0-is at c.in-Ok-None.ensures.none)

pub returns-in_err-push-in-Ok-Some-clause-grown : goal.returns-in_err-push-in-Ok-Some-clause-grown
returns-in_err-push-in-Ok-Some-clause-grown g c =
    HasGrown-then c.args.context.now.graph.now.edges c.args.context.now.ranking.now _ _ _ c.args.seat.now.got c.loop.seat.got c.next_tree.new.seat.got (puts_row c.args.view.now) (puts_row c.loop.view) (puts_row c.next_tree.new.view) c.loop.invariant.10 c.in-Ok-Some.ensures.grown c.next_tree.ensures.once
    (λ ok. absurd (not_ok c.from_residual.result ok c.from_residual.ensures.0))

pub returns-in_err-push-in-Ok-Some-clause-work : goal.returns-in_err-push-in-Ok-Some-clause-work
returns-in_err-push-in-Ok-Some-clause-work g c = c.next_tree.ensures.work ∙ c.loop.invariant.2 ∙ sym c.requires.work

pub returns-in_err-push-in-Ok-Some-clause-seat : goal.returns-in_err-push-in-Ok-Some-clause-seat
returns-in_err-push-in-Ok-Some-clause-seat g c = c.next_tree.ensures.seat ∙ c.loop.invariant.3

pub returns-in_err-push-in-Ok-Some-clause-left : goal.returns-in_err-push-in-Ok-Some-clause-left
returns-in_err-push-in-Ok-Some-clause-left g c = c.next_tree.ensures.left ∙ c.loop.invariant.4

pub returns-in_err-push-in-Ok-Some-clause-begun : goal.returns-in_err-push-in-Ok-Some-clause-begun
returns-in_err-push-in-Ok-Some-clause-begun g c = c.next_tree.ensures.begun

pub returns-in_err-push-in-Ok-Some-clause-kept : goal.returns-in_err-push-in-Ok-Some-clause-kept
returns-in_err-push-in-Ok-Some-clause-kept g c = c.next_tree.ensures.kept ∙ c.loop.invariant.8

pub returns-then-is_done-clause-work : goal.returns-then-is_done-clause-work
returns-then-is_done-clause-work g c = c.next_tree.ensures.work ∙ c.loop.invariant.2 ∙ sym c.requires.work

pub returns-then-is_done-clause-seat : goal.returns-then-is_done-clause-seat
returns-then-is_done-clause-seat g c = c.next_tree.ensures.seat ∙ c.loop.invariant.3

pub returns-then-is_done-clause-left : goal.returns-then-is_done-clause-left
returns-then-is_done-clause-left g c = c.next_tree.ensures.left ∙ c.loop.invariant.4

pub returns-then-is_done-clause-begun : goal.returns-then-is_done-clause-begun
returns-then-is_done-clause-begun g c = c.next_tree.ensures.begun

pub returns-then-is_done-clause-kept : goal.returns-then-is_done-clause-kept
returns-then-is_done-clause-kept g c = c.next_tree.ensures.kept ∙ c.loop.invariant.8

pub returns-in-Ok-None-clause-work : goal.returns-in-Ok-None-clause-work
returns-in-Ok-None-clause-work g c = c.next_tree.ensures.work ∙ c.loop.invariant.2 ∙ sym c.requires.work

pub returns-in-Ok-None-clause-seat : goal.returns-in-Ok-None-clause-seat
returns-in-Ok-None-clause-seat g c = c.next_tree.ensures.seat ∙ c.loop.invariant.3

pub returns-in-Ok-None-clause-left : goal.returns-in-Ok-None-clause-left
returns-in-Ok-None-clause-left g c = c.next_tree.ensures.left ∙ c.loop.invariant.4

pub returns-in-Ok-None-clause-begun : goal.returns-in-Ok-None-clause-begun
returns-in-Ok-None-clause-begun g c = c.next_tree.ensures.begun

pub returns-in-Ok-None-clause-kept : goal.returns-in-Ok-None-clause-kept
returns-in-Ok-None-clause-kept g c = c.next_tree.ensures.kept ∙ c.loop.invariant.8

pub returns-in-Err-clause-work : goal.returns-in-Err-clause-work
returns-in-Err-clause-work g c = c.next_tree.ensures.work ∙ c.loop.invariant.2 ∙ sym c.requires.work

pub returns-in-Err-clause-seat : goal.returns-in-Err-clause-seat
returns-in-Err-clause-seat g c = c.next_tree.ensures.seat ∙ c.loop.invariant.3

pub returns-in-Err-clause-left : goal.returns-in-Err-clause-left
returns-in-Err-clause-left g c = c.next_tree.ensures.left ∙ c.loop.invariant.4

pub returns-in-Err-clause-begun : goal.returns-in-Err-clause-begun
returns-in-Err-clause-begun g c = c.next_tree.ensures.begun

pub returns-in-Err-clause-kept : goal.returns-in-Err-clause-kept
returns-in-Err-clause-kept g c = c.next_tree.ensures.kept ∙ c.loop.invariant.8
