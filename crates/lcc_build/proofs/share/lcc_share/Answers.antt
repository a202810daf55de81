use Rattle.std.proofs.Common.{◌≡◌, true, false, [], refl, sym, ap, subst, ◌∙◌}
use mathlib.Core.Bool.{true≢false}
use Rattle.std.proofs.lemmas.List.{append-nil}
use Rattle.root_claims.specs.Answers.{is_end}
use Rattle.label_rows.specs.Visits.{puts_of}
use Rattle.pruned_tree.specs.GrownBy.{HasGrown, IsGrownBy}
use Rattle.pruned_tree.proofs.GrownPuts.{IsGrownBy-none, HasGrown-then}
use Rattle.lcc_build.proofs.share.lcc_share.Goals as goal

pub loop-init : goal.loop-init
loop-init g c = (
  tt,
  tt,
  c.requires.work,
  c.requires.claim_seat,
  refl,
  c.requires.over,
  ap (λ hand. hand.rows) c.new-hand.ensures ∙ c.requires.row_seat,
  ap (λ hand. hand.left) c.new-hand.ensures,
  (
    [],
    sym (append-nil c.args.claim_seat.got),
    λ v node. subst (λ hand. IsGrownBy c.args.graph.now.edges c.args.ranking.now [] (true ≡ true) v (puts_of c.args.row_seat.visits v) (puts_of hand.visits v)) (sym c.new-hand.ensures)
        (IsGrownBy-none c.args.graph.now.edges c.args.ranking.now (true ≡ true) v (puts_of c.args.row_seat.visits v)),
  ),
)

pub loop-preserved : goal.loop-preserved
loop-preserved g c = (
  tt,
  tt,
  c.next_tree.ensures.work ∙ c.loop.invariant.2,
  c.next_tree.ensures.seat,
  c.next_tree.ensures.left ∙ c.loop.invariant.4,
  c.in-Ok-Root.ensures.over ∙ ap is_end c.in-Ok-Root.field-0-is,
  c.next_tree.ensures.hand.0 ∙ c.loop.invariant.6,
  c.next_tree.ensures.hand.1 ∙ c.loop.invariant.7,
  HasGrown-then c.args.graph.now.edges c.args.ranking.now _ _ _ c.args.claim_seat.got c.loop.seat.got c.next_tree.new.seat.got (puts_of c.args.row_seat.visits) (puts_of c.loop.hand.visits) (puts_of c.next_tree.new.hand.visits) c.loop.invariant.8 c.in-Ok-Root.ensures.grown c.next_tree.ensures.once (λ t. (t, t)),
)

pub returns-in-Ok-End-clause-grown : goal.returns-in-Ok-End-clause-grown
returns-in-Ok-End-clause-grown g c =
    subst (λ hand. HasGrown c.args.graph.now.edges c.args.ranking.now (true ≡ true) c.args.claim_seat.got c.next_tree.new.seat.got (puts_of c.args.row_seat.visits) (puts_of hand.visits)) (sym c.into_seat.ensures)
    (HasGrown-then c.args.graph.now.edges c.args.ranking.now _ _ _ c.args.claim_seat.got c.loop.seat.got c.next_tree.new.seat.got (puts_of c.args.row_seat.visits) (puts_of c.loop.hand.visits) (puts_of c.next_tree.new.hand.visits) c.loop.invariant.8 c.in-Ok-End.ensures.grown c.next_tree.ensures.once (λ t. (t, t)))

pub returns-in-Err-clause-grown : goal.returns-in-Err-clause-grown
returns-in-Err-clause-grown g c =
    subst (λ hand. HasGrown c.args.graph.now.edges c.args.ranking.now (false ≡ true) c.args.claim_seat.got c.next_tree.new.seat.got (puts_of c.args.row_seat.visits) (puts_of hand.visits)) (sym c.into_seat-in-Err.ensures)
    (HasGrown-then c.args.graph.now.edges c.args.ranking.now _ _ _ c.args.claim_seat.got c.loop.seat.got c.next_tree.new.seat.got (puts_of c.args.row_seat.visits) (puts_of c.loop.hand.visits) (puts_of c.next_tree.new.hand.visits) c.loop.invariant.8 c.in-Err.ensures.grown c.next_tree.ensures.once (λ t. absurd (true≢false (sym t))))
