use Rattle.std.proofs.Common.{◌∙◌, ap, sym}
use Rattle.std.proofs.lemmas.Result.{err_from_is_err_and}
use Rattle.chl_outputs.proofs.PiecesWritten.{HasTaken-step, HasTaken-part, first_part_taken, steady_after}
use Rattle.chl_outputs.proofs.giving.write_pieces.Goals as goal

pub loop-piece-init : goal.loop-piece-init
loop-piece-init g c =
    let first = c.in_ok-write_all.ensures in
    record {
      taken = record { put = c.list.result.0.now; taken = first.ok; rest = c.list.ensures };
      steady = steady_after c.args.out _ _ _ first.ok;
      is_created = first.created;
      input_count = first.input_count;
      output_count = first.output_count;
    }

pub loop-piece-preserved : goal.loop-piece-preserved
loop-piece-preserved g c =
    let was = c.loop-piece.invariant in
    let more = c.in_ok-write_all-2.ensures in
    record {
      taken = HasTaken-step c.args.out c.args.bytes.now c.list.result.1.now c.loop-piece.piece-index c.piece-item.result c.deref.result.now _ _ _ was.taken c.loop-piece-test.true (ap (λ p. p.items) (sym c.piece-item.is) ∙ sym c.deref.ensures.value) more.ok;
      steady = λ steady. steady_after c.args.out _ _ _ more.ok (was.steady steady);
      is_created = more.created ∙ was.is_created;
      input_count = more.input_count ∙ was.input_count;
      output_count = more.output_count ∙ was.output_count;
    }

pub returns-in_err-write_all-clause-err : goal.returns-in_err-write_all-clause-err
returns-in_err-write_all-clause-err g c =
    let p = err_from_is_err_and c.from_residual.result c.from_residual.ensures.1 in
    rw p.1 (first_part_taken c.args.out c.args.bytes.now _ _ c.list.ensures _ _ c.in_err-write_all.ensures.err)

pub returns-in_err-write_all-2-clause-err : goal.returns-in_err-write_all-2-clause-err
returns-in_err-write_all-2-clause-err g c =
    let p = err_from_is_err_and c.from_residual-in_err-write_all-2.result c.from_residual-in_err-write_all-2.ensures.1 in
    rw p.1 (HasTaken-part c.args.out c.args.bytes.now c.list.result.1.now c.loop-piece.piece-index c.piece-item.result c.deref.result.now _ _ _ c.loop-piece.invariant.taken c.loop-piece-test.true
    (ap (λ p. p.items) (sym c.piece-item.is) ∙ sym c.deref.ensures.value) c.in_err-write_all-2.ensures.err)
