use Rattle.std.proofs.Common.{◌≡◌, ◌∙◌, ap, subst, sym}
use Rattle.std.specs.Prelude.{Err}
use Rattle.desk_io.specs.Contents.{Tells}
use Rattle.chl_answers.specs.Outcome.{given, GivesPrefix, Runs}
use Rattle.chl_answers.proofs.WaysToEnd.{runs_done, runs_failed, runs_lost, runs_stopped}
use Rattle.chl_cmd.proofs.running.carry_out.Goals as goal

pub returns-in-Ok-give-clause-runs : goal.returns-in-Ok-give-clause-runs
returns-in-Ok-give-clause-runs g c =
    let gave = c.in-Ok-give.ensures in
    let all = subst (λ p. Tells (g.D.Desk.told c.output.new.desk) (g.D.Desk.told c.give.new.desk) (λ a b. b ≡ given p c.in-Ok.bytes a)) c.out_file.ensures gave.ok in
    runs_done c.args.asked.now c.in-Ok.ensures (λ none. gave.no_place (c.out_file.ensures ∙ none)) gave.input_count all gave.output_count

pub returns-in-Err-Failed-clause-runs : goal.returns-in-Err-Failed-clause-runs
returns-in-Err-Failed-clause-runs g c =
    let gave = c.in-Err-Failed.ensures in
    let prefix = subst (λ p. Tells (g.D.Desk.told c.output.new.desk) (g.D.Desk.told c.give.new.desk) (GivesPrefix p c.in-Ok.bytes)) c.out_file.ensures gave.err in
    runs_failed c.args.asked.now c.in-Ok.ensures (λ none. gave.no_place (c.out_file.ensures ∙ none)) gave.input_count prefix
    (λ steady. gave.steady steady (ap Err c.in-Err-Failed.field-0-is)) (rw c.in-Err-Failed.field-0-is at gave.output_count)

pub returns-in-Ok-clause-runs : goal.returns-in-Ok-clause-runs
returns-in-Ok-clause-runs g c =
    let gave = c.in-Err-NoMemory.ensures in
    let prefix = subst (λ p. Tells (g.D.Desk.told c.output.new.desk) (g.D.Desk.told c.give.new.desk) (GivesPrefix p c.in-Ok.bytes)) c.out_file.ensures gave.err in
    runs_lost c.args.asked.now c.in-Ok.ensures (λ none. gave.no_place (c.out_file.ensures ∙ none)) gave.input_count prefix (rw c.in-Err-NoMemory.field-0-is at gave.output_count)

pub returns-clause-runs : goal.returns-clause-runs
returns-clause-runs g c =
    subst (λ status. Runs g.D.Desk c.args.asked.now status c.args.desk.now c.output.new.desk) (sym c.stopped.ensures.status) (runs_stopped c.args.asked.now c.in-Err.ensures)
