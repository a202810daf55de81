use Rattle.std.proofs.Common.{ap, map}
use Rattle.std.specs.Prelude.{string_bytes}
use Rattle.chl_answers.proofs.Endings.{told_done, told_decided, told_stopped, told_failed, told_lost, told_opens, told_files}
use Rattle.chl_answers.proofs.RunsOfWords.{run_faults_alone, run_input_count, run_no_output, run_output_count, run_steady}
use Rattle.chl_cmd.proofs.running.run.Goals as goal

pub returns-clause-usage : goal.returns-clause-usage
returns-clause-usage g c = λ none. let ended = c.run_words.ensures.usage none in (ended.0, ap g.D.Desk.told ended.1)

pub returns-clause-done : goal.returns-clause-done
returns-clause-done g c = λ asked is done. told_done _ _ asked _ (c.run_words.ensures.runs asked is).told done

pub returns-clause-stopped : goal.returns-clause-stopped
returns-clause-stopped g c = λ asked stop is status memory. told_stopped _ _ asked _ (c.run_words.ensures.runs asked is).told stop status memory

pub returns-clause-decided : goal.returns-clause-decided
returns-clause-decided g c = λ asked answer is. told_decided _ _ asked _ (c.run_words.ensures.runs asked is).told answer

pub returns-clause-write_fault : goal.returns-clause-write_fault
returns-clause-write_fault g c = λ asked is failed. told_failed _ _ asked _ (c.run_words.ensures.runs asked is).told failed

pub returns-clause-no_memory : goal.returns-clause-no_memory
returns-clause-no_memory g c = λ asked is lost. told_lost _ _ asked _ (c.run_words.ensures.runs asked is).told lost

pub returns-clause-opens : goal.returns-clause-opens
returns-clause-opens g c = λ asked is. told_opens _ _ asked _ (c.run_words.ensures.runs asked is).told

pub returns-clause-files : goal.returns-clause-files
returns-clause-files g c = λ asked is. told_files _ _ asked _ (c.run_words.ensures.runs asked is).told

pub returns-clause-steady : goal.returns-clause-steady
returns-clause-steady g c = run_steady (map string_bytes c.args.words.now) c.run_words.result c.run_words.ensures.usage c.run_words.ensures.runs

pub returns-clause-no_output : goal.returns-clause-no_output
returns-clause-no_output g c = run_no_output (map string_bytes c.args.words.now) c.run_words.result c.run_words.ensures.usage c.run_words.ensures.runs

pub returns-clause-no_place : goal.returns-clause-no_place
returns-clause-no_place g c = λ asked is none. (c.run_words.ensures.runs asked is).no_place none

pub returns-clause-input_count : goal.returns-clause-input_count
returns-clause-input_count g c = run_input_count (map string_bytes c.args.words.now) c.run_words.result c.run_words.ensures.usage c.run_words.ensures.runs

pub returns-clause-output_count : goal.returns-clause-output_count
returns-clause-output_count g c = run_output_count (map string_bytes c.args.words.now) c.run_words.result c.run_words.ensures.usage c.run_words.ensures.runs

pub returns-clause-faults_alone : goal.returns-clause-faults_alone
returns-clause-faults_alone g c = run_faults_alone (map string_bytes c.args.words.now) c.run_words.result c.run_words.ensures.usage c.run_words.ensures.runs
