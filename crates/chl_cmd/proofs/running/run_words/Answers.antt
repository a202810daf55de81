use Rattle.std.proofs.Common.{map}
use Rattle.std.specs.Prelude.{string_bytes}
use Rattle.chl_answers.proofs.OneCommand.{no_command}
use Rattle.chl_answers.proofs.RunsOfWords.{runs_none, runs_read}
use Rattle.chl_cmd.proofs.running.run_words.Goals as goal

pub returns-in-Ok-clause-usage : goal.returns-in-Ok-clause-usage
returns-in-Ok-clause-usage g c = λ none. absurd (none c.in-Ok.asked c.in-Ok.ensures.ok)

pub returns-in-Ok-clause-runs : goal.returns-in-Ok-clause-runs
returns-in-Ok-clause-runs g c = λ asked is. runs_read (map string_bytes c.args.words.now) c.in-Ok.asked asked c.in-Ok.ensures.ok c.carry_out.ensures.runs is

pub returns-in-Err-Usage-clause-no_command : goal.returns-in-Err-Usage-clause-no_command
returns-in-Err-Usage-clause-no_command g c = λ _. no_command (map string_bytes c.args.words.now) (c.in-Err-Usage.ensures.usage c.in-Err-Usage.field-0-is)

pub returns-in-Err-Usage-clause-runs : goal.returns-in-Err-Usage-clause-runs
returns-in-Err-Usage-clause-runs g c = λ asked is. absurd (no_command (map string_bytes c.args.words.now) (c.in-Err-Usage.ensures.usage c.in-Err-Usage.field-0-is) asked is)

pub returns-in-Err-NoMemory-clause-runs : goal.returns-in-Err-NoMemory-clause-runs
returns-in-Err-NoMemory-clause-runs g c = λ asked is. runs_none asked
