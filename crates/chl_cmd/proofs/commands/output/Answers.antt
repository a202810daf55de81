use Rattle.std.specs.Prelude.{Ok}
use Rattle.std.proofs.Common.{ap, refl}
use Rattle.chl_inputs.proofs.StagesInTurn.{goes_comes, goes_works}
use Rattle.chl_outputs.proofs.TextAnswers.{goes_told}
use Rattle.chl_cmd.proofs.commands.output.Goals as goal

pub returns-in-List : goal.returns-in-List
returns-in-List g c = rw c.in-List.is c.list_output.ensures

pub returns-in-Build : goal.returns-in-Build
returns-in-Build g c = rw c.in-Build.is c.build_output.ensures

pub returns-in-Solve : goal.returns-in-Solve
returns-in-Solve g c = rw c.in-Solve.is c.solve_output.ensures

pub returns-in-Query : goal.returns-in-Query
returns-in-Query g c = rw c.in-Query.is c.query_output.ensures

pub returns-in-Path : goal.returns-in-Path
returns-in-Path g c = rw c.in-Path.is c.path_output.ensures

pub returns-in-Trace : goal.returns-in-Trace
returns-in-Trace g c = rw c.in-Trace.is c.trace_output.ensures

pub returns-in-Near : goal.returns-in-Near
returns-in-Near g c = rw c.in-Near.is c.near_output.ensures

pub returns-in-Audit : goal.returns-in-Audit
returns-in-Audit g c = rw c.in-Audit.is c.audit_output.ensures

pub returns-in-Upgrade : goal.returns-in-Upgrade
returns-in-Upgrade g c = rw c.in-Upgrade.is c.upgrade_output.ensures

pub returns-in-Open : goal.returns-in-Open
returns-in-Open g c = rw c.in-Open.is c.open_output.ensures

pub returns-in-Degree : goal.returns-in-Degree
returns-in-Degree g c = rw c.in-Degree.is c.degree_output.ensures

pub returns-in-Rank : goal.returns-in-Rank
returns-in-Rank g c = rw c.in-Rank.is c.rank_output.ensures

pub returns-in-Grid : goal.returns-in-Grid
returns-in-Grid g c =
    rw c.in-Grid.is (goes_told _ _ c.grid_text.result _ c.grid_text.ensures c.text_output.ensures
    (λ t text. goes_works text.0 text.1 (goes_works text.2.0 text.2.1 (goes_comes (ap Ok text.2.2) tt refl))))
