use Rattle.std.proofs.lemmas.Result.{on_ok_weaker, on_err_weaker}
use Rattle.chl_outputs.proofs.GivenFiles.{whole_file, part_of_file}
use Rattle.chl_outputs.proofs.giving.write_file.Goals as goal

pub returns-clause-ok : goal.returns-clause-ok
returns-clause-ok g c =
    on_ok_weaker c.write_pieces.result (whole_file _ _ _ c.text.ensures _ _ _ c.in_ok-create.ensures.empty) c.write_pieces.ensures.ok

pub returns-clause-err : goal.returns-clause-err
returns-clause-err g c =
    on_err_weaker c.write_pieces.result (part_of_file _ _ _ c.text.ensures _ _ _ c.in_ok-create.ensures.empty) c.write_pieces.ensures.err
