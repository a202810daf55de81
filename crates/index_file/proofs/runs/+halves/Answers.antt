use Rattle.std.proofs.Common.{◌≡◌}
use Rattle.std.specs.Prelude.{flat_map}
use Rattle.std.proofs.lemmas.Result.{IfOk-at_ok}
use Rattle.index_file.specs.Layout.{run_bytes}
use Rattle.index_file.proofs.RowRuns.{bytes_of, run-pieces}
use Rattle.index_file.proofs.runs.+halves.Goals as goal

pub returns : goal.returns
returns g t c =
    let rows = (g.I.Encodable.index c.args.index.now).rows in
    let all = g.I.Encodable.vias c.args.index.now in
    let mid = c.cut-mid.result in
    let first : flat_map bytes_of c.in_ok-runs.runs.items ≡ run_bytes rows all c.args.from mid = IfOk-at_ok (λ runs. flat_map bytes_of runs.items ≡ run_bytes rows all c.args.from mid) {r = c.join-first.result.0} c.in_ok-runs.was c.join-first.ensures.first in
    let second : flat_map bytes_of c.in_ok-rest.rest.items ≡ run_bytes rows all mid c.args.to = IfOk-at_ok (λ runs. flat_map bytes_of runs.items ≡ run_bytes rows all mid c.args.to) {r = c.join-first.result.1} c.in_ok-rest.was c.join-first.ensures.second in
    run-pieces rows all c.in_ok-runs.runs.items c.in_ok-rest.rest.items _ c.args.from mid c.args.to c.in_ok-append.ensures.items c.cut-mid.ensures.from c.cut-mid.ensures.to first second
