use Rattle.std.proofs.Common.{◌∙◌, ap}
use Rattle.mem_desk.specs.Memory.{with_file}
use Rattle.mem_desk.specs.contracts.desk.MemDesk.{the_view}
use Rattle.mem_desk.proofs.FileTables.{insert-files_of}
use Rattle.mem_desk.proofs.desk.MemDesk.put_file.Goals as goal

pub returns-clause-ok : goal.returns-clause-ok
returns-clause-ok c =
    let files = insert-files_of c.self.inside.files c.insert.new.self c.in_ok-name.name c.args.name.now c.in_ok-bytes.bytes c.args.bytes.now c.in_ok-name.ensures.ok c.in_ok-bytes.ensures.items c.in_ok-_replaced.ensures.updates in
    let was = the_view c.self.inside in
    ap (λ fs. record was { contents = record was.contents { files = fs } }) files ∙ ap (λ m. with_file m c.args.name.now c.args.bytes.now) c.self.view_is
