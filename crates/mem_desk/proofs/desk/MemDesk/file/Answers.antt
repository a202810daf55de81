use Rattle.std.proofs.Common.{Some, sym, ◌∙◌, ap}
use Rattle.std.specs.Option.{option_map}
use Rattle.std.specs.FinMap.{get}
use Rattle.mem_desk.proofs.FileTables.{get-files_of}
use Rattle.mem_desk.proofs.desk.MemDesk.file.Goals as goal

pub returns-in-Some : goal.returns-in-Some
returns-in-Some c =
    ap Some c.as_slice.ensures.value
    ∙ ap (option_map (λ v. v.items)) c.in-Some.ensures.value
    ∙ sym (get-files_of c.self.inside.files c.args.name.now)
    ∙ ap (λ m. get m.contents.files c.args.name.now) c.self.view_is

pub returns-in-None : goal.returns-in-None
returns-in-None c =
    ap (option_map (λ v. v.items)) c.in-None.ensures.value
    ∙ sym (get-files_of c.self.inside.files c.args.name.now)
    ∙ ap (λ m. get m.contents.files c.args.name.now) c.self.view_is
