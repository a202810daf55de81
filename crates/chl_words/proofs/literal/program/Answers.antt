use Rattle.std.proofs.Common.{◌≡◌, ◌∙◌, ap, codes, true}
use Rattle.clap.specs.Words.{App, Shape, new_app}
use Rattle.clap.specs.Simple.{app_of_fields, on_top}
use Rattle.clap.specs.declared.builder.command.Command.{Command}
use Rattle.clap.specs.declared.builder.command.Command.TheViews.{out-Command as fields_of}
use Rattle.chl_words.specs.Literal as literal
use Rattle.chl_words.specs.Literal.{IsProgram}
use Rattle.chl_words.proofs.literal.program.Goals as goal

without_flag : (app : App) (old new : Command) → IsProgram app old → fields_of new ≡ record (fields_of old) { disable_help_flag = true } → IsProgram (on_top (λ (s : Shape). record s { disable_help_flag = true }) app) new
without_flag app old new is now = (ap app_of_fields now ∙ ap (on_top (λ (s : Shape). record s { disable_help_flag = true })) is.0, ap (λ f. f.has_globals) now ∙ is.1)

without_subcommand : (app : App) (old new : Command) → IsProgram app old → fields_of new ≡ record (fields_of old) { disable_help_subcommand = true } → IsProgram (on_top (λ (s : Shape). record s { disable_help_subcommand = true }) app) new
without_subcommand app old new is now = (ap app_of_fields now ∙ ap (on_top (λ (s : Shape). record s { disable_help_subcommand = true })) is.0, ap (λ f. f.has_globals) now ∙ is.1)

wants_command : (app : App) (old new : Command) → IsProgram app old → fields_of new ≡ record (fields_of old) { subcommand_required = true } → IsProgram (on_top (λ (s : Shape). record s { subcommand_required = true }) app) new
wants_command app old new is now = (ap app_of_fields now ∙ ap (on_top (λ (s : Shape). record s { subcommand_required = true })) is.0, ap (λ f. f.has_globals) now ∙ is.1)

pub returns : goal.returns
returns c =
    let bare : IsProgram (new_app (codes "chl")) c.new.result = (c.new.ensures.app, c.new.ensures.local) in
    let first = without_flag _ _ _ bare c.disable_help_flag.ensures in
    let second = without_subcommand _ _ _ first c.disable_help_subcommand.ensures in
    let third = wants_command _ _ _ second c.subcommand_required-bare.ensures in
    let one = c.with_command-program.ensures _ literal.list third c.files.ensures in
    let two = c.with_command-program-2.ensures _ literal.build one c.build.ensures in
    let three = c.with_command-program-3.ensures _ literal.solve two c.built.ensures in
    let four = c.with_command-program-4.ensures _ literal.query three c.files-2.ensures in
    let five = c.with_command-program-5.ensures _ literal.path four c.files-3.ensures in
    let six = c.with_command-program-6.ensures _ literal.trace five c.files-4.ensures in
    let seven = c.with_command-program-7.ensures _ literal.near six c.near.ensures in
    let eight = c.with_command-program-8.ensures _ literal.audit seven c.files-5.ensures in
    let nine = c.with_command-program-9.ensures _ literal.upgrade eight c.files-6.ensures in
    let ten = c.with_command-program-10.ensures _ literal.opening nine c.opening.ensures in
    let eleven = c.with_command-program-11.ensures _ literal.degree ten c.files-7.ensures in
    let twelve = c.with_command-program-12.ensures _ literal.rank eleven c.files-8.ensures in
    c.with_command.ensures _ literal.grid twelve c.grid.ensures
