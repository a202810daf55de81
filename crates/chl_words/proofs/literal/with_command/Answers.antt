use Rattle.std.proofs.Common.{◌∙◌, ap, ap₂, subst}
use Rattle.std.specs.Prelude.{◌||◌, IfOk}
use Rattle.std.proofs.lemmas.Result.{IfOk-weaker}
use Rattle.clap.specs.Words.{App, Shape, AddsSubcommand, with_subcommand}
use Rattle.clap.specs.declared.builder.command.Command.{Command}
use Rattle.chl_words.specs.Literal.{IsProgram, command_alone}
use Rattle.chl_words.proofs.literal.with_command.Goals as goal

added : (app : App) (shape : Shape) (old sub new : Command) → IsProgram app old → IsProgram (command_alone shape) sub → AddsSubcommand old sub new → IsProgram (with_subcommand app shape) new
added app shape old sub new is own adds = (adds.shape own.1 ∙ ap₂ with_subcommand is.0 (ap (λ (a : App). a.top) own.0), adds.globals ∙ ap₂ (λ a b. a || b) is.1 own.1)

pub returns : goal.returns
returns c = λ app shape is own.
    let old : IsProgram app c.in_ok-program.field-0 = subst (λ r. IfOk r (IsProgram app)) c.in_ok-program.was is in
    let sub : IsProgram (command_alone shape) c.in_ok-command.field-0 = subst (λ r. IfOk r (IsProgram (command_alone shape))) c.in_ok-command.was own in
    IfOk-weaker c.subcommand.result _ _ (λ new adds. added app shape c.in_ok-program.field-0 c.in_ok-command.field-0 new old sub adds) c.subcommand.ensures
