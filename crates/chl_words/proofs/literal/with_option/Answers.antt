use Rattle.std.proofs.Common.{◌∙◌, ap₂, subst}
use Rattle.std.specs.Prelude.{◌||◌, IfOk}
use Rattle.std.proofs.lemmas.Result.{IfOk-weaker}
use Rattle.clap.specs.Words.{App, Rule, AddsArg, with_rule}
use Rattle.clap.specs.declared.builder.arg.Arg.{Arg}
use Rattle.clap.specs.declared.builder.command.Command.{Command}
use Rattle.chl_words.specs.Literal.{IsOption, IsProgram}
use Rattle.chl_words.proofs.literal.with_option.Goals as goal

added : (app : App) (rule : Rule) (old new : Command) (option : Arg) → IsProgram app old → IsOption rule option → AddsArg old option new → IsProgram (with_rule app rule) new
added app rule old new option is own adds = (adds.shape own.1 ∙ ap₂ with_rule is.0 own.0, adds.globals ∙ ap₂ (λ a b. a || b) is.1 own.1)

pub returns : goal.returns
returns c = λ app rule is own.
    let old : IsProgram app c.in_ok-command.field-0 = subst (λ r. IfOk r (IsProgram app)) c.in_ok-command.was is in
    IfOk-weaker c.arg.result _ _ (λ new adds. added app rule c.in_ok-command.field-0 new c.args.option old own adds) c.arg.ensures
