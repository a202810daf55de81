use Rattle.std.proofs.Common.{IfOk, map, take}
use Rattle.chl_words.specs.Literal as literal
use Rattle.chl_words.specs.Literal.{IsProgram, command_alone}
use Rattle.chl_words.proofs.literal.files.Given as goal

abbrev pub invariant-loop-option : goal.invariant-loop-option
invariant-loop-option l = IfOk l.command (IsProgram (command_alone (literal.files l.fn.name (map (λ f. f.now) (take l.option-index l.options)))))
