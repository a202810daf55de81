-- What a setting of an option makes of its rule.
use Rattle.std.proofs.Common.{◌≡◌, ◌∙◌, ap, Bool}
use Rattle.clap.specs.Words.{Rule, rule_of}
use Rattle.clap.specs.declared.builder.arg.Arg.{Arg}
use Rattle.chl_words.specs.Literal.{IsOption}

pub is_required : (rule : Rule) (old new : Arg) (must : Bool) → IsOption rule old → new ≡ record old { required = must } → IsOption (record rule { required = must }) new
is_required rule old new must is now = (ap rule_of now ∙ ap (λ (r : Rule). record r { required = must }) is.0, ap (λ (a : Arg). a.global) now ∙ is.1)
