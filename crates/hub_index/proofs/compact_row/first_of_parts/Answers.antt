use Rattle.std.proofs.Common.{}
use Rattle.std.proofs.lemmas.List.Elements.{All-append}
use Rattle.std.proofs.lemmas.Option.{IfSome_then}
use Rattle.hub_index.specs.Reach.{IsBelow}
use Rattle.hub_index.proofs.CompactEntries.{all_widened, none_then}
use Rattle.hub_index.proofs.FarEntries.{IsFirstFrom-prefix, IsFirstFrom-suffix}
use Rattle.hub_index.proofs.compact_row.first_of_parts.Goals as goal

pub returns-in-Some-clause-some : goal.returns-in-Some-clause-some
returns-in-Some-clause-some c = IsFirstFrom-prefix c.args.limit (all_widened c.args.compact.now) c.args.full.now c.in-Some.entry c.in-Some.ensures.some

pub returns-clause-some : goal.returns-clause-some
returns-clause-some c = IfSome_then c.first_from.result c.first_from.ensures.some (λ e first. IsFirstFrom-suffix c.args.limit (all_widened c.args.compact.now) c.args.full.now e c.in_default.ensures.none first)

pub returns-clause-none : goal.returns-clause-none
returns-clause-none c = none_then c.first_from.result _ _ (λ below. All-append (IsBelow c.args.limit) (all_widened c.args.compact.now) c.args.full.now c.in_default.ensures.none below) c.first_from.ensures.none
