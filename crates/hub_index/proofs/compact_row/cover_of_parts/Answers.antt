use Rattle.std.proofs.Common.{}
use Rattle.std.proofs.lemmas.List.Elements.{Contains-append_left}
use Rattle.std.proofs.lemmas.Option.{IfSome_then}
use Rattle.walk_laws.specs.declared.entry.Entry.{Entry}
use Rattle.hub_index.specs.RootDistances.{IsCover}
use Rattle.hub_index.proofs.CompactEntries.{all_widened, Contains-in_row, each_of_both, none_then}
use Rattle.hub_index.proofs.compact_row.cover_of_parts.Goals as goal

pub returns-in-Some-clause-some : goal.returns-in-Some-clause-some
returns-in-Some-clause-some c = (Contains-append_left (all_widened c.args.compact.now) c.args.full.now c.in-Some.cover c.in-Some.ensures.some.0, c.in-Some.ensures.some.1)

pub returns-clause-some : goal.returns-clause-some
returns-clause-some c =
    IfSome_then c.covered.result c.covered.ensures.first (λ e first. (
      Contains-in_row (all_widened c.args.compact.now) c.args.full.now first.0 e first.1,
      first.2,
    ))

pub returns-clause-none : goal.returns-clause-none
returns-clause-none c =
    let P : Entry → Type 0 = λ e. IsCover c.args.table.now c.args.pos c.args.dist e → ⊥ in
    none_then c.covered.result _ _ (λ none e there. each_of_both P c.args.compact.now c.args.full.now c.in_default.ensures.none none e there) c.covered.ensures.none
