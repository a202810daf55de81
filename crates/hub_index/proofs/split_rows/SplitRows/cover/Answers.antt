use Rattle.std.proofs.Common.{Contains, sym, subst, arith}
use Rattle.std.proofs.lemmas.Option.{IfSome_then}
use Rattle.hub_index.proofs.CompactEntries.{none_then}
use Rattle.hub_index.proofs.PartedRows.{within_parts, row_read}
use Rattle.hub_index.proofs.split_rows.SplitRows.cover.Goals as goal

pub index-compact-requires : goal.index-compact-requires
index-compact-requires c =
    let within = within_parts c.self.inside.compact.items c.self.inside.full c.args.self.now c.args.v c.self.view_is c.self.invariant.0 c.requires.within in
    omega (arith, within, c.requires.node, c.self.inside.compact.ok.0, c.self.invariant.0)

pub row-requires-clause-within : goal.row-requires-clause-within
row-requires-clause-within c = within_parts c.self.inside.compact.items c.self.inside.full c.args.self.now c.args.v c.self.view_is c.self.invariant.0 c.requires.within

pub returns-clause-some : goal.returns-clause-some
returns-clause-some c =
    let row = row_read c.self.inside.compact.items c.self.inside.full c.args.self.now c.args.v c.index-compact.result.now c.deref.result.now c.row.result.now c.self.view_is c.self.invariant.0 c.requires.node c.requires.within c.index-compact.ensures c.deref.ensures.value c.row.ensures in
    IfSome_then c.cover_of_parts.result c.cover_of_parts.ensures.some (λ e some. (subst (λ row. Contains row e) row some.0, some.1))

pub returns-clause-none : goal.returns-clause-none
returns-clause-none c =
    let row = row_read c.self.inside.compact.items c.self.inside.full c.args.self.now c.args.v c.index-compact.result.now c.deref.result.now c.row.result.now c.self.view_is c.self.invariant.0 c.requires.node c.requires.within c.index-compact.ensures c.deref.ensures.value c.row.ensures in
    none_then c.cover_of_parts.result _ _ (λ none e there. none e (subst (λ row. Contains row e) (sym row) there)) c.cover_of_parts.ensures.none
