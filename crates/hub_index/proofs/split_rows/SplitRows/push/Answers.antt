use Rattle.std.proofs.Common.{rules, ◌≡◌, ◌-◌, [], sym, ap, ◌∙◌, arith}
use Rattle.std.proofs.lemmas.List.{nil_from_length}
use Rattle.std.proofs.lemmas.Result.{err_from_is_err_and}
use Rattle.walk_laws.specs.Labelling.{label_row}
use Rattle.hub_index.specs.HubIndex.{with_entry}
use Rattle.hub_index.specs.declared.compact_row.CompactEntry.{CompactEntry}
use Rattle.hub_index.proofs.PartedRows.{within_parts, compact_stays, compact_gains, full_gains}
use Rattle.hub_index.proofs.split_rows.SplitRows.push.Goals as goal

pub row-requires-clause-within : goal.row-requires-clause-within
row-requires-clause-within c = within_parts c.self.inside.compact.items c.self.inside.full c.args.self.now c.args.v c.self.view_is c.self.invariant.0 c.requires.within

pub index_mut-requires : goal.index_mut-requires
index_mut-requires c =
    let within = within_parts c.self.inside.compact.items c.self.inside.full c.args.self.now c.args.v c.self.view_is c.self.invariant.0 c.requires.within in
    omega (arith, within, c.requires.node, c.self.inside.compact.ok.0, c.self.invariant.0)

pub push-requires-2-clause-within : goal.push-requires-2-clause-within
push-requires-2-clause-within c = within_parts c.self.inside.compact.items c.self.inside.full c.args.self.now c.args.v c.self.view_is c.self.invariant.0 c.requires.within

pub returns-in_err-push-clause-err : goal.returns-in_err-push-clause-err
returns-in_err-push-clause-err c =
    let p = err_from_is_err_and c.from_residual.result c.from_residual.ensures.1 in
    rw p.1 (compact_stays c.self.inside.compact.items c.self.inside.full c.args.self.now (c.args.v - 1) c.index_mut.result.now c.push.new.self c.self.view_is c.index_mut.ensures.value c.in_err-push.ensures.items)

pub returns-in-Some-clause-ok : goal.returns-in-Some-clause-ok
returns-in-Some-clause-ok c =
    let put : CompactEntry = record { pos = c.args.entry.pos; dist = c.in-Some.dist } in
    let none : label_row c.self.inside.full c.args.v ≡ [] = sym c.row.ensures ∙ nil_from_length c.row.result.now (search rules) in
    let fits : c.in-Some.dist ≡ c.args.entry.dist = search rules in
    compact_gains c.self.inside.compact.items c.self.inside.full c.args.self.now c.args.v c.index_mut.result.now c.push.new.self put c.self.view_is c.self.invariant.0 c.requires.node c.requires.within c.index_mut.ensures.value c.in_ok-push.ensures.items none
    ∙ ap (λ d. with_entry c.args.self.now c.args.v (record { pos = c.args.entry.pos; dist = d })) fits

pub returns-clause-ok : goal.returns-clause-ok
returns-clause-ok c = full_gains c.self.inside.compact.items c.self.inside.full c.args.self.now c.push-2.new.self c.args.v c.args.entry c.self.view_is c.self.invariant.0 c.requires.node c.requires.within c.in_ok-push-2.ensures.ok
