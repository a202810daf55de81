use Rattle.std.proofs.Common.{◌<◌, All, length, sym, ap, subst, ◌∙◌}
use Rattle.std.proofs.lemmas.List.{length-replicate}
use Rattle.hub_index.proofs.NotedRows.{HoldsRow-noted, length-noted}
use Rattle.hub_index.proofs.root_table.RootTable.load.Goals as goal

pub note_row-requires : goal.note_row-requires
note_row-requires c = subst (λ n. All (λ e. e.pos < n) c.args.row.now) (sym (ap length c.clear.ensures ∙ length-replicate (length c.args.self.now) _)) c.requires

pub returns-clause-held : goal.returns-clause-held
returns-clause-held c = HoldsRow-noted (length c.args.self.now) c.clear.new.self c.note_row.new.self c.args.row.now c.clear.ensures c.requires c.note_row.ensures

pub returns-clause-size : goal.returns-clause-size
returns-clause-size c = ap length c.note_row.ensures ∙ length-noted c.clear.new.self c.args.row.now ∙ ap length c.clear.ensures ∙ length-replicate (length c.args.self.now) _
