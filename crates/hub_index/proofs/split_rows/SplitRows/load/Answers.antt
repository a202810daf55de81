use Rattle.std.proofs.Common.{◌<◌, All, length, sym, ap, subst, ◌∙◌}
use Rattle.std.proofs.lemmas.List.{length-replicate}
use Rattle.walk_laws.specs.Labelling.{label_row}
use Rattle.hub_index.proofs.NotedRows.{HoldsRow-noted, length-noted}
use Rattle.hub_index.proofs.split_rows.SplitRows.load.Goals as goal

pub note-requires-clause-positions : goal.note-requires-clause-positions
note-requires-clause-positions c = subst (λ n. All (λ e. e.pos < n) (label_row c.args.self.now c.args.v)) (sym (ap length c.clear.ensures ∙ length-replicate (length c.args.table.now) _)) c.requires.positions

pub returns-clause-held : goal.returns-clause-held
returns-clause-held c = HoldsRow-noted (length c.args.table.now) c.clear.new.self c.note.new.table (label_row c.args.self.now c.args.v) c.clear.ensures c.requires.positions c.note.ensures

pub returns-clause-size : goal.returns-clause-size
returns-clause-size c = ap length c.note.ensures ∙ length-noted c.clear.new.self (label_row c.args.self.now c.args.v) ∙ ap length c.clear.ensures ∙ length-replicate (length c.args.table.now) _
