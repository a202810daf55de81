use Rattle.std.proofs.Common.{◌≡◌, ◌<◌, All, length, get_or, sym, ap, subst, ◌∙◌}
use Rattle.walk_laws.specs.Labelling.{label_row}
use Rattle.hub_index.specs.RootDistances.{noted}
use Rattle.hub_index.proofs.RowsInShards.{number_sharded, place_sharded, row_sharded}
use Rattle.hub_index.proofs.sharded_rows.ShardedRows.note.Goals as goal
use Rattle.hub_index.proofs.sharded_rows.ShardedRows.note.Goals.{After-index-self-number}

pub bounds-self-inside-number : goal.bounds-self-inside-number
bounds-self-inside-number c = number_sharded c.self.inside.dealt.shift c.self.inside.n c.self.inside.shards.now c.args.self.now c.args.v c.number-number.result c.self.invariant c.self.view_is c.requires.node c.requires.within c.number-number.ensures

-- the row that is read is that of the node
row : (c : After-index-self-number) → label_row (get_or c.self.inside.shards.now c.number-number.result c.index-self-number.result) c.place-place.result ≡ label_row c.args.self.now c.args.v
row c = row_sharded c.self.inside.dealt.shift c.self.inside.n c.self.inside.shards.now c.args.self.now c.args.v c.number-number.result c.place-place.result c.index-self-number.result c.self.invariant c.self.view_is c.requires.node c.requires.within c.number-number.ensures c.place-place.ensures

pub note-requires-clause-within : goal.note-requires-clause-within
note-requires-clause-within c = place_sharded c.self.inside.dealt.shift c.self.inside.n c.self.inside.shards.now c.args.self.now c.args.v c.number-number.result c.place-place.result c.index-self-number.result c.self.invariant c.self.view_is c.requires.node c.requires.within c.number-number.ensures c.place-place.ensures

pub note-requires-clause-positions : goal.note-requires-clause-positions
note-requires-clause-positions c = subst (All (λ e. e.pos < length c.args.table.now)) (sym (row (goal.at.note-requires-clause-positions c).After-index-self-number)) c.requires.positions

pub returns : goal.returns
returns c = c.note.ensures ∙ ap (noted c.args.table.now) (row (goal.at.returns c).After-index-self-number)
