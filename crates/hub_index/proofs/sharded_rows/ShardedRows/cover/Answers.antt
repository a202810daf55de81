use Rattle.std.proofs.Common.{◌≡◌, Contains, IfSome, IfNone, get_or, subst}
use Rattle.walk_laws.specs.declared.entry.Entry.{Entry}
use Rattle.walk_laws.specs.Labelling.{label_row}
use Rattle.hub_index.specs.RootDistances.{IsCover}
use Rattle.hub_index.proofs.RowsInShards.{number_sharded, place_sharded, row_sharded}
use Rattle.hub_index.proofs.sharded_rows.ShardedRows.cover.Goals as goal
use Rattle.hub_index.proofs.sharded_rows.ShardedRows.cover.Goals.{After-index-self-number}

pub bounds-self-inside-number : goal.bounds-self-inside-number
bounds-self-inside-number c = number_sharded c.self.inside.dealt.shift c.self.inside.n c.self.inside.shards.now c.args.self.now c.args.v c.number-number.result c.self.invariant c.self.view_is c.requires.node c.requires.within c.number-number.ensures

-- the row that is read is that of the node
row : (c : After-index-self-number) → label_row (get_or c.self.inside.shards.now c.number-number.result c.index-self-number.result) c.place-place.result ≡ label_row c.args.self.now c.args.v
row c = row_sharded c.self.inside.dealt.shift c.self.inside.n c.self.inside.shards.now c.args.self.now c.args.v c.number-number.result c.place-place.result c.index-self-number.result c.self.invariant c.self.view_is c.requires.node c.requires.within c.number-number.ensures c.place-place.ensures

pub cover-requires-clause-within : goal.cover-requires-clause-within
cover-requires-clause-within c = place_sharded c.self.inside.dealt.shift c.self.inside.n c.self.inside.shards.now c.args.self.now c.args.v c.number-number.result c.place-place.result c.index-self-number.result c.self.invariant c.self.view_is c.requires.node c.requires.within c.number-number.ensures c.place-place.ensures

pub returns-clause-some : goal.returns-clause-some
returns-clause-some c = subst (λ row. IfSome c.cover.result (λ e. Contains row e × IsCover c.args.table.now c.args.pos c.args.dist e)) (row (goal.at.returns-clause-some c).After-index-self-number) c.cover.ensures.some

pub returns-clause-none : goal.returns-clause-none
returns-clause-none c = subst (λ row. IfNone c.cover.result ((e : Entry) → Contains row e → ¬ IsCover c.args.table.now c.args.pos c.args.dist e)) (row (goal.at.returns-clause-none c).After-index-self-number) c.cover.ensures.none
