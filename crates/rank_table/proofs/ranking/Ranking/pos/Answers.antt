use Rattle.std.proofs.Common.{◌≡◌, ℕ, ◌+◌, ◌<◌, ◌≤◌, List, length, get_or, arith, ◌∙◌}
use Rattle.std.specs.Prelude.{slice_index}
use Rattle.std.proofs.lemmas.List.{get_or_default}
use Rattle.walk_laws.specs.Ranking.{position_of}
use Rattle.walk_laws.proofs.Positions.{position-lt, slice_get-position}
use Rattle.rank_table.proofs.ranking.Ranking.pos.Goals as goal

-- what stands at a node's number is its position
found : (at places : List ℕ) (v r : ℕ) → length places ≡ length at + 1 → slice_index places v ≡ position_of at v → v ≤ length at → r ≡ get_or places v r → r ≡ position_of at v
found at places v r size place within is =
    let below : v < length places = omega (arith, size) in
    is ∙ get_or_default places v r 0 below ∙ place

pub returns-clause-position : goal.returns-clause-position
returns-clause-position c =
    let within : c.args.v ≤ length c.self.inside.at.items = rw c.self.view_is c.requires.within in
    let is = found c.self.inside.at.items c.self.inside.places.items c.args.v c.index.result.now c.self.invariant.2 (c.self.invariant.3 c.args.v c.requires.node within) within c.index.ensures in
    rw (is, c.self.view_is) (position-lt c.args.self.now c.args.v (rw c.self.view_is at c.self.invariant.0) c.requires.node c.requires.within)

pub returns-clause-inverse : goal.returns-clause-inverse
returns-clause-inverse c =
    let within : c.args.v ≤ length c.self.inside.at.items = rw c.self.view_is c.requires.within in
    let is = found c.self.inside.at.items c.self.inside.places.items c.args.v c.index.result.now c.self.invariant.2 (c.self.invariant.3 c.args.v c.requires.node within) within c.index.ensures in
    rw (is, c.self.view_is) (slice_get-position c.args.self.now c.args.v (rw c.self.view_is at c.self.invariant.0) c.requires.node c.requires.within)
