use Rattle.std.proofs.Common.{◌≡◌, drop}
use Rattle.gll_merge.specs.Merging.{are_filled}
use Rattle.gll_merge.proofs.merging.Merging.is_whole.Given as goal

-- the places so far are filled
abbrev pub invariant-loop-place : goal.invariant-loop-place
invariant-loop-place g l = are_filled (drop l.place-index l.place-items) ≡ are_filled l.self.places
