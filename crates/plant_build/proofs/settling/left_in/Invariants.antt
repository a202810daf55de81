use Rattle.std.proofs.Common.{◌≡◌, ℕ, List, length, map, take}
use Rattle.plant_build.specs.Settled.{AreSettled}
use Rattle.plant_build.proofs.settling.left_in.Given as goal

-- the deques so far are asked
abbrev pub invariant-loop-own : goal.invariant-loop-own
invariant-loop-own l = record {
  same : l.own-items ≡ l.initial.own-items;
  left : (rests : List (List ℕ)) × (map length rests ≡ l.left.items) × AreSettled (take l.own-index l.initial.own-items) rests;
}
