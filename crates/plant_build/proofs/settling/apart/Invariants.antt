use Rattle.std.proofs.Common.{◌≡◌, ◌++◌, map}
use Rattle.plant_build.specs.Dealt.{others_of}
use Rattle.plant_build.proofs.settling.apart.Given as goal

-- the hands so far are taken apart
abbrev pub invariant-loop-hand : goal.invariant-loop-hand
invariant-loop-hand l = record {
  owns : l.owns.items ++ map (λ h. h.own) l.hand-iterator.rest.items ≡ map (λ h. h.own) l.fn.hands.items;
  others : map (λ os. os.items) l.rounds.items ++ others_of l.hand-iterator.rest.items ≡ others_of l.fn.hands.items;
}
