use Rattle.std.proofs.Common.{◌≡◌, ℕ, ◌+◌, map, nat_lt}
use Rattle.std.specs.Prelude.{if◌then◌else◌}
use Rattle.plant_build.specs.Balance.{times}
use Rattle.plant_build.specs.Rounds.{share_of, put_by}
use Rattle.plant_build.specs.Dealt.{owns_of, puts_of, others_of, lent_by, back_by, AreAtHome}
use Rattle.plant_build.proofs.dealing.deal.Given as goal

-- the batches so far are dealt
abbrev pub invariant-loop-batch : goal.invariant-loop-batch
invariant-loop-batch l = record {
  owns : owns_of l.hands.items ≡ owns_of l.initial.hands.items;
  others : others_of l.hands.items ≡ others_of l.initial.hands.items;
  lent : (lent_by l.hands.items ≡ lent_by l.initial.hands.items) × (back_by l.hands.items ≡ back_by l.initial.hands.items);
  each : (x : ℕ) → put_by x (map share_of l.hands.items) + times x l.left.items ≡ (if nat_lt x l.batch then 1 else 0);
  home : AreAtHome (puts_of l.hands.items);
}
