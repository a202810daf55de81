use Rattle.std.proofs.Common.{◌≡◌, [], All, vec_len}
use Rattle.plant_build.specs.Dealt.{owns_of, puts_of, others_of, lent_by, back_by, AreUnused}
use Rattle.plant_build.proofs.dealing.new_hands.Given as goal

-- the hands so far are new
abbrev pub invariant-loop : goal.invariant-loop
invariant-loop l = record {
  hands : vec_len l.hands ≡ l.counter;
  owns : AreUnused (owns_of l.hands.items);
  puts : All (λ put. put ≡ []) (puts_of l.hands.items);
  others : All (λ others. others ≡ []) (others_of l.hands.items);
  lent : (lent_by l.hands.items ≡ 0) × (back_by l.hands.items ≡ 0);
}
