use Rattle.std.proofs.Common.{◌≡◌, ℕ, ◌+◌, ◌%◌, ◌<◌, length, vec_len}
use Rattle.std.specs.Prelude.{slice_get}
use Rattle.plant_build.specs.Rounds.{deques_of}
use Rattle.plant_build.specs.Dealt.{owns_of, puts_of, others_of, lent_by, back_by, AreUnused}
use Rattle.plant_build.proofs.dealing.borrow_round.Given as goal

-- the next so many are lent
abbrev pub invariant-loop-step : goal.invariant-loop-step
invariant-loop-step l =
    let all = deques_of (owns_of l.fn.hands) in
    record {
      owns : owns_of l.hands ≡ owns_of l.fn.hands;
      puts : puts_of l.hands ≡ puts_of l.fn.hands;
      others : others_of l.hands ≡ others_of l.fn.hands;
      count : vec_len l.others + 1 ≡ l.step;
      lent : lent_by l.hands ≡ lent_by l.fn.hands + vec_len l.others;
      back : back_by l.hands ≡ back_by l.fn.hands;
      round : (k : ℕ) → k < length (deques_of l.others.items) → slice_get (deques_of l.others.items) k ≡ slice_get all ((l.place + 1 + k) % length all);
      unused : AreUnused l.others.items;
    }
