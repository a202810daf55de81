use Rattle.std.proofs.Common.{◌≡◌, ℕ, ◌≤◌, ◌<◌, List, []}
use Rattle.std.specs.Prelude.{slice_get, Some}
use Rattle.plant_build.specs.Hands.{Reached}
use Rattle.plant_build.specs.Rounds.{deques_of}
use Rattle.plant_build.specs.Dealt.{owns_of, puts_of, others_of, lent_by, back_by, borrowed_by, AreUnused, IsRest}
use Rattle.plant_build.proofs.dealing.lend_all.Given as goal

-- the hands so far have what the others lend
abbrev pub invariant-loop-place : goal.invariant-loop-place
invariant-loop-place l =
    let all = deques_of (owns_of l.fn.hands) in
    record {
      owns : owns_of l.hands ≡ owns_of l.fn.hands;
      puts : puts_of l.hands ≡ puts_of l.fn.hands;
      lent : lent_by l.fn.hands ≡ 0 → lent_by l.hands ≡ borrowed_by l.hands;
      back : back_by l.hands ≡ back_by l.fn.hands;
      done : (i : ℕ) (os : List Reached) → slice_get (others_of l.hands) i ≡ Some os → i < l.place → IsRest all i (deques_of os) × AreUnused os;
      rest : (i : ℕ) (os : List Reached) → slice_get (others_of l.hands) i ≡ Some os → l.place ≤ i → os ≡ [];
    }
