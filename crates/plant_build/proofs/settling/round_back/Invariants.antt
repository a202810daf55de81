use Rattle.std.proofs.Common.{◌≡◌, ℕ, ◌+◌, map, vec_len}
use Rattle.std.specs.Prelude.{sum_by}
use Rattle.plant_build.specs.Rounds.{deques_of, got_from}
use Rattle.plant_build.specs.Settled.{kept_of, owned_deques, got_of, AreAfter}
use Rattle.plant_build.proofs.settling.round_back.Given as goal

-- the last of them have come back
abbrev pub invariant-loop-other : goal.invariant-loop-other
invariant-loop-other l = record {
  kept : map kept_of l.owns ≡ map kept_of l.fn.owns;
  after : AreAfter (owned_deques l.fn.owns) l.place (deques_of l.others.items);
  back : sum_by (λ own. own.back) l.owns + vec_len l.others ≡ sum_by (λ own. own.back) l.fn.owns + vec_len l.fn.others;
  got : (x : ℕ) → got_of x l.owns + got_from x l.others.items ≡ got_of x l.fn.owns + got_from x l.fn.others.items;
}

abbrev pub decreases-loop-other : goal.decreases-loop-other
decreases-loop-other l = vec_len l.others
