use Rattle.std.proofs.Common.{◌≡◌, ℕ, ◌+◌, ◌≤◌, length, map, vec_len}
use Rattle.std.specs.Prelude.{sum_by}
use Rattle.plant_build.specs.Rounds.{got_from}
use Rattle.plant_build.specs.Settled.{kept_of, owned_deques, got_of, EachAfter}
use Rattle.plant_build.proofs.settling.all_back.Given as goal

-- what is lent to the last hands has come back
abbrev pub invariant-loop-others : goal.invariant-loop-others
invariant-loop-others l = record {
  kept : map kept_of l.owns ≡ map kept_of l.fn.owns;
  count : vec_len l.rounds ≤ length l.owns;
  after : EachAfter (owned_deques l.fn.owns) (map (λ os. os.items) l.rounds.items);
  back : sum_by (λ own. own.back) l.owns + sum_by vec_len l.rounds.items ≡ sum_by (λ own. own.back) l.fn.owns + sum_by vec_len l.fn.rounds.items;
  got : (x : ℕ) → got_of x l.owns + sum_by (λ os. got_from x os.items) l.rounds.items ≡ got_of x l.fn.owns + sum_by (λ os. got_from x os.items) l.fn.rounds.items;
}

abbrev pub decreases-loop-others : goal.decreases-loop-others
decreases-loop-others l = vec_len l.rounds
