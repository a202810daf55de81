use Rattle.std.proofs.Common.{◌≡◌, true}
use Rattle.crossbeam_deque.specs.Handles.{view, stealer_deque, IsPassOf}
use Rattle.plant_build.proofs.other.Other.steal.Given as goal

-- nothing was taken, and no answer counted yet
abbrev pub invariant-loop : goal.invariant-loop
invariant-loop g l = record {
  thief : stealer_deque l.self-inside.thief ≡ stealer_deque l.initial.self-inside.thief;
  pass : IsPassOf (stealer_deque l.self-inside.thief) l.self-inside.pass;
  out : (view l.self-inside.pass).out ≡ true;
  view : view l.self-inside.pass ≡ view l.initial.self-inside.pass;
  empties : l.self-inside.empties ≡ l.initial.self-inside.empties;
}
