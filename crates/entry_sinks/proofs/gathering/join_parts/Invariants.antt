use Rattle.std.proofs.Common.{◌+◌, ◌^◌, ◌<◌, ◌++◌, List, length, map}
use Rattle.walk_laws.specs.declared.entry.Entry.{Entry}
use Rattle.entry_sinks.specs.Sunk.{rows_in, AreJoined}
use Rattle.entry_sinks.proofs.gathering.join_parts.Given as goal

-- with the rows of the parts to come they are those of all parts
abbrev pub invariant-loop-part : goal.invariant-loop-part
invariant-loop-part l = record {
  few : length l.rows + rows_in (map (λ part. part.rows) l.part-iterator.rest.items) < 2 ^ 32;
  joined : (rest : List (List Entry)) → AreJoined (map (λ part. part.rows) l.part-iterator.rest.items) rest → AreJoined (map (λ part. part.rows) l.fn.parts.items) (l.rows ++ rest);
}
