use Rattle.std.proofs.Common.{All, take}
use Rattle.hub_query.proofs.Onward.{LeadsNowhere}
use Rattle.hub_query.proofs.walking.arc_onward.Given as goal

-- none of the arcs so far leads onward
abbrev pub invariant-loop-arc : goal.invariant-loop-arc
invariant-loop-arc l = All (LeadsNowhere l.index l.v l.left) (take l.arc-index l.arc-items)
