use Rattle.std.proofs.Common.{List, get_or, length, sym, ap, subst, take, arith}
use Rattle.std.proofs.lemmas.List.{length-replicate, take_more}
use Rattle.frontier.specs.declared.reach.Reach.{Reach}
use Rattle.frontier.specs.declared.reach.Reach.TheVariants.{Unreached}
use Rattle.pruned_tree.specs.declared.bare.Bare.{Bare}
use Rattle.resumed_tree.specs.declared.resuming.Start.{Start}
use Rattle.resumed_tree.specs.Offered.{HasStarts}
use Rattle.resumed_tree.proofs.OfferedStarts.{HasStarts-more}
use Rattle.resumed_tree.proofs.resuming.offer_starts.Goals as goal

-- where a loop reads past the end
abbrev nothing : Start
nothing = record { hub = 0; node = 0; dist = 0 }

pub loop-start-preserved : goal.loop-start-preserved
loop-start-preserved c =
    let starts = c.args.starts.now in
    let k = c.loop-start.start-index in
    subst (λ (some : List Start). HasStarts (length c.clear.new.self) some c.offer.new.self) (sym (take_more starts k nothing c.loop-start-test.true))
    (HasStarts-more (length c.clear.new.self) (take k starts) c.loop-start.frontier c.loop-start.invariant (get_or starts k nothing)
    (omega (arith, c.requires k nothing c.loop-start-test.true, c.loop-start.invariant.size, ap length c.clear.ensures, length-replicate {A = Reach Bare} (length c.args.frontier.now) Unreached)) c.offer.new.self c.in_ok-offer.ensures.ok)
