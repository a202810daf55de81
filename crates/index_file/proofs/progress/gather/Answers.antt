use Rattle.std.proofs.Common.{◌∙◌, ◌∷◌, ◌<◌, [], All, length, sym, ap, subst, arith}
use Rattle.std.proofs.lemmas.List.{length-append}
use Rattle.std.proofs.lemmas.List.Elements.{All-push}
use Rattle.index_file.specs.Gives.{Gives}
use Rattle.index_file.specs.Judging.{fed}
use Rattle.index_file.proofs.Steps.{IsSound-emptied, fed-later}
use Rattle.index_file.proofs.progress.gather.Goals as goal

pub gathered-requires-clause-sound : goal.gathered-requires-clause-sound
gathered-requires-clause-sound c = IsSound-emptied c.args.next c.args.at c.args.held.items c.requires

pub gathered-requires-clause-fits : goal.gathered-requires-clause-fits
gathered-requires-clause-fits c = subst (All (λ b. b < 256)) (sym c.in-Ok.ensures.items) (All-push (λ b. b < 256) c.args.held.items c.args.byte c.requires.fits c.ranges.byte.fits)

pub gathered-requires-clause-most : goal.gathered-requires-clause-most
gathered-requires-clause-most c = omega (arith, c.requires.held, ap length c.in-Ok.ensures.items, length-append c.args.held.items (c.args.byte ∷ []))

pub returns-in-Ok : goal.returns-in-Ok
returns-in-Ok c =
    subst (Gives c.gathered.result) (ap (fed _) c.in-Ok.ensures.items ∙ fed-later c.args.next c.args.at c.args.held.items (c.args.byte ∷ []) c.requires.held) c.gathered.ensures
