use Rattle.std.proofs.Common.{[], ◌∷◌, refl, ap}
use Rattle.root_claims.specs.declared.rule.Bounds.{Bounds}
use Rattle.root_claims.proofs.Steps.{begins}
use Rattle.root_claims.proofs.claims.Claims.new.Goals as goal

pub of_words-requires : goal.of_words-requires
of_words-requires c =
    let about : Bounds = record { first = c.args.first; n = c.args.n; seats = c.args.seats } in
    (c.args.first, ap (λ k. k ∷ []) c.from.ensures, about, refl, refl, begins about c.requires.first c.requires.n c.requires.seats.0 c.requires.seats.1)
