use Rattle.std.specs.Prelude.{◌≡◌, true}
use Rattle.entry_sinks.proofs.PartsOfLabellings.{IsPartChl-gathered}
use Rattle.entry_sinks.proofs.laws.the_gathered_are_the_part.Goals as goal

pub returns : goal.returns
returns c edges at is_in = IsPartChl-gathered edges at (λ p. is_in p ≡ true)
