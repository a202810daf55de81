use Rattle.hub_index.proofs.CanonicalRows.{IsWellFormed-canonical}
use Rattle.hub_index.proofs.laws.the_labelling_is_well_formed.Goals as goal

-- src/laws.rt:6:1
pub returns : goal.returns
returns c = λ n edges at rows graph ranking size chl fits. IsWellFormed-canonical n edges at graph ranking size fits rows chl
