use Rattle.hub_index.proofs.CanonicalRows.{IsWellFormed-canonical}
use Rattle.entry_vias.proofs.Labelled.{HaveVias-canonical}
use Rattle.entry_vias.proofs.laws.the_labelling_has_vias.Goals as goal

pub returns : goal.returns
returns c = λ n edges at rows vias graph ranking size chl near. HaveVias-canonical n edges at rows vias graph (IsWellFormed-canonical n edges at graph ranking size near rows chl) size chl
