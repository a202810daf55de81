-- One more task is made.
use Rattle.std.proofs.Common.{◌≡◌, ℕ, ◌+◌, [], ◌++◌, ◌∷◌, replicate, ap, ◌∙◌}
use Rattle.std.proofs.lemmas.List.{replicate_more}

pub one_made : {T : Type 0} (made all : ℕ) (task : T) → made + 1 ≡ all → replicate made task ++ task ∷ [] ≡ replicate all task
one_made made all task more = replicate_more made task ∙ ap (λ count. replicate count task) more
