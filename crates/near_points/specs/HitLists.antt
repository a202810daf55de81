-- Lists of hits that stand one after another in one list.
use Rattle.std.specs.Prelude.{◌≡◌, ℕ, ◌≤◌, List, [], ◌∷◌, slice_range}
use Rattle.near_points.specs.declared.hit.Hit.{Hit}

-- the lists that end at these places, of which the first begins at `from`
abbrev pub lists_from : ℕ → List Hit → List ℕ → List (List Hit)
lists_from from hits [] = []
lists_from from hits (end ∷ ends) = slice_range hits from end ∷ lists_from end hits ends

-- the ends rise from `from` on up to `last`
abbrev pub AreEnds : ℕ → List ℕ → ℕ → Type 0
AreEnds from [] last = from ≡ last
AreEnds from (end ∷ ends) last = (from ≤ end) × AreEnds end ends last
