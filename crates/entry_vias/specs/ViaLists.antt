-- Lists that stand one after another in one list.
use Rattle.std.specs.Prelude.{◌≡◌, ℕ, ◌≤◌, List, [], ◌∷◌, slice_range}

-- the lists, of which the first begins at `start`, and each other where the one before ends
abbrev pub lists_from : List ℕ → ℕ → List ℕ → List (List ℕ)
lists_from flat start [] = []
lists_from flat start (end ∷ ends) = slice_range flat start end ∷ lists_from flat end ends

-- the lists, of which the first begins at the first of these places, and each ends at the next one
abbrev pub lists_of : List ℕ → List ℕ → List (List ℕ)
lists_of flat [] = []
lists_of flat (start ∷ ends) = lists_from flat start ends

-- from `start` on no place is before the one that it follows, and the last is the end
abbrev pub RiseFrom : ℕ → List ℕ → ℕ → Type 0
RiseFrom start [] end = start ≡ end
RiseFrom start (next ∷ starts) end = (start ≤ next) × RiseFrom next starts end

-- the first place is 0, and from there they rise up to the end
abbrev pub RiseUpTo : List ℕ → ℕ → Type 0
RiseUpTo [] end = ⊥
RiseUpTo (start ∷ starts) end = (start ≡ 0) × RiseFrom start starts end
