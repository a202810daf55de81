-- The printed answers of pairs.
use Rattle.std.specs.Prelude.{ℕ, ◌*◌, List, [], ◌∷◌, ◌++◌, Option, Some, None, codes, take, drop}
use Rattle.std.specs.Fmt.{decimal}

-- `d S T D H`: a walk of least length D, and the highest-ranked node H on the shortest walks; or `u S T`: no walk. Ended by
-- one LF
abbrev pub answer_line : ℕ × ℕ → Option (ℕ × ℕ) → List ℕ
answer_line pair (Some answer) =
    codes "d " ++ (decimal pair.0 ++ (32 ∷ decimal pair.1) ++ (32 ∷ decimal answer.0) ++ (32 ∷ decimal answer.1) ++ 10 ∷ [])
answer_line pair None = codes "u " ++ (decimal pair.0 ++ (32 ∷ decimal pair.1) ++ 10 ∷ [])

-- the lines of pairs with their answers
abbrev pub answer_lines : List (ℕ × ℕ) → List (Option (ℕ × ℕ)) → List ℕ
answer_lines [] answers = []
answer_lines (pair ∷ pairs) [] = []
answer_lines (pair ∷ pairs) (answer ∷ answers) = answer_line pair answer ++ answer_lines pairs answers

-- the lines of a part of them, 65536 pairs, where parts count from 0
abbrev pub part_lines : List (ℕ × ℕ) → List (Option (ℕ × ℕ)) → ℕ → List ℕ
part_lines pairs answers part = answer_lines (take 65536 (drop (part * 65536) pairs)) (take 65536 (drop (part * 65536) answers))
