-- The printed hits of sources.
use Rattle.std.specs.Prelude.{ℕ, ◌*◌, List, [], ◌∷◌, ◌++◌, codes, drop, flat_map, take}
use Rattle.std.specs.Fmt.{decimal}
use Rattle.near_points.specs.declared.hit.Hit.{Hit}

-- ` V D`: a point and its distance
abbrev pub hit_words : Hit → List ℕ
hit_words hit = (32 ∷ decimal hit.node) ++ (32 ∷ decimal hit.dist)

-- `k S` and then the words of each hit, ended by one LF
abbrev pub near_line : ℕ → List Hit → List ℕ
near_line source hits = codes "k " ++ (decimal source ++ (flat_map hit_words hits ++ 10 ∷ []))

-- the lines of sources with their hits
abbrev pub near_lines : List ℕ → List (List Hit) → List ℕ
near_lines [] hits = []
near_lines (source ∷ sources) [] = []
near_lines (source ∷ sources) (own ∷ hits) = near_line source own ++ near_lines sources hits

-- the lines of a part of them, 1024 sources, where parts count from 0
abbrev pub near_part_lines : List ℕ → List (List Hit) → ℕ → List ℕ
near_part_lines sources hits part = near_lines (take 1024 (drop (part * 1024) sources)) (take 1024 (drop (part * 1024) hits))
