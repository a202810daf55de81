-- Which nodes a tree looks for: those that carry the root.
use Rattle.std.specs.Prelude.{ℕ, ◌==◌, List, [], ◌∷◌, ◌++◌, sum_by, if◌then◌else◌}
use Rattle.frontier.specs.declared.reach.Found.{Found}
use Rattle.frontier.specs.declared.reach.Reach.{Reach}
use Rattle.frontier.specs.declared.reach.Reach.TheVariants.{Unreached, Queued, Settled}
use Rattle.plant_tree.specs.declared.highest.Highest.{Highest}

-- 1 for a queued node that carries the root at the position p
abbrev pub wants : ℕ → Reach Highest → ℕ
wants p Unreached = 0
wants p (Queued found) = if found.carried.position == p then 1 else 0
wants p (Settled found) = 0

-- how many such nodes there are
abbrev pub wanted : ℕ → List (Reach Highest) → ℕ
wanted p nodes = sum_by (wants p) nodes

-- the labels, with the node v where it carries the root at the position p
abbrev pub labels_with : ℕ → List (ℕ × ℕ) → ℕ → Found Highest → List (ℕ × ℕ)
labels_with p labels v found = if found.carried.position == p then labels ++ (v, found.dist) ∷ [] else labels
