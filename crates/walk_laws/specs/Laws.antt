-- The laws of walks and hubs, for every list of edges. `laws` has a public function for each.
use Rattle.std.specs.Prelude.{◌≡◌, ◌≢◌, ◌⊎◌, ◌↔◌, ℕ, ◌+◌, ◌*◌, ◌≤◌, ◌<◌, List, length, All, Option}
use Rattle.walk_laws.specs.declared.graph.Edge.{Edge}
use Rattle.walk_laws.specs.declared.entry.Entry.{Entry}
use Rattle.walk_laws.specs.Graph.{IsEdge, greatest_weight}
use Rattle.walk_laws.specs.Joined.{Joined}
use Rattle.walk_laws.specs.Ranking.{IsRanking, RanksAbove}
use Rattle.walk_laws.specs.Walk.{HasWalk}
use Rattle.walk_laws.specs.Least.{IsLeast}
use Rattle.walk_laws.specs.On.{IsOn}
use Rattle.walk_laws.specs.Top.{IsTop}
use Rattle.walk_laws.specs.Canonical.{IsCanonical}
use Rattle.walk_laws.specs.Labelling.{IsChl}
use Rattle.walk_laws.specs.Cover.{CoveringHub}
use Rattle.walk_laws.specs.Answer.{IsAnswer, IsWalkAnswer}
use Rattle.walk_laws.specs.Meet.{IsMeet}
use Rattle.walk_laws.specs.Lightest.{AreLightest}

-- each edge weighs at least 1
abbrev pub WeighAtLeastOne : List Edge → Type 0
WeighAtLeastOne edges = All (λ e. 1 ≤ e.w) edges

-- where a walk to x and one from x together have the least length, both have the least length
abbrev pub PartsOfLeastAreLeast : Type 0
PartsOfLeastAreLeast = (edges : List Edge) (u x v a b : ℕ) → HasWalk (Joined edges) u x a → HasWalk (Joined edges) x v b → IsLeast (Joined edges) u v (a + b) → IsLeast (Joined edges) u x a × IsLeast (Joined edges) x v b

-- a node is on a shortest walk exactly where the least lengths to it and from it add up to the least length
abbrev pub LengthsAddUpOnTheWay : Type 0
LengthsAddUpOnTheWay = (edges : List Edge) (u x v : ℕ) → IsOn (Joined edges) u x v ↔ ((a : ℕ) × (b : ℕ) × IsLeast (Joined edges) u x a × IsLeast (Joined edges) x v b × IsLeast (Joined edges) u v (a + b))

-- each node on a shortest walk but its end is strictly nearer to the start
abbrev pub NodesBeforeTheEndAreNearer : Type 0
NodesBeforeTheEndAreNearer = (edges : List Edge) (u x v a d : ℕ) → WeighAtLeastOne edges → IsOn (Joined edges) u x v → x ≢ v → IsLeast (Joined edges) u x a → IsLeast (Joined edges) u v d → a < d

-- a shortest walk has fewer steps than there are nodes, so a least length is at most n - 1 times the greatest weight
abbrev pub LeastLengthsAreShort : Type 0
LeastLengthsAreShort = (n : ℕ) (edges : List Edge) (u v d : ℕ) → All (IsEdge n) edges → 1 ≤ u → u ≤ n → IsLeast (Joined edges) u v d → d + greatest_weight edges ≤ n * greatest_weight edges

-- a hub of v is a hub of each node on a shortest walk from the hub to v
abbrev pub HubsAreInherited : Type 0
HubsAreInherited = (edges : List Edge) (at : List ℕ) (h x v d : ℕ) → IsCanonical (Joined edges) at h v d → IsOn (Joined edges) h x v → (a : ℕ) × IsCanonical (Joined edges) at h x a

-- no node that ranks above a hub of v has walks to the hub and to v that are together no longer than the hub's distance
abbrev pub HubsHaveNoCover : Type 0
HubsHaveNoCover = (edges : List Edge) (at : List ℕ) (h v q d a b : ℕ) → IsCanonical (Joined edges) at h v d → RanksAbove at q h → HasWalk (Joined edges) q h a → HasWalk (Joined edges) q v b → a + b ≤ d → ⊥

-- the highest-ranked node on a shortest walk is a hub of both ends
abbrev pub TheTopIsAHubOfBothEnds : Type 0
TheTopIsAHubOfBothEnds = (edges : List Edge) (at : List ℕ) (u v x : ℕ) → IsTop (Joined edges) at u v x → ((a : ℕ) × IsCanonical (Joined edges) at x u a) × ((b : ℕ) × IsCanonical (Joined edges) at x v b)

-- where a walk leads from a node, some node is the highest-ranked on a shortest walk
abbrev pub TheTopExists : Type 0
TheTopExists = (edges : List Edge) (at : List ℕ) (u v d : ℕ) → WeighAtLeastOne edges → IsRanking at → 1 ≤ u → u ≤ length at → HasWalk (Joined edges) u v d → (x : ℕ) × IsTop (Joined edges) at u v x

-- and only one is
abbrev pub TheTopIsUnique : Type 0
TheTopIsUnique = (edges : List Edge) (at : List ℕ) (u v x y : ℕ) → IsRanking at → 1 ≤ u → u ≤ length at → IsTop (Joined edges) at u v x → IsTop (Joined edges) at u v y → x ≡ y

-- where a walk of length d leads from h to v, h is a hub of v at a distance of d at most, or a hub of both that ranks above h covers it
abbrev pub OthersHaveACover : Type 0
OthersHaveACover = (edges : List Edge) (at : List ℕ) (h v d : ℕ) → WeighAtLeastOne edges → IsRanking at → 1 ≤ h → h ≤ length at → HasWalk (Joined edges) h v d → ((e : ℕ) × (e ≤ d) × IsCanonical (Joined edges) at h v e) ⊎ CoveringHub (Joined edges) at h v d

-- there is a canonical hub labelling
abbrev pub TheLabellingExists : Type 0
TheLabellingExists = (edges : List Edge) (at : List ℕ) → WeighAtLeastOne edges → IsRanking at → (rows : List (List Entry)) × IsChl (Joined edges) at rows

-- two canonical hub labellings are one
abbrev pub TheLabellingIsUnique : Type 0
TheLabellingIsUnique = (edges : List Edge) (at : List ℕ) (rows others : List (List Entry)) → IsChl (Joined edges) at rows → IsChl (Joined edges) at others → rows ≡ others

-- each pair has an answer
abbrev pub EachPairHasAnAnswer : Type 0
EachPairHasAnAnswer = (edges : List Edge) (at : List ℕ) (u v : ℕ) → WeighAtLeastOne edges → IsRanking at → 1 ≤ u → u ≤ length at → (answer : Option (ℕ × ℕ)) × IsAnswer (Joined edges) at u v answer

-- and only one
abbrev pub AnswersAreUnique : Type 0
AnswersAreUnique = (edges : List Edge) (at : List ℕ) (u v : ℕ) (answer other : Option (ℕ × ℕ)) → IsRanking at → 1 ≤ u → u ≤ length at → IsAnswer (Joined edges) at u v answer → IsAnswer (Joined edges) at u v other → answer ≡ other

-- where a walk is asked for, each pair has an answer, too
abbrev pub EachPairHasAWalkAnswer : Type 0
EachPairHasAWalkAnswer = (edges : List Edge) (u v : ℕ) → WeighAtLeastOne edges → (answer : Option (ℕ × List ℕ)) × IsWalkAnswer (Joined edges) u v answer

-- and only one
abbrev pub WalkAnswersAreUnique : Type 0
WalkAnswersAreUnique = (edges : List Edge) (u v : ℕ) (answer other : Option (ℕ × List ℕ)) → IsWalkAnswer (Joined edges) u v answer → IsWalkAnswer (Joined edges) u v other → answer ≡ other

-- the rows of the canonical hub labelling say what the pair is to be answered
abbrev pub TheRowsTellTheAnswer : Type 0
TheRowsTellTheAnswer = (edges : List Edge) (at : List ℕ) (rows : List (List Entry)) (u v : ℕ) (answer : Option (ℕ × ℕ)) → WeighAtLeastOne edges → IsRanking at → IsChl (Joined edges) at rows → 1 ≤ u → u ≤ length at → 1 ≤ v → v ≤ length at → IsMeet at rows u v answer ↔ IsAnswer (Joined edges) at u v answer

-- by the lightest edges alone, least lengths are the same
abbrev pub TheLightestKeepLengths : Type 0
TheLightestKeepLengths = (edges kept : List Edge) (u v d : ℕ) → AreLightest edges kept → IsLeast (Joined edges) u v d ↔ IsLeast (Joined kept) u v d

-- and so are hubs
abbrev pub TheLightestKeepHubs : Type 0
TheLightestKeepHubs = (edges kept : List Edge) (at : List ℕ) (h v d : ℕ) → AreLightest edges kept → IsCanonical (Joined edges) at h v d ↔ IsCanonical (Joined kept) at h v d

-- and the canonical hub labelling
abbrev pub TheLightestKeepTheLabelling : Type 0
TheLightestKeepTheLabelling = (edges kept : List Edge) (at : List ℕ) (rows : List (List Entry)) → AreLightest edges kept → IsChl (Joined edges) at rows ↔ IsChl (Joined kept) at rows
