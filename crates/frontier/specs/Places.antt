-- What stored reaches say.
use Rattle.std.specs.Prelude.{ℕ, ◌-◌, ◌/◌, ◌%◌, ◌^◌, ◌==◌, List, [], ◌∷◌, nat_lt, if◌then◌else◌}
use Rattle.frontier.specs.declared.reach.Found.{Found}
use Rattle.frontier.specs.declared.reach.Reach.{Reach}
use Rattle.frontier.specs.declared.reach.Reach.TheVariants.{Unreached, Queued, Settled}
use Rattle.frontier.specs.declared.places.Place.{Place}

-- the distance that a word says, or the one that stands apart
abbrev pub dist_of : ℕ → ℕ → ℕ
dist_of word apart = if word / 2 == 2 ^ 31 - 1 then apart else word / 2 - 1

-- a node that is reached: queued for the state 0, and else settled
abbrev pub found_of : {C : Type 0} → ℕ → Found C → Reach C
found_of state found = if state == 0 then Queued found else Settled found

-- how far the search has come with the node of a place, of which this distance stands apart
abbrev pub told : {C : Type 0} → Place C → ℕ → Reach C
told place apart = if nat_lt place.word 2 then Unreached else found_of (place.word % 2) (record { dist = dist_of place.word apart; carried = place.carried })

-- how far it has come with all nodes
abbrev pub told_all : {C : Type 0} → List (Place C) → List ℕ → List (Reach C)
told_all [] apart = []
told_all (place ∷ places) [] = []
told_all (place ∷ places) (dist ∷ apart) = told place dist ∷ told_all places apart
