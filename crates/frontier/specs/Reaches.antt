-- How far a search has come with its nodes, and what an offer and a take change.
use Rattle.std.specs.Prelude.{ℕ, ◌==◌, Bool, true, false, List, nat_lt, slice_index_or, slice_set, nat_le, if◌then◌else◌}
use Rattle.frontier.specs.declared.reach.Found.{Found}
use Rattle.frontier.specs.declared.reach.Reach.{Reach}
use Rattle.frontier.specs.declared.reach.Reach.TheVariants.{Unreached, Queued, Settled}

-- how far the search has come with the node x; a number that is no node is not reached
abbrev pub reach_at : {C : Type 0} → List (Reach C) → ℕ → Reach C
reach_at reaches x = slice_index_or reaches x Unreached

-- whether an offer at this distance can change what is known of a node
abbrev pub improves : {C : Type 0} → Reach C → ℕ → Bool
improves Unreached dist = true
improves (Queued found) dist = nat_le dist found.dist
improves (Settled found) dist = false

-- the shorter of two finds; of two that are as long, what they carry is combined
abbrev pub better : {C : Type 0} → (C → C → C) → Found C → Found C → Found C
better combined found offer =
    if nat_lt offer.dist found.dist then offer else
    (if offer.dist == found.dist then record { dist = found.dist; carried = combined found.carried offer.carried } else found)

-- a node after an offer: a settled one stays as it is
abbrev pub offered : {C : Type 0} → (C → C → C) → Reach C → Found C → Reach C
offered combined Unreached offer = Queued offer
offered combined (Queued found) offer = Queued (better combined found offer)
offered combined (Settled found) offer = Settled found

-- all nodes after an offer to the node x
abbrev pub with_offer : {C : Type 0} → (C → C → C) → List (Reach C) → ℕ → Found C → List (Reach C)
with_offer combined reaches x offer = slice_set reaches x (offered combined (reach_at reaches x) offer)

-- all nodes after the node x was settled
abbrev pub settled : {C : Type 0} → List (Reach C) → ℕ → Found C → List (Reach C)
settled reaches x found = slice_set reaches x (Settled found)
