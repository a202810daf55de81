-- The starts of one hub, and those of the others.
use Rattle.std.proofs.Common.{◌≡◌, ℕ, ◌<◌, List, All, Contains, length, get_or, sym, ap, subst, arith}
use Rattle.std.proofs.lemmas.List.{length-append}
use Rattle.std.proofs.lemmas.List.Elements.{All-contains, All-contains_itself, All-weaker, Contains-append_left, Contains-append_right, Contains-get_or}
use Rattle.resumed_tree.specs.declared.resuming.Start.{Start}
use Rattle.resumed_tree.specs.Resumed.{IsStart}
use Rattle.edge_open.specs.Hubs.{BeginsWithHub}
use Rattle.edge_open.specs.OpenArcs.{IsHubStart}

module _ (J : ℕ → ℕ → ℕ → Type 0) (at : List ℕ) (left : List Start) (p : ℕ) (group others : List Start) (begins : BeginsWithHub left p group others) (may : All (IsHubStart J at) left) where
  of_group : (s : Start) → Contains group s → IsHubStart J at s
  of_group s there = All-contains (IsHubStart J at) left s may (subst (λ (xs : List Start). Contains xs s) (sym begins.both) (Contains-append_left group others s there))

  -- they may go on, all in one tree
  pub group_may : All (IsStart J at p) group
  group_may =
      All-weaker (Contains group) (IsStart J at p)
      (λ s there. subst (λ q. IsStart J at q s) (All-contains (λ (t : Start). t.hub ≡ p) group s begins.hub there) (of_group s there).may) group (All-contains_itself group)

  pub others_may : All (IsHubStart J at) others
  others_may =
      All-weaker (Contains others) (IsHubStart J at)
      (λ s there. All-contains (IsHubStart J at) left s may (subst (λ (xs : List Start). Contains xs s) (sym begins.both) (Contains-append_right group others s there))) others (All-contains_itself others)

  -- the hub is one of the ranking
  pub hub_within : p < length at
  hub_within =
      let both = ap length begins.both in
      let some : 0 < length group = omega (arith, both, length-append group others, begins.fewer) in
      let first = get_or group 0 (record { hub = 0; node = 0; dist = 0 }) in
      let there : Contains group first = Contains-get_or group 0 (record { hub = 0; node = 0; dist = 0 }) some in
      subst (λ q. q < length at) (All-contains (λ (t : Start). t.hub ≡ p) group first begins.hub there) (of_group first there).within
