-- The steps of a shortest-path tree that carries the highest-ranked node on the shortest walks, as terms of lists.
use Rattle.std.proofs.Common.{◌≡◌, ◌≢◌, inl, inr, ◌<◌, ◌≤◌, true, false, length, get_or, drop, refl, sym, ap, ◌∙◌, add-one, drop-cons, arith}
use Rattle.std.specs.Prelude.{ℕ, ◌+◌, ◌==◌, List, [], nat_lt, min}
use Rattle.std.proofs.Math.ListN.{set, drop_of_length-le}
use Rattle.std.proofs.lemmas.Bool.{cases_eq, cases_lt, ltb-true, lt-ltb, eqb-true, eq-eqb, leb-false}
use Rattle.std.proofs.lemmas.List.{set-get_or}
use Rattle.walk_laws.specs.declared.graph.Arc.{Arc}
use Rattle.frontier.specs.Reaches as frontier
use Rattle.plant_tree.specs.Relaxed.{higher, offer_of, relaxed, relaxed_all}
use Rattle.plant_tree.proofs.TreeTypes.{Found, Reach}
use Rattle.frontier.specs.declared.reach.Reach.TheVariants.{Unreached, Queued, Settled}

-- the shorter of two walks, and of two that are as long the higher of their highest-ranked nodes
abbrev pub better : Found → Found → Found
better found offer = frontier.better higher found offer

-- a node that is offered a walk
abbrev pub offered : Reach → Found → Reach
offered reach offer = frontier.offered higher reach offer

-- which of two walks is the better one
pub data BetterCases (q o : Found) : Type 0 where
  shorter : o.dist < q.dist → better q o ≡ o → BetterCases q o
  as_long : o.dist ≡ q.dist → better q o ≡ record { dist = q.dist; carried = record { position = min q.carried.position o.carried.position } } → BetterCases q o
  longer : q.dist < o.dist → better q o ≡ q → BetterCases q o

pub better_cases : (q o : Found) → BetterCases q o
better_cases q o = elim (cases_lt o.dist q.dist) [
  | inl less ↦ shorter less (rw (lt-ltb o.dist q.dist less) refl)
  | inr more ↦ elim (cases_eq o.dist q.dist) [
    | inl same ↦ as_long same (rw (ltb-from_le o.dist q.dist more, eq-eqb o.dist q.dist same) refl)
    | inr differ ↦ longer (omega arith) (rw (ltb-from_le o.dist q.dist more, eqb-from_ne o.dist q.dist differ) refl)
  ]
]
  where
    ltb-from_le : (a b : ℕ) → b ≤ a → nat_lt a b ≡ false
    ltb-from_le a b le = elim (nat_lt a b) as (λ t. nat_lt a b ≡ t → t ≡ false) [ true ↦ λ e. absurd (omega (arith, ltb-true a b e)) | false ↦ λ e. refl ] refl

    eqb-from_ne : (a b : ℕ) → a ≢ b → (a == b) ≡ false
    eqb-from_ne a b ne = elim (a == b) as (λ t. (a == b) ≡ t → t ≡ false) [ true ↦ λ e. absurd (ne (eqb-true a b e)) | false ↦ λ e. refl ] refl

-- what comes of an offer to a queued node
pub offered_shorter : (q o : Found) → o.dist < q.dist → offered (Queued q) o ≡ Queued o
offered_shorter q o less = elim (better_cases q o) [
  | shorter _ is ↦ ap Queued is
  | as_long same _ ↦ absurd (omega arith)
  | longer more _ ↦ absurd (omega arith)
]

pub offered_as_long : (q o : Found) → o.dist ≡ q.dist → offered (Queued q) o ≡ Queued (record { dist = q.dist; carried = record { position = min q.carried.position o.carried.position } })
offered_as_long q o same = elim (better_cases q o) [
  | shorter less _ ↦ absurd (omega arith)
  | as_long _ is ↦ ap Queued is
  | longer more _ ↦ absurd (omega arith)
]

pub offered_longer : (q o : Found) → q.dist < o.dist → offered (Queued q) o ≡ Queued q
offered_longer q o more = elim (better_cases q o) [
  | shorter less _ ↦ absurd (omega arith)
  | as_long same _ ↦ absurd (omega arith)
  | longer _ is ↦ ap Queued is
]

-- an offer that isn't improved changes nothing
pub offered_unimproved : (r : Reach) (o : Found) → frontier.improves r o.dist ≡ false → offered r o ≡ r
offered_unimproved Unreached o unimproved = absurd cc
offered_unimproved (Queued q) o unimproved = offered_longer q o (leb-false o.dist q.dist unimproved)
offered_unimproved (Settled s) o unimproved = refl

pub relaxed_unimproved : (at : List ℕ) (found : Found) (a : Arc) (nodes : List Reach) → frontier.improves (get_or nodes a.to Unreached) (found.dist + a.w) ≡ false → relaxed at found a nodes ≡ nodes
relaxed_unimproved at found a nodes unimproved =
    ap (set nodes a.to) (offered_unimproved (get_or nodes a.to Unreached) (offer_of at found a) unimproved) ∙ set-get_or nodes a.to Unreached

-- the next arc of a row
pub relaxed_all-next : (at : List ℕ) (found : Found) (row : List Arc) (i : ℕ) (d : Arc) (nodes : List Reach) → i < length row → relaxed_all at found (drop i row) nodes ≡ relaxed_all at found (drop (i + 1) row) (relaxed at found (get_or row i d) nodes)
relaxed_all-next at found row i d nodes inside = rw (add-one, drop-cons row i d) refl

-- after the last one
pub relaxed_all-end : (at : List ℕ) (found : Found) (row : List Arc) (i : ℕ) (nodes all : List Reach) → length row ≤ i → relaxed_all at found (drop i row) nodes ≡ all → nodes ≡ all
relaxed_all-end at found row i nodes all over rest =
    let none : drop i row ≡ [] = drop_of_length-le row over in
    ap (λ others. relaxed_all at found others nodes) (sym none) ∙ rest
