-- How many queued nodes carry the root.
use Rattle.std.proofs.Common.{◌≡◌, ◌≢◌, ℕ, zero, suc, ◌+◌, ◌<◌, ◌≤◌, inl, inr, List, length, get_or, get_or-set_same, replicate, refl, ap, ◌∙◌, arith}
use Rattle.std.proofs.Math.ListN.{set}
use Rattle.std.proofs.lemmas.Bool.{eq-eqb}
use Rattle.std.proofs.lemmas.Bool.Decides.{eqb_tells}
use Rattle.std.proofs.lemmas.List.{length-replicate}
use Rattle.std.proofs.lemmas.List.Sums.{sum_by-set, sum_by-le, get_or-le-sum_by}
use Rattle.walk_laws.specs.declared.graph.Arc.{Arc}
use Rattle.frontier.specs.declared.reach.Reach.TheVariants.{Unreached, Queued, Settled}
use Rattle.plant_tree.specs.Wanted.{wants, wanted}
use Rattle.plant_tree.proofs.TreeTypes.{Found, Reach}
use Rattle.plant_tree.proofs.TreeFacts.{reach_of}
use Rattle.plant_tree.specs.Relaxed.{offer_of, relaxed}
use Rattle.plant_tree.proofs.TreeSteps.{offered}
use Rattle.plant_tree.proofs.TreeSize.{queued_inside, none_found, nothing_found}

wants-le : (p : ℕ) (r : Reach) → wants p r ≤ 1
wants-le p Unreached = omega arith
wants-le p (Queued f) = elim (eqb_tells f.carried.position p) [ inl root ↦ rw root.0 (omega arith) | inr other ↦ rw other.0 (omega arith) ]
wants-le p (Settled f) = omega arith

-- there are no more than there are nodes
pub wanted-le : (p : ℕ) (nodes : List Reach) → wanted p nodes ≤ length nodes
wanted-le p nodes = let few = sum_by-le (wants p) 1 nodes (λ k d lt. wants-le p (get_or nodes k d)) in omega arith

-- a node counts
pub wants_one : (p : ℕ) (nodes : List Reach) (x : ℕ) → x < length nodes → wants p (reach_of nodes x) ≤ wanted p nodes
wants_one p nodes x inside = get_or-le-sum_by (wants p) nodes x Unreached inside

-- where none is counted, no queued node carries the root
pub none_wanted : (p : ℕ) (nodes : List Reach) → wanted p nodes ≡ 0 → (x : ℕ) (f : Found) → reach_of nodes x ≡ Queued f → f.carried.position ≢ p
none_wanted p nodes none x f queued root =
    let counts : wants p (Queued f) ≡ 1 = rw (eq-eqb f.carried.position p root) refl in
    omega (arith, wants_one p nodes x (queued_inside nodes x f queued), ap (wants p) queued, counts)

-- one less where a queued node is settled that carries it
pub wanted-settled : (p : ℕ) (nodes : List Reach) (v : ℕ) (f : Found) → reach_of nodes v ≡ Queued f → wanted p (set nodes v (Settled f)) + wants p (Queued f) ≡ wanted p nodes
wanted-settled p nodes v f queued =
    let change = sum_by-set (wants p) nodes v (Settled f) Unreached (queued_inside nodes v f queued) in
    let was : wants p (reach_of nodes v) ≡ wants p (Queued f) = ap (wants p) queued in
    omega (arith, change, was)

-- along an arc
pub wanted-relaxed : (p : ℕ) (at : List ℕ) (f : Found) (a : Arc) (nodes : List Reach) → a.to < length nodes → wanted p (relaxed at f a nodes) + wants p (reach_of nodes a.to) ≡ wanted p nodes + wants p (reach_of (relaxed at f a nodes) a.to)
wanted-relaxed p at f a nodes inside =
    let change = sum_by-set (wants p) nodes a.to (offered (reach_of nodes a.to) (offer_of at f a)) Unreached inside in
    let now : reach_of (relaxed at f a nodes) a.to ≡ offered (reach_of nodes a.to) (offer_of at f a) = get_or-set_same nodes a.to (offered (reach_of nodes a.to) (offer_of at f a)) Unreached inside in
    omega (arith, change, ap (wants p) now)

none_of_none : (p n : ℕ) → wanted p (replicate n none_found) ≡ 0
none_of_none p zero = refl
none_of_none p (suc n) = none_of_none p n

-- at first the root alone
pub wanted-start : (n root p : ℕ) (nodes : List Reach) → nodes ≡ replicate (n + 1) none_found → root ≤ n → wanted p (set nodes root (Queued (record { dist = 0; carried = record { position = p } }))) ≡ 1
wanted-start n root p nodes e up_to_n =
    let inside : root < length nodes = omega (arith, ap length e, length-replicate (n + 1) none_found) in
    let change = sum_by-set (wants p) nodes root (Queued (record { dist = 0; carried = record { position = p } })) Unreached inside in
    let none : wanted p nodes ≡ 0 = ap (wanted p) e ∙ none_of_none p (n + 1) in
    let before : wants p (reach_of nodes root) ≡ 0 = ap (λ ns. wants p (reach_of ns root)) e ∙ ap (wants p) (nothing_found (n + 1) root) in
    let counts : wants p (Queued (record { dist = 0; carried = record { position = p } })) ≡ 1 = rw (eq-eqb p p refl) refl in
    omega (arith, change, none, before, counts)
