-- Whether any walk leads from one node to another is decided: one edge more joins at most two parts.
use Rattle.std.proofs.Common.{◌≡◌, ◌⊎◌, ℕ, ◌+◌, List, [], ◌∷◌, refl, subst, sym, ap, inl, inr}
use Rattle.std.proofs.lemmas.Bool.{cases_eq}
use Rattle.walk_laws.specs.declared.graph.Edge.{Edge}
use Rattle.walk_laws.specs.Joined.{Joined}
use Rattle.walk_laws.specs.Walk.{HasWalk}
use Rattle.walk_laws.specs.Least.{AreApart}
use Rattle.walk_laws.proofs.Members.{Contains-first, Contains-next, Contains-cons_cases, Contains-empty}
use Rattle.walk_laws.proofs.Walks.{HasWalk-none, HasWalk-none_to, HasWalk-append, HasWalk-after, HasWalk-closed, HasWalk-more}

-- some walk leads from u to v
abbrev pub Reaches : List Edge → ℕ → ℕ → Type 0
Reaches edges u v = (d : ℕ) × HasWalk (Joined edges) u v d

-- by walks without a new edge between a and b, but for at most one step along it
abbrev ReachesBy : List Edge → ℕ → ℕ → ℕ → ℕ → Type 0
ReachesBy edges a b u v = Reaches edges u v ⊎ ((Reaches edges u a × Reaches edges b v) ⊎ (Reaches edges u b × Reaches edges a v))

abbrev bare_edge : ℕ → ℕ → ℕ → Edge
bare_edge u v w = record { u = u; v = v; w = w }

-- a join of the longer list is the new edge, one way or the other, or a join of the rest
Joined-cases : (e : Edge) (edges : List Edge) (x y w : ℕ) → Joined (e ∷ edges) x y w → ((e ≡ bare_edge x y w) ⊎ (e ≡ bare_edge y x w)) ⊎ Joined edges x y w
Joined-cases e edges x y w h =
    elim h [
      | inl one_way ↦ elim (Contains-cons_cases e (bare_edge x y w) edges one_way) [
        | inl new ↦ inl (inl new)
        | inr old ↦ inr (inl old)
      ]
      | inr other_way ↦ elim (Contains-cons_cases e (bare_edge y x w) edges other_way) [
        | inl new ↦ inl (inr new)
        | inr old ↦ inr (inr old)
      ]
    ]

Joined-more : (e : Edge) (edges : List Edge) (x y w : ℕ) → Joined edges x y w → Joined (e ∷ edges) x y w
Joined-more e edges x y w h =
    elim h [
      | inl one_way ↦ inl (Contains-next e (bare_edge x y w) edges one_way)
      | inr other_way ↦ inr (Contains-next e (bare_edge y x w) edges other_way)
    ]

no_edges : (x y w : ℕ) → Joined [] x y w → ⊥
no_edges x y w h = elim h [ inl one_way ↦ Contains-empty _ one_way | inr other_way ↦ Contains-empty _ other_way ]

module _ (edges : List Edge) where
  reaches_itself : (x : ℕ) → Reaches edges x x
  reaches_itself x = (0, HasWalk-none (Joined edges) x)

  reaches_on : (u y x w : ℕ) → Reaches edges u y → Joined edges y x w → Reaches edges u x
  reaches_on u y x w h arc = (h.0 + w, HasWalk-after (Joined edges) u y x w h.0 h.1 arc)

  -- an old edge leads on
  along_old : (a b u y x w : ℕ) → ReachesBy edges a b u y → Joined edges y x w → ReachesBy edges a b u x
  along_old a b u y x w h arc =
      elim h [
        | inl without ↦ inl (reaches_on u y x w without arc)
        | inr with_it ↦ elim with_it [
          | inl a_to_b ↦ inr (inl (a_to_b.0, reaches_on b y x w a_to_b.1 arc))
          | inr b_to_a ↦ inr (inr (b_to_a.0, reaches_on a y x w b_to_a.1 arc))
        ]
      ]

  -- so does the new one, either way
  along_new : (a b u : ℕ) → ReachesBy edges a b u a → ReachesBy edges a b u b
  along_new a b u h =
      elim h [
        | inl without ↦ inr (inl (without, reaches_itself b))
        | inr with_it ↦ elim with_it [
          | inl a_to_b ↦ inr (inl (a_to_b.0, reaches_itself b))
          | inr b_to_a ↦ inl b_to_a.0
        ]
      ]

  along_new_back : (a b u : ℕ) → ReachesBy edges a b u b → ReachesBy edges a b u a
  along_new_back a b u h =
      elim h [
        | inl without ↦ inr (inr (without, reaches_itself a))
        | inr with_it ↦ elim with_it [
          | inl a_to_b ↦ inl a_to_b.0
          | inr b_to_a ↦ inr (inr (b_to_a.0, reaches_itself a))
        ]
      ]

  along : (e : Edge) (u y x w : ℕ) → ReachesBy edges e.u e.v u y → Joined (e ∷ edges) y x w → ReachesBy edges e.u e.v u x
  along e u y x w h arc =
      elim (Joined-cases e edges y x w arc) [
        | inr old ↦ along_old e.u e.v u y x w h old
        | inl new ↦ elim new [
          | inl there ↦ subst (ReachesBy edges e.u e.v u) (ap (λ (f : Edge). f.v) there) (along_new e.u e.v u (subst (ReachesBy edges e.u e.v u) (sym (ap (λ (f : Edge). f.u) there)) h))
          | inr back ↦ subst (ReachesBy edges e.u e.v u) (ap (λ (f : Edge). f.u) back) (along_new_back e.u e.v u (subst (ReachesBy edges e.u e.v u) (sym (ap (λ (f : Edge). f.v) back)) h))
        ]
      ]

  by_walk : (e : Edge) (u v d : ℕ) → HasWalk (Joined (e ∷ edges)) u v d → ReachesBy edges e.u e.v u v
  by_walk e u v d walk =
      HasWalk-closed (Joined (e ∷ edges)) (ReachesBy edges e.u e.v u) (along e u) u v d walk (inl (reaches_itself u))

  more : (e : Edge) (u v : ℕ) → Reaches edges u v → Reaches (e ∷ edges) u v
  more e u v h = (h.0, HasWalk-more (Joined edges) (Joined (e ∷ edges)) (Joined-more e edges) u v h.0 h.1)

both_ways_over : (edges : List Edge) (u x y v w : ℕ) → Reaches edges u x → Joined edges x y w → Reaches edges y v → Reaches edges u v
both_ways_over edges u x y v w first arc second =
    (first.0 + w + second.0, HasWalk-append (Joined edges) u y v (first.0 + w) second.0 (HasWalk-after (Joined edges) u x y w first.0 first.1 arc) second.1)

walk_from_by : (e : Edge) (edges : List Edge) (u v : ℕ) → ReachesBy edges e.u e.v u v → Reaches (e ∷ edges) u v
walk_from_by e edges u v h =
    elim h [
      | inl without ↦ more edges e u v without
      | inr with_it ↦ elim with_it [
        | inl there ↦ both_ways_over (e ∷ edges) u e.u e.v v e.w (more edges e u e.u there.0) (inl (Contains-first e edges)) (more edges e e.v v there.1)
        | inr back ↦ both_ways_over (e ∷ edges) u e.v e.u v e.w (more edges e u e.v back.0) (inr (Contains-first e edges)) (more edges e e.u v back.1)
      ]
    ]

both_decided : {P Q : Type 0} → P ⊎ (P → ⊥) → Q ⊎ (Q → ⊥) → (P × Q) ⊎ (P × Q → ⊥)
both_decided p q = elim p [
  | inr not_p ↦ inr (λ h. not_p h.0)
  | inl yes_p ↦ elim q [ inr not_q ↦ inr (λ h. not_q h.1) | inl yes_q ↦ inl (yes_p, yes_q) ]
]

either_decided : {P Q : Type 0} → P ⊎ (P → ⊥) → Q ⊎ (Q → ⊥) → (P ⊎ Q) ⊎ (P ⊎ Q → ⊥)
either_decided p q = elim p [
  | inl yes_p ↦ inl (inl yes_p)
  | inr not_p ↦ elim q [ inl yes_q ↦ inl (inr yes_q) | inr not_q ↦ inr (λ h. elim h [ inl yes_p ↦ not_p yes_p | inr yes_q ↦ not_q yes_q ]) ]
]

-- whether some walk leads from u to v
pub Reaches-decided : (edges : List Edge) (u v : ℕ) → Reaches edges u v ⊎ (Reaches edges u v → ⊥)
Reaches-decided [] u v =
    elim (cases_eq u v) [
      | inl same ↦ inl (0, HasWalk-none_to (Joined []) u v same)
      | inr other ↦ inr (λ h. other (HasWalk-closed (Joined []) (λ x. u ≡ x) (λ x y w _ arc. absurd (no_edges x y w arc)) u v h.0 h.1 refl))
    ]
Reaches-decided (e ∷ edges) u v =
    elim (either_decided (Reaches-decided edges u v) (either_decided (both_decided (Reaches-decided edges u e.u) (Reaches-decided edges e.v v)) (both_decided (Reaches-decided edges u e.v) (Reaches-decided edges e.u v)))) [
      | inl reaches ↦ inl (walk_from_by e edges u v reaches)
      | inr not_so ↦ inr (λ h. not_so (by_walk edges e u v h.0 h.1))
    ]

-- two nodes have a walk between them, or are apart
pub HasWalk-or_apart : (edges : List Edge) (u v : ℕ) → ((d : ℕ) × HasWalk (Joined edges) u v d) ⊎ AreApart (Joined edges) u v
HasWalk-or_apart edges u v =
    elim (Reaches-decided edges u v) [
      | inl reaches ↦ inl reaches
      | inr none ↦ inr (λ d walk. none (d, walk))
    ]
