-- What was put at a node, where one more cell is linked.
use Rattle.std.proofs.Common.{◌≡◌, ◌≢◌, ℕ, List, [], ◌∷◌, ◌++◌, map, eq-eqb, ne_eqb, refl, ap, ◌∙◌}
use Rattle.std.specs.Prelude.{filter, nat_eq, if◌then◌else◌}
use Rattle.std.proofs.lemmas.List.{append-nil, map-append}
use Rattle.std.proofs.lemmas.List.Elements.{filter-append}
use Rattle.label_pool.specs.declared.rule.Linked.{Linked}
use Rattle.label_pool.specs.declared.rule.Put.{Put}
use Rattle.label_pool.specs.Chains.{puts_at}

pub puts-joined : (ps qs : List Put) (v : ℕ) → puts_at (ps ++ qs) v ≡ puts_at ps v ++ puts_at qs v
puts-joined ps qs v =
    ap (map (λ (p : Put). p.linked)) (filter-append (λ (p : Put). nat_eq p.node v) ps qs)
    ∙ map-append (λ (p : Put). p.linked) (filter (λ (p : Put). nat_eq p.node v) ps) (filter (λ (p : Put). nat_eq p.node v) qs)

pub puts-here : (ps : List Put) (v : ℕ) (l : Linked) → puts_at (ps ++ record { node = v; linked = l } ∷ []) v ≡ puts_at ps v ++ l ∷ []
puts-here ps v l =
    puts-joined ps (record { node = v; linked = l } ∷ []) v
    ∙ ap (λ t. puts_at ps v ++ map (λ (p : Put). p.linked) (if t then record { node = v; linked = l } ∷ [] else [])) (eq-eqb v v refl)

pub puts-else : (ps : List Put) (v u : ℕ) (l : Linked) → v ≢ u → puts_at (ps ++ record { node = v; linked = l } ∷ []) u ≡ puts_at ps u
puts-else ps v u l other =
    puts-joined ps (record { node = v; linked = l } ∷ []) u
    ∙ ap (λ t. puts_at ps u ++ map (λ (p : Put). p.linked) (if t then record { node = v; linked = l } ∷ [] else [])) (ne_eqb v u other)
    ∙ append-nil (puts_at ps u)
