-- A row has one entry for a position, and an entry one via.
use Rattle.std.proofs.Common.{◌≡◌, ℕ, List, [], ◌∷◌, Contains, sym, ap, ◌∙◌, inl, inr, arith}
use Rattle.walk_laws.specs.declared.entry.Entry.{Entry}
use Rattle.walk_laws.proofs.LabelRows.{Rises, Rises-first, Rises-rest}
use Rattle.walk_laws.proofs.Members.{Contains-cons_cases, Contains-empty}
use Rattle.hub_query.proofs.Sums.{pos_of}
use Rattle.entry_vias.specs.RowVias.{IsRowVia}

pub one_entry : (row : List Entry) (e f : Entry) → Rises pos_of row → Contains row e → Contains row f → e.pos ≡ f.pos → e ≡ f
one_entry [] e f up here there same = absurd (Contains-empty e here)
one_entry (x ∷ row) e f up here there same = elim (Contains-cons_cases x e row here) [
  | inl first ↦ elim (Contains-cons_cases x f row there) [
    | inl also ↦ sym first ∙ also
    | inr later ↦ absurd (omega (arith, Rises-first pos_of x f row up later, ap pos_of first))
  ]
  | inr later ↦ elim (Contains-cons_cases x f row there) [
    | inl first ↦ absurd (omega (arith, Rises-first pos_of x e row up later, ap pos_of first))
    | inr also ↦ one_entry row e f (Rises-rest pos_of x row up) later also same
  ]
]

-- so a position has one distance
pub one_distance : (row : List Entry) (p d e : ℕ) → Rises pos_of row → Contains row (record { pos = p; dist = d }) → Contains row (record { pos = p; dist = e }) → d ≡ e
one_distance row p d e up here there = ap (λ (x : Entry). x.dist) (one_entry row (record { pos = p; dist = d }) (record { pos = p; dist = e }) up here there (omega arith))

pub one_via : (J : ℕ → ℕ → ℕ → Type 0) (rows : List (List Entry)) (v : ℕ) (e : Entry) (x y : ℕ) → IsRowVia J rows v e x → IsRowVia J rows v e y → x ≡ y
one_via J rows v e x y a b = elim a [
  | inl first ↦ elim b [
    | inl second ↦ omega (arith, first.least y second.nearer, second.least x first.nearer)
    | inr none ↦ absurd (none.1 x first.nearer)
  ]
  | inr none ↦ elim b [
    | inl second ↦ absurd (none.1 y second.nearer)
    | inr also ↦ none.0 ∙ sym also.0
  ]
]
