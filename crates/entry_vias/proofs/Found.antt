-- What a table tells of the vias of a row once the rows of all neighbours were looked at.
use Rattle.std.specs.List.{AllZip}
use Rattle.std.proofs.Common.{ℕ, zero, suc, ◌≤◌, List, [], ◌∷◌, Contains, map, sym, ap, subst, inl, inr, arith}
use Rattle.walk_laws.specs.declared.entry.Entry.{Entry}
use Rattle.walk_laws.specs.Labelling.{label_row}
use Rattle.walk_laws.proofs.Members.{Contains-first, Contains-next}
use Rattle.entry_vias.specs.declared.slot.Slot.{Slot}
use Rattle.entry_vias.specs.RowVias.{IsFirstNearer, IsRowVia, AreRowVias}
use Rattle.entry_vias.specs.Slots.{slot_at, slot_of, entry_at, via_in, HoldsNoOther, IsLaidOut, IsAfterAll}

-- what each element is made into stands beside it
pub AllZip-mapped : {X Y : Type 0} (R : X → Y → Type 0) (f : X → Y) (xs : List X) → ((x : X) → Contains xs x → R x (f x)) → AllZip R xs (map f xs)
AllZip-mapped R f [] each = tt
AllZip-mapped R f (x ∷ xs) each = (each x (Contains-first x xs), AllZip-mapped R f xs (λ y there. each y (Contains-next x y xs there)))

module _ (J : ℕ → ℕ → ℕ → Type 0) (rows : List (List Entry)) (v : ℕ) (positive : (y w : ℕ) → J v y w → 1 ≤ w) (before now : List Slot) (laid : IsLaidOut (label_row rows v) before) (looked : (p : ℕ) → IsAfterAll J rows v p (slot_at before p) (slot_at now p)) where
  found_at : (p d : ℕ) (slot : Slot) → IsAfterAll J rows v p (slot_of d) slot → IsRowVia J rows v (entry_at p d) (via_in slot)
  found_at p zero slot told = inr (ap via_in told, λ z n. omega (arith, n.long, positive z n.weight n.arc))
  found_at p (suc d) slot told = elim told [
    | inl none ↦ inr (ap via_in none.0, none.1)
    | inr found ↦ inl (subst (IsFirstNearer J rows v (entry_at p (suc d))) (sym (ap via_in found.1)) found.2)
  ]

  via_found : (e : Entry) → Contains (label_row rows v) e → IsRowVia J rows v e (via_in (slot_at now e.pos))
  via_found e there = found_at e.pos e.dist (slot_at now e.pos) (subst (λ s. IsAfterAll J rows v e.pos s (slot_at now e.pos)) (laid.held e there) (looked e.pos))

  pub row_found : AreRowVias J rows v (map (λ e. via_in (slot_at now e.pos)) (label_row rows v))
  row_found = AllZip-mapped (IsRowVia J rows v) (λ e. via_in (slot_at now e.pos)) (label_row rows v) via_found

  -- and it still has nothing but at positions of the row
  pub no_other : HoldsNoOther (label_row rows v) now
  no_other p = elim (laid.others p) [
    | inl none ↦ inl (subst (λ s. IsAfterAll J rows v p s (slot_at now p)) none (looked p))
    | inr there ↦ inr there
  ]
