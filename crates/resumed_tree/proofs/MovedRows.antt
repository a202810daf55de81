-- A row whose last entries move up one place, from the end: one place is free, whatever stands there.
use Rattle.std.proofs.Common.{◌≡◌, ℕ, ◌+◌, ◌-◌, ◌<◌, ◌≤◌, List, [], ◌∷◌, ◌++◌, length, get_or, get_or-set_same, insert, set, take, drop, sym, ap, ◌∙◌, arith}
use Rattle.std.proofs.lemmas.List.{append_assoc, drop_more, get_or_past, length-take, set_at, set-set, take_more}
use Rattle.std.proofs.lemmas.List.Edits.{insert_end}

module _ {X : Type 0} (row : List X) where
  -- after a push the last place is free
  pub last_free : (n : ℕ) (x : X) → n ≡ length row → row ++ x ∷ [] ≡ insert row n (get_or row n x)
  last_free n x end = sym (ap (insert row n) (get_or_past row n x (omega (arith, end))) ∙ ap (λ k. insert row k x) end ∙ insert_end row x)

  -- the free place is filled
  pub set-insert : (k : ℕ) (x y : X) → k ≤ length row → set (insert row k x) k y ≡ insert row k y
  set-insert k x y within = set_at (take k row) x (drop k row) y k (omega (arith, within, length-take k row))

  -- what stands at a place may come before itself, or after
  insert_twin : (k : ℕ) (d : X) → k < length row → insert row (k + 1) (get_or row k d) ≡ insert row k (get_or row k d)
  insert_twin k d within =
      let twin = get_or row k d in
      ap (λ xs. xs ++ twin ∷ drop (k + 1) row) (take_more row k d within) ∙ append_assoc (take k row) (twin ∷ []) (twin ∷ drop (k + 1) row) ∙ ap (λ xs. take k row ++ twin ∷ xs) (sym (drop_more row k d within))

  -- what stands before the free place moves there
  pub move_up : (free : ℕ) (x d : X) → 1 ≤ free → free ≤ length row → set (insert row free x) free (get_or row (free - 1) d) ≡ insert row (free - 1) (get_or row (free - 1) d)
  move_up free x d some within =
      let next : free - 1 + 1 ≡ free = omega (arith, some) in
      set-insert free x (get_or row (free - 1) d) within ∙ ap (λ k. insert row k (get_or row (free - 1) d)) (sym next) ∙ insert_twin (free - 1) d (omega (arith, some, within))

-- a row that was changed is changed again
pub changed_again : {X : Type 0} (rows now next : List (List X)) (i : ℕ) (row : List X) (change : List X → List X) → i < length rows → now ≡ set rows i row → next ≡ set now i (change (get_or now i [])) → next ≡ set rows i (change row)
changed_again rows now next i row change inside first second =
    let here = ap (λ rs. get_or rs i []) first ∙ get_or-set_same rows i row [] inside in
    second ∙ ap (λ r. set now i (change r)) here ∙ ap (λ rs. set rs i (change row)) first ∙ set-set rows i row (change row)
