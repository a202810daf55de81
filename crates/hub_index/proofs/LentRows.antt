-- Rows of which all, or none, have a first part.
use Rattle.std.proofs.Common.{◌≡◌, ℕ, zero, suc, ◌-◌, ◌<◌, ◌≤◌, List, [], ◌∷◌, length, get_or, refl, sym, ap, ◌∙◌, arith}
use Rattle.walk_laws.specs.declared.entry.Entry.{Entry}
use Rattle.walk_laws.specs.Labelling.{label_row}
use Rattle.hub_index.specs.CompactRows.{row_of_parts, rows_of_parts, rows_after}
use Rattle.hub_index.specs.declared.compact_row.CompactEntry.{CompactEntry}

-- without first parts they are the second ones
pub rows_after-none : (full : List (List Entry)) → rows_after [] full ≡ full
rows_after-none [] = refl
rows_after-none (row ∷ full) = ap (λ rows. row ∷ rows) (rows_after-none full)

-- with all of them they are the rows of both parts
pub rows_after-parts : (compact : List (List CompactEntry)) (full : List (List Entry)) → length compact ≡ length full → rows_after compact full ≡ rows_of_parts compact full
rows_after-parts [] [] same = refl
rows_after-parts [] (row ∷ full) same = absurd (omega (arith, same))
rows_after-parts (part ∷ compact) [] same = absurd (omega (arith, same))
rows_after-parts (part ∷ compact) (row ∷ full) same = ap (λ rows. row_of_parts part row ∷ rows) (rows_after-parts compact full (omega (arith, same)))

pub length-rows_after : (compact : List (List CompactEntry)) (full : List (List Entry)) → length (rows_after compact full) ≡ length full
length-rows_after [] [] = refl
length-rows_after [] (row ∷ full) = ap suc (length-rows_after [] full)
length-rows_after (part ∷ compact) [] = refl
length-rows_after (part ∷ compact) (row ∷ full) = ap suc (length-rows_after compact full)

-- a row is that of its parts
pub lent_at : (compact : List (List CompactEntry)) (full : List (List Entry)) (i : ℕ) → i < length full → get_or (rows_after compact full) i [] ≡ row_of_parts (get_or compact i []) (get_or full i [])
lent_at [] [] i lt = absurd (omega (arith, lt))
lent_at [] (row ∷ full) zero lt = refl
lent_at [] (row ∷ full) (suc i) lt = lent_at [] full i (omega (arith, lt))
lent_at (part ∷ compact) [] i lt = absurd (omega (arith, lt))
lent_at (part ∷ compact) (row ∷ full) zero lt = refl
lent_at (part ∷ compact) (row ∷ full) (suc i) lt = lent_at compact full i (omega (arith, lt))

-- what is read of both parts is the row
pub row_lent : (compact : List (List CompactEntry)) (full rows : List (List Entry)) (v : ℕ) (es : List CompactEntry) (ws : List Entry) → rows_after compact full ≡ rows → 1 ≤ v → v ≤ length full → es ≡ get_or compact (v - 1) [] → ws ≡ label_row full v → row_of_parts es ws ≡ label_row rows v
row_lent compact full rows v es ws is from_one within compact_is full_is =
    ap (λ n. row_of_parts n ws) compact_is
    ∙ ap (row_of_parts (get_or compact (v - 1) [])) full_is
    ∙ sym (lent_at compact full (v - 1) (omega (arith, from_one, within)))
    ∙ ap (λ rs. label_row rs v) is
