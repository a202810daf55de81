-- A row in two parts: how long it is, and where its entries stand.
use Rattle.std.proofs.Common.{◌≡◌, ℕ, ◌+◌, ◌<◌, List, All, length, map, get_or, sym, ap, subst, ◌∙◌, arith}
use Rattle.std.proofs.lemmas.List.{length-append, length-map, get_or-map, get_or_append_left, get_or-append-add}
use Rattle.walk_laws.specs.declared.entry.Entry.{Entry}
use Rattle.hub_index.specs.CompactRows.{widened, row_of_parts}
use Rattle.hub_index.specs.declared.compact_row.CompactEntry.{CompactEntry}

module _ (compact : List CompactEntry) (full : List Entry) where
  first_size : length (map (λ e. widened e) compact) ≡ length compact
  first_size = length-map compact (λ e. widened e)

  pub length-row_of_parts : length (row_of_parts compact full) ≡ length compact + length full
  length-row_of_parts = omega (arith, length-append (map (λ e. widened e) compact) full, first_size)

  pub compact_at : (i : ℕ) (d : Entry) (e : CompactEntry) → i < length compact → get_or (row_of_parts compact full) i d ≡ widened (get_or compact i e)
  compact_at i d e lt =
      get_or_append_left (map (λ e. widened e) compact) full d i (omega (arith, lt, first_size))
      ∙ get_or-map (λ e. widened e) compact i e d lt

  pub full_at : (i : ℕ) (d : Entry) → get_or (row_of_parts compact full) (length compact + i) d ≡ get_or full i d
  full_at i d =
      ap (λ k. get_or (row_of_parts compact full) (k + i) d) (sym first_size)
      ∙ get_or-append-add (map (λ e. widened e) compact) full i d

  -- what holds of the row holds of its second part
  pub All-full : (P : Entry → Type 0) → All P (row_of_parts compact full) → All P full
  All-full P all k d lt = subst P (full_at k d) (all (length compact + k) d (omega (arith, lt, length-row_of_parts)))
