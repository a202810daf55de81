use Rattle.std.proofs.Common.{◌≡◌, ℕ, ◌<◌, false, length, get_or, take}
use Rattle.std.specs.Slots.{slots_filled, slots_items, slots_len}
use Rattle.std.specs.Slots.Ownership.{Filled}
use Rattle.label_rows.proofs.rows.taken_out.Given as goal

-- the rows up to the place are out of their slots
abbrev pub invariant-loop-place : goal.invariant-loop-place
invariant-loop-place l = record {
  size : length l.rows.items ≡ slots_len l.fn.closed.slots;
  len : slots_len l.closed.slots ≡ slots_len l.fn.closed.slots;
  items : slots_items l.closed.slots ≡ slots_items l.fn.closed.slots;
  taken : take l.place l.rows.items ≡ take l.place (slots_items l.fn.closed.slots);
  full : Filled (slots_filled l.closed.slots) l.place (slots_len l.closed.slots);
  empty : (k : ℕ) → k < l.place → get_or (slots_filled l.closed.slots) k false ≡ false;
}
